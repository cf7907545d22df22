-- `sheets::owned::owned_at` meets its contract. Assumes nothing.
use Rattle.std.proofs.Common.{rules, ap, ◌∙◌}
use Rattle.sheets.specs.Owned.{owned_at}
use Rattle.sheets.proofs.Owning.{sum_none, sum_more, pipe_small}
use Rattle.sheets.proofs.owned.owned_at.Goals as goal

pub loop-i-init : goal.loop-i-init
loop-i-init c = sum_none c.args.w.now c.args.at

pub overflow_add-s : goal.overflow_add-s
overflow_add-s c =
    let a = c.args in
    let b = pipe_small a.w.now a.at c.loop-i.i _ c.pipe_at-pipe.ensures in
    search rules

pub overflow_add-d : goal.overflow_add-d
overflow_add-d c =
    let a = c.args in
    let b = pipe_small a.w.now a.at c.loop-i.i _ c.pipe_at-pipe.ensures in
    search rules

pub loop-i-preserved : goal.loop-i-preserved
loop-i-preserved c = sum_more c.args.w.now c.args.at c.loop-i.invariant _ c.pipe_at-pipe.ensures

pub returns : goal.returns
returns c = c.loop-i.invariant.is ∙ ap (owned_at c.args.w.now c.args.at) (search rules)
