-- `taps::any_taps_wrong` meets its contract. Assumes nothing.
use mathlib.Core.Path.{sym, ◌∙◌}
use Rattle.taps.proofs.Tapping.{tapped_none, tapped_found, tapped_more, tapped_done}
use borrow.Author.Rules.{rules}
use Rattle.taps.proofs.any_taps_wrong.Goals as goal

pub loop-i-init : goal.loop-i-init
loop-i-init c = let a = c.args in tapped_none a.w.now a.v a.p

pub returns-then-taps_wrong : goal.returns-then-taps_wrong
returns-then-taps_wrong c =
    let a = c.args in
    let q = c.pipe_at-q in
    sym (tapped_found a.w.now a.v a.p c.loop-i.invariant (search rules) _ q.ensures (sym c.taps_wrong.ensures ∙ c.if-taps_wrong.true))

pub loop-i-preserved : goal.loop-i-preserved
loop-i-preserved c =
    let a = c.args in
    let q = c.pipe_at-q in
    tapped_more a.w.now a.v a.p c.loop-i.invariant (search rules) _ q.ensures (search rules) (search rules) (sym c.taps_wrong.ensures ∙ c.if-taps_wrong.false)

pub returns : goal.returns
returns c = let a = c.args in sym (tapped_done a.w.now a.v a.p c.loop-i.invariant (search rules))
