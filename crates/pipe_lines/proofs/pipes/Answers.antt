-- `pipe_lines::pipes` meets its contract: after i turns the lines of i pipes are put. Assumes nothing.
use Rattle.std.proofs.Common.{◌≡◌, subst, rules, ℕ}
use Rattle.pipe_lines.proofs.Lined.{Lined, lined_none, lined_more}
use Rattle.pipe_lines.proofs.pipes.Goals as goal

pub loop-i-init : goal.loop-i-init
loop-i-init c = let a = c.args in lined_none a.out.now a.to a.sheet.now a.at

pub loop-i-preserved : goal.loop-i-preserved
loop-i-preserved c =
    let a = c.args in
    lined_more a.out.now a.to a.sheet.now a.at c.loop-i.i c.loop-i.invariant c.pipe_at-q.result c.pipe_at-q.ensures c.line-next.ensures

pub returns : goal.returns
returns c =
    let a = c.args in
    let e : c.loop-i.i ≡ a.p = search rules in
    subst (λ (i : ℕ). Lined a.out.now a.to a.sheet.now a.at c.loop-i.out c.loop-i.next i) e c.loop-i.invariant
