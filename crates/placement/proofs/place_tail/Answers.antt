-- `placement::place_tail` meets its contract. Assumes nothing.
use Prim.Native.Nat.{ℕ, ◌+◌, ◌*◌}
use mathlib.Core.Path.{sym, ap, ◌∙◌, subst}
use native.Mathlib.Omega.{arith}
use Rattle.held.specs.Held.{run}
use Rattle.held.proofs.Sums.{word_back}
use Rattle.placement.specs.Place.{held}
use Rattle.placement.specs.Inside.{Placed}
use Rattle.placement.proofs.Sums.{same_sum}
use Rattle.placement.proofs.Groups.{placed_more, tail_next}
use Rattle.placement.proofs.place_tail.Goals as goal

pub overflow_add-v : goal.overflow_add-v
overflow_add-v c = omega (arith, tail_next c.requires.0 c.loop-k.invariant c.loop-k-test.true c.entries-entries.ensures c.digit-c.ensures c.from-v.ensures)

pub loop-k-preserved : goal.loop-k-preserved
loop-k-preserved c =
    let a = c.args in
    let l = c.loop-k in
    let n = c.from-v.result in
    let next = tail_next c.requires.0 l.invariant c.loop-k-test.true c.entries-entries.ensures c.digit-c.ensures c.from-v.ensures in
    subst (Placed a.pattern a.n a.values.now _ _) (omega arith)
    (placed_more a.pattern a.n a.values.now l.lane l.v (5 * a.n + l.k) n _ l.invariant (omega arith) next.0
    (word_back c.sum.result c.sum.type_inv ∙ c.sum.ensures ∙ same_sum (run a.values.now l.v c.digit-c.result) ∙ ap (λ (x : ℕ). held (run a.values.now l.v x)) (sym c.from-v.ensures)))
