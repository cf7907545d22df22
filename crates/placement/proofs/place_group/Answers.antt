-- `placement::place_group` meets its contract. Assumes nothing.
use Prim.Native.Nat.{ℕ, ◌<◌}
use mathlib.Core.Path.{sym, ap, ◌∙◌, subst}
use mathlib.Core.List.{[], ◌∷◌}
use native.Mathlib.Omega.{arith}
use lib.IntN.{ℤ, pos}
use lib.ListN.{get_or, take}
use Rattle.placement.specs.Place.{held}
use Rattle.held.specs.Held.{run}
use Rattle.held.proofs.Sums.{byte_back, word_back}
use Rattle.placement.proofs.Sums.{once_run}
use Rattle.placement.proofs.Groups.{group_none, group_more, group_enough}
use borrow.Author.Rules.{rules}
use Rattle.placement.proofs.place_group.Goals as goal

pub loop-j-init : goal.loop-j-init
loop-j-init c = let a = c.args in group_none a.values.now a.at a.counts a.lane.now a.k

pub bounds-values-v : goal.bounds-values-v
bounds-values-v c =
    let a = c.args in
    omega (arith, group_enough a.values.now a.at a.counts a.lane.now a.k c.loop-j.invariant c.digit-n.ensures c.requires.0 c.loop-j-test.true)

pub overflow_add-v : goal.overflow_add-v
overflow_add-v c =
    let a = c.args in
    omega (arith, group_enough a.values.now a.at a.counts a.lane.now a.k c.loop-j.invariant c.digit-n.ensures c.requires.0 c.loop-j-test.true)

pub loop-j-preserved : goal.loop-j-preserved
loop-j-preserved c =
    let a = c.args in
    let l = c.loop-j in
    let n = c.digit-n.result in
    let few : n < 2 = subst (λ (x : ℕ). x < 2) (sym c.digit-n.ensures) (c.requires.2 _ c.loop-j-test.true) in
    let enough = group_enough a.values.now a.at a.counts a.lane.now a.k l.invariant c.digit-n.ensures c.requires.0 c.loop-j-test.true in
    let e =
    word_back c.once.result c.once.type_inv ∙ c.once.ensures ∙ ap (λ (y : ℤ). held (take n (y ∷ []))) (byte_back (get_or a.values.now l.v (pos 0)) (search rules))
    ∙ ap held (sym (once_run a.values.now l.v n (omega (arith, enough)) few)) ∙ ap (λ (x : ℕ). held (run a.values.now l.v x)) (sym c.from-v.ensures) in
    group_more a.values.now a.at a.counts a.lane.now a.k l.j c.from-v.result _ l.v l.lane l.invariant (c.from-v.ensures ∙ c.digit-n.ensures) e
