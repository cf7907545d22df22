-- `tables::weights::weights_of` meets its contract. Assumes nothing.
use Prim.Native.Nat.{ℕ, ◌+◌, ◌-◌, ◌*◌, ◌%◌, ◌^◌, ◌≤◌, ◌<◌}
use mathlib.Core.Path.{◌≡◌, subst}
use mathlib.Core.List.{List}
use native.Mathlib.Omega.{arith}
use Rattle.tables.proofs.Weighing.{Weighing, weighing_more, weighing_all, behind_most, shifted_bit}
use Rattle.tables.proofs.weights.weights_of.Goals as goal

-- room for one bit more
few : {rows w : List ℕ} {h bits i : ℕ} → Weighing rows h w bits i → 0 < i → bits ≤ 35
few {rows} {w} {h} {bits} {i} W l = omega (arith, W.count, W.top, behind_most rows h i W.top)

pub overflow_shl-weights : goal.overflow_shl-weights
overflow_shl-weights c = omega (arith, few c.loop-i.invariant c.loop-i-test.true)

pub overflow_add-bits : goal.overflow_add-bits
overflow_add-bits c = omega (arith, few c.loop-i.invariant c.loop-i-test.true, c.digit_at-d.ensures.1)

pub loop-i-preserved : goal.loop-i-preserved
loop-i-preserved c =
    let l = c.loop-i in
    let a = c.args in
    let d = c.digit_at-d.ensures in
    let e : l.i ≡ l.i - 1 + 1 = omega (arith, c.loop-i-test.true) in
    weighing_more a.rows.now a.h l.weights l.bits (l.i - 1) c.digit_at-d.result (c.digit_at-d.result * 2 ^ l.bits % 18446744073709551616)
    (subst (Weighing a.rows.now a.h l.weights l.bits) e l.invariant) d.0 (shifted_bit c.digit_at-d.result l.bits (omega (arith, d.1)) (few l.invariant c.loop-i-test.true))

pub returns : goal.returns
returns c =
    let l = c.loop-i in
    let a = c.args in
    let e : l.i ≡ 0 = omega (arith, c.loop-i-test.false) in
    weighing_all a.rows.now a.h (record { weights = l.weights; bits = l.bits }) (subst (Weighing a.rows.now a.h l.weights l.bits) e l.invariant)
