-- `tables::weights::digit_at` meets its contract. Assumes nothing.
use Prim.Native.Nat.{ℕ, ◌%◌}
use mathlib.Core.Path.{◌≡◌, sym, ap, ◌∙◌}
use native.Mathlib.Omega.{arith}
use Rattle.constituent.specs.Segment.{digit_at}
use Rattle.tables.specs.Plan.{half_at}
use Rattle.tables.proofs.Weighing.{half_data, half_then}
use borrow.Author.Rules.{rules}
use Rattle.tables.proofs.weights.digit_at.Goals as goal

pub returns-then-i-lt30 : goal.returns-then-i-lt30
unfolding digit_at
returns-then-i-lt30 c =
    let a = c.args in
    let e : c.digit.result % 2 ≡ half_at a.rows.now a.h a.i = ap (λ (x : ℕ). x % 2) c.digit.ensures ∙ sym (half_data a.rows.now a.h a.i c.if-i-lt30.true) in
    (e, omega (arith, e))

pub returns : goal.returns
returns c = let a = c.args in (sym (half_then a.rows.now a.h a.i (search rules)), omega arith)
