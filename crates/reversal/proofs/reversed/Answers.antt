-- `reversal::reversed` meets its contract: its formula is the rule at each of the 32 numbers, and the rule looks at no bit above the five. Assumes nothing.
use Prim.Native.Nat.{ℕ, ◌-◌, ◌*◌, ◌/◌, ◌%◌, ◌<◌}
use mathlib.Core.Path.{◌≡◌, ◌∙◌}
use native.Mathlib.Omega.{arith}
use lib.Dec.{T, eqb, eqb→eq}
use lib.Pow.{field, mod-mod-pow}
use Rattle.ground.specs.Table.{all_below}
use Rattle.ground.proofs.Table.{at_all}
use Rattle.order.specs.Order.{reversed}
use Rattle.reversal.proofs.reversed.Goals as goal

-- a formula of the code's form, by its coefficients
abbrev weighed : ℕ → ℕ → ℕ → ℕ → ℕ → ℕ → ℕ
weighed a b c d e v = a * v - b * (v / 2) - c * (v / 4) - d * (v / 8) - e * (v / 16)

-- it is the reversal where one computed test over the 32 numbers says so
formula_is : (a b c d e v : ℕ) → v < 32 → T (all_below (λ w. eqb (weighed a b c d e w) (reversed w)) 32) → weighed a b c d e v ≡ reversed v
formula_is a b c d e v h t = eqb→eq (weighed a b c d e v) (reversed v) (at_all (λ w. eqb (weighed a b c d e w) (reversed w)) 32 t v h)

low_five : (x : ℕ) → reversed (x % 32) ≡ reversed x
unfolding reversed
low_five x =
    rw (mod-mod-pow x 4 1, field x 4 1, mod-mod-pow (x / 2) 3 1, field x 3 2, mod-mod-pow (x / 4) 2 1, field x 2 3, mod-mod-pow (x / 8) 1 1, field x 1 4, mod-mod-pow (x / 16) 0 1)

-- the coefficients are the code's own: of others the test is false
pub returns : goal.returns
unfolding reversed
returns c = formula_is _ _ _ _ _ (c.args.x % 32) (omega arith) tt ∙ low_five c.args.x
