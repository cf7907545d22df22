-- Laws of signed sums: that of a place's copies, and that of a value which is sent at most once.
-- Assumes nothing.
use Prim.Native.Nat.{ℕ, zero, suc, ◌<◌}
use mathlib.Core.Path.{◌≡◌, refl, sym, ap, ◌∙◌, subst}
use native.Mathlib.Nat.{add-zero}
use mathlib.Core.List.{List, [], ◌∷◌}
use native.Mathlib.Omega.{arith}
use lib.ListN.{length, get_or, take}
use lib.IntN.{ℤ, pos, ◌+ℤ◌, ◌*ℤ◌, +ℤ_idr, one, *ℤ-zero, *ℤ-one}
use lib.Signed.{mag}
use Rattle.placement.specs.Place.{held}
use Rattle.held.specs.Held.{run, sum}
use Rattle.held.proofs.Sums.{run_more}

-- a place's sum is that of its copies
pub same_sum : (copies : List ℤ) → sum copies ≡ held copies
unfolding sum held
same_sum [] = refl
same_sum (v ∷ copies) = ap (λ (s : ℤ). v +ℤ s) (same_sum copies)

-- the product of a value and how often it is sent, at most once
pub product_is : (x : ℤ) (n : ℕ) → n < 2 → x *ℤ pos n ≡ held (take n (x ∷ []))
unfolding held one
product_is x zero l = *ℤ-zero x
product_is x (suc zero) l = *ℤ-one x ∙ sym (+ℤ_idr x)
product_is x (suc (suc n)) l = absurd (omega arith)

pub once_mag : (x : ℤ) (n : ℕ) → mag x < 128 → n < 2 → mag (held (take n (x ∷ []))) < 128
unfolding held
once_mag x zero h l = omega arith
once_mag x (suc zero) h l = subst (λ (z : ℤ). mag z < 128) (sym (+ℤ_idr x)) h
once_mag x (suc (suc n)) h l = absurd (omega arith)

-- the run of a value that is sent at most once
pub once_run : (values : List ℤ) (at n : ℕ) → at < length values → n < 2 → run values at n ≡ take n (get_or values at (pos 0) ∷ [])
once_run values at zero h l = refl
once_run values at (suc zero) h l = run_more values at 0 (omega arith) ∙ ap (λ (i : ℕ). get_or values i (pos 0) ∷ []) (add-zero at)
once_run values at (suc (suc n)) h l = absurd (omega arith)
