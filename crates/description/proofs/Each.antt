-- Laws of what holds of each entry of a list, and of sums over a list.
-- Assumes nothing.
use Prim.Native.Nat.{ℕ, zero, suc, ◌+◌, ◌≤◌, ◌<◌}
use mathlib.Core.Path.{◌≡◌, refl, ap}
use mathlib.Core.List.{List, [], ◌∷◌, ◌++◌, map}
use native.Mathlib.Nat.{not-suc-le-zero}
use native.Mathlib.Omega.{arith}
use lib.ListN.{length, get_or, take, drop}
use Rattle.description.specs.Rows.{Each, total}

module _ {A : Type 0} (P : A → Type 0) where
  pub each_append : (a b : List A) → Each P a → Each P b → Each P (a ++ b)
  each_append [] b p q = q
  each_append (x ∷ a) b p q = (p.0, each_append a b p.1 q)

  pub each_left : (a b : List A) → Each P (a ++ b) → Each P a
  each_left [] b p = tt
  each_left (x ∷ a) b p = (p.0, each_left a b p.1)

  pub each_right : (a b : List A) → Each P (a ++ b) → Each P b
  each_right [] b p = p
  each_right (x ∷ a) b p = each_right a b p.1

  pub each_take : (n : ℕ) (a : List A) → Each P a → Each P (take n a)
  each_take zero a h = tt
  each_take (suc n) [] h = tt
  each_take (suc n) (x ∷ a) h = (h.0, each_take n a h.1)

  pub each_drop : (n : ℕ) (a : List A) → Each P a → Each P (drop n a)
  each_drop zero a h = h
  each_drop (suc n) [] h = tt
  each_drop (suc n) (x ∷ a) h = each_drop n a h.1

pub each_map : {A : Type 0} {P Q : A → Type 0} → ((x : A) → P x → Q x) → (l : List A) → Each P l → Each Q l
each_map f [] h = tt
each_map f (x ∷ l) h = (f x h.0, each_map f l h.1)

pub total_take : {A : Type 0} (f : A → ℕ) (l : List A) (i : ℕ) (z : A) → i < length l → total f (take (suc i) l) ≡ total f (take i l) + f (get_or l i z)
unfolding total
total_take f [] i z h = absurd (not-suc-le-zero h)
total_take f (x ∷ l) zero z h = omega arith
total_take f (x ∷ l) (suc i) z h = omega (arith, total_take f l i z (omega arith))

pub total_le : {A : Type 0} (f : A → ℕ) (l : List A) (i : ℕ) → total f (take i l) ≤ total f l
unfolding total
total_le f l zero = omega arith
total_le f [] (suc i) = omega arith
total_le f (x ∷ l) (suc i) = omega (arith, total_le f l i)

pub total_map : {A B : Type 0} (g : A → B) (f : B → ℕ) (l : List A) → total f (map g l) ≡ total (λ x. f (g x)) l
unfolding total
total_map g f [] = refl
total_map g f (x ∷ l) = ap (λ (n : ℕ). f (g x) + n) (total_map g f l)
