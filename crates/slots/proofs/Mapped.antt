-- An array that is mapped by a closure which keeps what it captured: each entry is the closure's value of the entry at its place.
-- Assumes nothing.
use Prim.Native.Nat.{ℕ, zero, suc, ◌+◌, ◌<◌}
use mathlib.Core.Path.{◌≡◌, sym, ap, ◌∙◌, subst}
use mathlib.Core.List.{List}
use native.Mathlib.Nat.{not-suc-le-zero, add-zero, zero-add}
use native.Mathlib.Omega.{arith}
use lib.ListN.{get_or}
use denote.Param.Members.{Mut, Called}
use Rattle.std.specs.Array.{MapsFrom, IsMapOf}

module _ {F A B : Type 0} (g : Mut F (A × Unit {0}) B) (Kept : F → Type 0) (h : A → B)
    (call : (f q : F) (x : A) (y : B) → Kept f → Called g f (x, tt) y q → Kept q × (y ≡ h x)) (xs : List A) (ys : List B) (d : A) (e : B) where
  abbrev At : ℕ → Type 0
  At j = get_or ys j e ≡ h (get_or xs j d)

  from : (n i : ℕ) (f : F) → Kept f → MapsFrom g f xs ys i n → (k : ℕ) → k < n → At (i + k)
  from zero i f kept m k lt = absurd (not-suc-le-zero lt)
  from (suc n) i f kept (q, x, y, in_xs, in_ys, called, rest) zero lt =
      subst At (sym (add-zero i)) (in_ys.1 e ∙ (call f q x y kept called).1 ∙ ap h (sym (in_xs.1 d)))
  from (suc n) i f kept (q, x, y, in_xs, in_ys, called, rest) (suc k) lt =
      subst At (omega arith) (from n (i + 1) q (call f q x y kept called).0 rest k (omega arith))

  pub mapped_at : (f : F) (n : ℕ) → Kept f → IsMapOf g f xs ys n → (k : ℕ) → k < n → get_or ys k e ≡ h (get_or xs k d)
  mapped_at f n kept m k lt = subst At (zero-add k) (from n 0 f kept m.each k lt)
