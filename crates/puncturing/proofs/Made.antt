-- A law of an array that is made by calls: each call gives the entry of a rule, and leaves the closure as it was.
-- Assumes nothing.
use denote.Param.Members.{Mut}
use mathlib.Core.Path.{◌≡◌, ap, sym, ◌∙◌, subst}
use mathlib.Core.List.{List}
use Prim.Native.Nat.{ℕ, zero, suc, ◌+◌, ◌≤◌, ◌<◌}
use native.Mathlib.Decide.{ℕ_discrete}
use native.Mathlib.Omega.{arith}
use lib.ListN.{get_or}
use Rattle.std.specs.Fn.{Called}
use Rattle.std.specs.Array.{IsFromFnResultFrom}

module _ {F B : Type 0} (g : Mut F (ℕ × Unit {0}) B) (f : F) (h : ℕ → B) (d : B) (gives : (i : ℕ) (y : B) (q : F) → Called g f (i, tt) y q → (q ≡ f) × (y ≡ h i)) where
  pub made_at : (ys : List B) (i n : ℕ) → IsFromFnResultFrom g f ys i n → (k : ℕ) → i ≤ k → k < i + n → get_or ys k d ≡ h k
  made_at ys i zero made k l m = absurd (omega arith)
  made_at ys i (suc n) (q, y, here, called, rest) k l m =
      let one = gives i y q called in
      elim (ℕ_discrete k i) [
        | yes e ↦ ap (λ (j : ℕ). get_or ys j d) e ∙ here.1 d ∙ one.1 ∙ ap h (sym e)
        | no e ↦ made_at ys (i + 1) n (subst (λ (p : F). IsFromFnResultFrom g p ys (i + 1) n) one.0 rest) k (omega arith) (omega arith)
      ]
