-- The two preambles, over the definitions: what a call that wrote a preamble left.
-- Assumes nothing.
use Prim.Native.Nat.{ℕ}
use mathlib.Core.Bool.{Bool, not}
use mathlib.Core.Path.{◌≡◌, refl, sym, ap, ◌∙◌, subst}
use mathlib.Core.List.{List}
use native.Mathlib.Decide.{ℕ_discrete}
use native.Mathlib.Omega.{arith}
use lib.ListN.{length}
use Rattle.ground.specs.Outcome.{Is}
use Rattle.ground.proofs.Outcome.{agree}
use Rattle.preamble.specs.Preamble.{due, written}
use Rattle.preamble.specs.Alternates.{Opposite, Balanced}
use Rattle.preamble.proofs.Laws.{opposite, balanced, refused, done}

-- after a call that wrote a preamble
module _ (c : Bool) (out m : List ℕ) (r : ℕ) (o : Is (written c out) r m) (z : r ≡ 0) where
  -- it left the preamble that is due
  pub left : m ≡ due c
  left =
      elim (ℕ_discrete (length out) 32) [
        | yes h ↦ (agree o (done c out (due c) h refl)).1
        | no h ↦ absurd (omega (arith, z, (agree o (refused c out h)).0))
      ]

  pub left_balanced : Balanced m
  left_balanced = subst Balanced (sym left) (balanced c)

-- and two such calls with opposite choices left preambles that differ in all bits
pub left_opposite : (c c' : Bool) (out m out' m' : List ℕ) (r r' : ℕ) → Is (written c out) r m → r ≡ 0 → Is (written c' out') r' m' → r' ≡ 0 → c' ≡ not c
    → Opposite m m'
left_opposite c c' out m out' m' r r' o z o' z' e =
    subst (λ (v : List ℕ). Opposite v m') (sym (left c out m r o z))
    (subst (Opposite (due c)) (sym (left c' out' m' r' o' z' ∙ ap due e)) (opposite c))
