-- Laws of the two preambles: their bytes, that they differ in every bit, how many ones they have, and how one is written or refused.
-- Assumes nothing.
use Prim.Native.Nat.{ℕ, ◌<◌}
use mathlib.Core.Bool.{Bool, true, false, not}
use mathlib.Core.Path.{◌≡◌, refl, sym, subst}
use mathlib.Core.List.{List}
use native.Mathlib.Omega.{arith}
use borrow.Author.Tests.{eq-eqb, ne_eqb}
use lib.Dec.{eqb, T, T_not}
use lib.ListN.{length}
use Rattle.ground.specs.Outcome.{Is}
use Rattle.ground.specs.Table.{all_below}
use Rattle.ground.proofs.Refusing.{refusal_leaves, acceptance_leaves}
use Rattle.ground.proofs.Table.{at_all}
use Rattle.bits.specs.Lists.{bits, num, unpack, pack}
use Rattle.bits.specs.Places.{bit_at}
use Rattle.bits.specs.Sums.{ones}
use Rattle.preamble.specs.Preamble.{sof, inverse, sof_inverted, due, written}
use Rattle.preamble.specs.Alternates.{Opposite, Balanced}

pub due_length : (c : Bool) → length (due c) ≡ 32
unfolding due sof sof_inverted pack
due_length true = refl
due_length false = refl

-- the two differ in every bit
unfoldable differs : ℕ → Bool
differs i = not (eqb (bit_at sof i) (bit_at sof_inverted i))

all_differ : T (all_below differs 256)
unfolding differs sof sof_inverted inverse pack unpack bits num bit_at
all_differ = tt

bit_differs : (i : ℕ) → i < 256 → bit_at sof i ≡ bit_at sof_inverted i → ⊥
unfolding differs
bit_differs i h e = T_not (eqb (bit_at sof i) (bit_at sof_inverted i)) (at_all differs 256 all_differ i h) (subst T (sym (eq-eqb _ _ e)) tt)

pub opposite : (c : Bool) → Opposite (due c) (due (not c))
unfolding due
opposite true = (due_length true, due_length false, λ i h e. bit_differs i h (sym e))
opposite false = (due_length false, due_length true, bit_differs)

-- each has as many ones as zeros
pub balanced : (c : Bool) → Balanced (due c)
unfolding due sof sof_inverted inverse pack unpack bits num ones
balanced true = (refl, refl)
balanced false = (refl, refl)

module _ (c : Bool) (out : List ℕ) where
  pub refused : (length out ≡ 32 → ⊥) → Is (written c out) 1 out
  unfolding written
  refused h = refusal_leaves _ (due c) out (simp (ne_eqb (length out) 32 h)) (λ e. omega (arith, e))

  pub done : (out' : List ℕ) → length out ≡ 32 → out' ≡ due c → Is (written c out) 0 out'
  unfolding written
  done out' h e = acceptance_leaves _ (due c) out (simp (eq-eqb (length out) 32 h)) e
