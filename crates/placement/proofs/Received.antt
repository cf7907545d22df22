-- The values of a place stand together, behind those of the places before it.
-- Assumes nothing.
use Prim.Native.Nat.{ℕ, zero, suc, ◌≤◌, ◌<◌}
use mathlib.Core.Path.{◌≡◌, refl, sym, ap, ap₂, ◌∙◌}
use mathlib.Core.List.{List, [], ◌∷◌, ◌++◌, append-nil}
use native.Mathlib.Nat.{not-suc-le-zero}
use native.Mathlib.Decide.{dec_lt}
use native.Mathlib.Omega.{arith}
use lib.Dec.{eqb}
use lib.ListN.{length, take, drop, replicate}
use lib.IntN.{ℤ}
use borrow.Author.Tests.{eq-eqb, ne_eqb}
use Rattle.ground.specs.Choice.{choose}
use Rattle.ground.proofs.Choice.{choose_true, choose_false, choose_ap}
use Rattle.patterns.specs.Sent.{spread, total}
use Rattle.patterns.proofs.Spread.{length_spread}
use Rattle.placement.specs.Place.{received_from}
use Rattle.held.specs.Held.{run}

received_nil : (from : List ℕ) (k : ℕ) → received_from from [] k ≡ []
unfolding received_from
received_nil [] k = refl
received_nil (f ∷ from) k = refl

-- what was received from two lists of places, one behind the other
received_append : (a b : List ℕ) (values : List ℤ) (k : ℕ) → received_from (a ++ b) values k ≡ received_from a values k ++ received_from b (drop (length a) values) k
unfolding received_from
received_append [] b values k = refl
received_append (f ∷ a) b [] k = sym (received_nil b k)
received_append (f ∷ a) b (v ∷ values) k =
    ap (λ (l : List ℤ). choose (eqb f k) (v ∷ l) l) (received_append a b values k)
    ∙ sym (choose_ap (λ (l : List ℤ). l ++ received_from b (drop (length a) values) k) (eqb f k) (v ∷ received_from a values k) (received_from a values k))

-- copies of the place itself take the values in order, copies of another take none
received_own : (n k : ℕ) (values : List ℤ) → received_from (replicate n k) values k ≡ take n values
unfolding received_from
received_own zero k values = refl
received_own (suc n) k [] = refl
received_own (suc n) k (v ∷ values) = choose_true _ _ (eq-eqb k k refl) ∙ ap (λ (l : List ℤ). v ∷ l) (received_own n k values)

received_other : (n f k : ℕ) (values : List ℤ) → (f ≡ k → ⊥) → received_from (replicate n f) values k ≡ []
unfolding received_from
received_other zero f k values h = refl
received_other (suc n) f k [] h = refl
received_other (suc n) f k (v ∷ values) h = choose_false _ _ (ne_eqb f k h) ∙ received_other n f k values h

module _ (c : ℕ → ℕ) (values : List ℤ) (k : ℕ) where
  -- nothing is sent from a place before it comes
  received_late : (m : ℕ) → m ≤ k → received_from (spread c (λ i. i) m) values k ≡ []
  unfolding spread received_from
  received_late zero h = refl
  received_late (suc m) h =
      received_append (spread c (λ i. i) m) (replicate (c m) m) values k
      ∙ ap₂ (λ (a b : List ℤ). a ++ b) (received_late m (omega arith)) (received_other (c m) m k (drop (length (spread c (λ i. i) m)) values) (omega arith))

  pub received_run : (m : ℕ) → k < m → received_from (spread c (λ i. i) m) values k ≡ run values (total c k) (c k)
  unfolding spread
  received_run zero h = absurd (not-suc-le-zero h)
  received_run (suc m) h =
      received_append (spread c (λ i. i) m) (replicate (c m) m) values k
      ∙ elim (dec_lt k m) [
        | yes l ↦ ap₂ (λ (a b : List ℤ). a ++ b) (received_run m l) (received_other (c m) m k (drop (length (spread c (λ i. i) m)) values) (omega arith))
            ∙ append-nil (run values (total c k) (c k))
        | no l ↦ last (omega arith)
      ]
    where
      last : m ≡ k → received_from (spread c (λ i. i) m) values k ++ received_from (replicate (c m) m) (drop (length (spread c (λ i. i) m)) values) k
          ≡ run values (total c k) (c k)
      last e =
          ap (λ (l : List ℤ). l ++ received_from (replicate (c m) m) (drop (length (spread c (λ i. i) m)) values) k) (received_late m (omega arith))
          ∙ ap (λ (i : ℕ). received_from (replicate (c i) i) (drop (length (spread c (λ j. j) i)) values) k) e
          ∙ received_own (c k) k (drop (length (spread c (λ i. i) k)) values)
          ∙ ap (λ (i : ℕ). take (c k) (drop i values)) (length_spread c (λ i. i) k)
