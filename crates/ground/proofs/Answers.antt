-- Laws of a verdict: which of the two it is, a refusal's number alone or 0 with its values, and what it says of the faults.
-- Assumes nothing.
use mathlib.Core.Path.{◌≡◌, refl, sym, ap, ◌∙◌}
use mathlib.Core.List.{List, [], ◌∷◌}
use Prim.Native.Nat.{ℕ}
use native.Mathlib.Decide.{ℕ_discrete}
use native.Mathlib.Omega.{arith}
use lib.Dec.{eqb}
use borrow.Author.Tests.{eq-eqb, ne_eqb}
use Rattle.ground.specs.Choice.{choose, Fault, first_of, verdict}
use Rattle.ground.specs.Outcome.{Outcome, Is, Told}
use Rattle.ground.proofs.Choice.{choose_true, choose_false}
use Rattle.ground.proofs.Outcome.{gave, values_length}

-- a refusal's number, alone
abbrev pub refused_by : ℕ → Told
refused_by n = record { number = n; values = [] }

-- an acceptance, with its values
abbrev pub accepted_with : List ℕ → Told
accepted_with vs = record { number = 0; values = vs }

module _ (l : List Fault) (vs : List ℕ) where
  pub verdict_accepted : first_of l ≡ 0 → verdict l vs ≡ accepted_with vs
  verdict_accepted e = choose_true _ _ (eq-eqb (first_of l) 0 e)

  pub verdict_refused : {n : ℕ} → first_of l ≡ n → (n ≡ 0 → ⊥) → verdict l vs ≡ refused_by n
  verdict_refused e h = choose_false (accepted_with vs) (refused_by (first_of l)) (ne_eqb (first_of l) 0 (λ z. h (sym e ∙ z))) ∙ ap refused_by e

  pub verdict_number : (verdict l vs).number ≡ first_of l
  verdict_number =
      elim (ℕ_discrete (first_of l) 0) [
        | yes z ↦ ap (λ t. t.number) (verdict_accepted z) ∙ sym z
        | no h ↦ ap (λ t. t.number) (verdict_refused refl h)
      ]

-- an acceptance that has values is no refusal, and the other way round
module _ (l : List Fault) (v : ℕ) (vs : List ℕ) where
  pub refused_by_lem : {n : ℕ} → refused_by n ≡ verdict l (v ∷ vs) → (first_of l ≡ 0 → ⊥) × (n ≡ first_of l)
  refused_by_lem e = (λ z. absurd (omega (arith, values_length (e ∙ verdict_accepted l (v ∷ vs) z))), ap (λ t. t.number) e ∙ verdict_number l (v ∷ vs))

  pub accepted_with_lem : {n : ℕ} {ns : List ℕ} → accepted_with (n ∷ ns) ≡ verdict l (v ∷ vs) → (first_of l ≡ 0) × (n ∷ ns ≡ v ∷ vs)
  accepted_with_lem e =
      elim (ℕ_discrete (first_of l) 0) [
        | yes z ↦ (z, ap (λ t. t.values) (e ∙ verdict_accepted l (v ∷ vs) z))
        | no h ↦ absurd (omega (arith, values_length (e ∙ verdict_refused l (v ∷ vs) refl h)))
      ]

-- a call that is refused by a number leaves the memory as it was
pub refused_call : {M : Type 0} (o : Outcome Told M) (m : M) (r : ℕ) {n : ℕ} → r ≡ n → (n ≡ 0 → ⊥)
    → Is (choose (eqb r 0) o (record { answer = refused_by r; memory = m })) (refused_by n) m
refused_call o m r e h =
    gave (choose_false _ _ (ne_eqb r 0 (λ z. h (sym e ∙ z))) ∙ ap (λ (k : ℕ). record { answer = refused_by k; memory = m }) e)
