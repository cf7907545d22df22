-- Laws of a call that may refuse.
-- Assumes nothing.
use Prim.Native.Nat.{ℕ}
use mathlib.Core.Path.{◌≡◌, sym, ◌∙◌}
use borrow.Author.Tests.{eq-eqb, ne_eqb}
use Rattle.ground.specs.Outcome.{Is}
use Rattle.ground.specs.Choice.{refusing}
use Rattle.ground.proofs.Choice.{choose_true, choose_false}

-- a refusal leaves what was there
pub refusal_leaves : {M : Type 0} (n : ℕ) (new old : M) {r : ℕ} → r ≡ n → (r ≡ 0 → ⊥) → Is (refusing n new old) r old
refusal_leaves n new old e h = record { answer = e; memory = sym (choose_false new old (ne_eqb n 0 (λ z. h (e ∙ z)))) }

-- a call that does not refuse leaves the new contents
pub acceptance_leaves : {M : Type 0} (n : ℕ) (new old : M) {m : M} → n ≡ 0 → m ≡ new → Is (refusing n new old) 0 m
acceptance_leaves n new old z e = record { answer = sym z; memory = e ∙ sym (choose_true new old (eq-eqb n 0 z)) }
