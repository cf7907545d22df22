-- What is asked of the forms of the two preambles, as propositions. The theorems say that they hold of the functions' own promises
-- (proofs/Promised.antt here, and proofs/Preambles.antt of crate opl).
-- Assumes nothing.
use Rattle.std.specs.Prelude.{ℕ, ◌≤◌, Bool, ◌≡◌, ◌↔◌, List, Option, Some, Result, Ok}
use Rattle.ground.specs.Choice.{choose}
use Rattle.ground.specs.declared.refusal.Refusal.{Refusal}
use Rattle.preamble.specs.Preamble.{sof, sof_inverted}
use Rattle.preamble_form.specs.declared.Form.{Form}
use Rattle.preamble_form.specs.declared.Form.TheVariants.{Upright, Inverted}

-- the answer for the preamble that is due: its form
abbrev pub asked : Bool → Result (Option Form) Refusal
asked inverted = Ok (Some (choose inverted Inverted Upright))

-- the form of bytes is just one of three, and says which bytes they are
pub record Formed (w : List ℕ) (form : ℕ) : Type 0 where
  pub one : form ≤ 2
  pub upright : (form ≡ 1) ↔ (w ≡ sof)
  pub inverted : (form ≡ 2) ↔ (w ≡ sof_inverted)
  pub neither : (form ≡ 0) ↔ ((w ≡ sof → ⊥) × (w ≡ sof_inverted → ⊥))
