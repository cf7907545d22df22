-- Which of the two preambles bytes are, if any (request 2026-01: "given 32 bytes, say upright, inverted or neither").
-- Assumes nothing.
use Rattle.std.specs.Prelude.{ℕ, not, List, [], ◌∷◌, eqb, length, Option, None, Some, Result, Ok, Err}
use Rattle.ground.specs.Outcome.{Outcome, Told}
use Rattle.ground.specs.Choice.{choose, Fault, refuse, first_of, refusing, verdict}
use Rattle.ground.specs.Table.{same}
use Rattle.ground.specs.declared.refusal.Refusal.{Refusal}
use Rattle.ground.specs.Refusals.{number}
use Rattle.preamble.specs.Preamble.{sof, sof_inverted}
use Rattle.preamble_form.specs.declared.Form.{Form}
use Rattle.preamble_form.specs.declared.Form.TheVariants.{Upright, Inverted}

-- 1 for the upright preamble, 2 for the inverted one, 0 for what is neither
unfoldable pub form_of : List ℕ → ℕ
form_of w = choose (same w sof) 1 (choose (same w sof_inverted) 2 0)

-- the answer in numbers: the refusal's, 0 for 32 bytes, and the form of those
abbrev pub told : Result (Option Form) Refusal → Told
told (Ok None) = record { number = 0; values = 0 ∷ [] }
told (Ok (Some Upright)) = record { number = 0; values = 1 ∷ [] }
told (Ok (Some Inverted)) = record { number = 0; values = 2 ∷ [] }
told (Err e) = record { number = number e; values = [] }

-- other than 32 bytes are refused with 1
abbrev pub form_faults : List ℕ → List Fault
form_faults w = refuse 1 (not (eqb (length w) 32)) ∷ []

-- what is told of bytes
unfoldable pub forming : List ℕ → Told
forming w = verdict (form_faults w) (form_of w ∷ [])

-- the form put into one byte, whose length is looked at with that of the bytes
unfoldable pub form_into : List ℕ → List ℕ → Outcome ℕ (List ℕ)
form_into w out = refusing (first_of (refuse 1 (not (eqb (length out) 1)) ∷ form_faults w)) (form_of w ∷ []) out
