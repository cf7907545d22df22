-- Document 01's number, and the values that go with it, for each case of what is said of a word or of a sheet.
-- Assumes nothing.
use Rattle.std.specs.Prelude.{ℕ, Result, Ok, Err, [], ◌∷◌}
use Rattle.ground.specs.Outcome.{Told}
use Rattle.ground.specs.Refusals.{number}
use Rattle.ground.specs.declared.refusal.Refusal.{Refusal}
use Rattle.views.specs.declared.Counts.{Counts}

-- accepted: 0, and the counts p, s and d; refused: the refusal number alone
abbrev pub told : Result Counts Refusal → Told
told (Ok c) = record { number = 0; values = c.p ∷ c.s ∷ c.d ∷ [] }
told (Err e) = record { number = number e; values = [] }

-- the same of an answer whose refusal is a number
abbrev pub told_by : Result Counts ℕ → Told
told_by (Ok c) = record { number = 0; values = c.p ∷ c.s ∷ c.d ∷ [] }
told_by (Err n) = record { number = n; values = [] }
