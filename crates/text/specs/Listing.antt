-- The listing of a sheet (document 01, "Points on either side"): what the listing program prints.
-- Assumes nothing.
use Rattle.std.specs.Prelude.{ℕ, List, [], ◌∷◌, eqb}
use Rattle.ground.specs.Choice.{choose}
use Rattle.description.specs.Form1.{lists_stated, checked}
use Rattle.words.specs.Words.{line}
use Rattle.lines.specs.Lines.{accepted}

-- a refused sheet: the refusal number only
unfoldable pub refused : ℕ → List ℕ
refused n = line "refused #\n" (n ∷ [])

-- the sheet is checked as on the way from sheet to word
unfoldable pub listing : List ℕ → List ℕ
listing sh = choose (eqb (checked sh).number 0) (accepted (lists_stated sh)) (refused (checked sh).number)
