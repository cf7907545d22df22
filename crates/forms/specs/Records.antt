-- The tests of a sheet's records by their places, over counts that are given and whatever the sheet's length is: past its end it reads zero.
-- Assumes nothing.
use Rattle.std.specs.Prelude.{ℕ, ◌*◌, List, ◌∷◌}
use Rattle.ground.specs.Choice.{Fault, refuse, first_of}
use Rattle.bits.specs.Places.{fields_at}
use Rattle.description.specs.Description.{Lists}
use Rattle.description.specs.Sheet.{sections_from}
use Rattle.description.specs.Tests.{version_fault, lists_fault, any_set, list_faults}
use Rattle.description.specs.Form1.{count_fault}
use Rattle.views.specs.View.{sheet_view, lists_at}

-- the lists of a sheet with a header of h bytes
unfoldable pub sheet_lists_at : ℕ → ℕ → ℕ → ℕ → List ℕ → Lists
sheet_lists_at h p s d w = lists_at (sheet_view h p s) p s d w

-- 14 6 13 7 9 10 11
unfoldable pub record_faults_at : ℕ → ℕ → ℕ → ℕ → List ℕ → List Fault
record_faults_at h p s d w =
    refuse 14 (any_set (fields_at w (8 * sections_from h p s) 16 4 d)) ∷
    refuse 6 (version_fault (sheet_lists_at h p s d w).multiplex) ∷
    refuse 13 (count_fault p s d (sheet_lists_at h p s d w)) ∷
    refuse 7 (lists_fault p s d) ∷
    list_faults (sheet_lists_at h p s d w)

unfoldable pub record_fault : ℕ → ℕ → ℕ → ℕ → List ℕ → ℕ
record_fault h p s d w = first_of (record_faults_at h p s d w)
