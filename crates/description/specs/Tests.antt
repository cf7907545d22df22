-- The tests behind the refusals, each over the counts and lists that it looks at. In what order they are made is each caller's own.
-- Assumes nothing.
use Rattle.std.specs.Prelude.{ℕ, ◌+◌, ◌*◌, ◌%◌, Bool, false, not, List, [], ◌∷◌, map, eqb, ltb, take, drop}
use Rattle.ground.specs.Choice.{both, either, any, Fault, refuse}
use Rattle.patterns.specs.Rates.{units_of}
use Rattle.description.specs.Rows.{total}
use Rattle.description.specs.Fields.{sig_pipe_ver, punct_pat, pipe_width, sts_id, num_taps_div2}
use Rattle.description.specs.Description.{Lists, own_sections}
use Rattle.description.specs.Rules.{size}

-- 6: Sig_Pipe_Ver is not 0
unfoldable pub version_fault : List ℕ → Bool
version_fault m = not (eqb (sig_pipe_ver m) 0)

-- 7: the lists pass 750 bits
unfoldable pub lists_fault : ℕ → ℕ → ℕ → Bool
lists_fault p s d = ltb 750 (size p s d)

-- a bit is set
abbrev pub is_set : ℕ → Bool
is_set b = not (eqb b 0)

unfoldable pub any_set : List ℕ → Bool
any_set l = any is_set l

-- 9: of some payload pipe in use with a pattern 0 to 27 the width is no multiple; the width 0, of a pipe that is not in use, always is one
unfoldable pub width_wrong : List ℕ → Bool
width_wrong f = both (ltb (punct_pat f) 28) (not (eqb (pipe_width f % units_of (punct_pat f)) 0))

unfoldable pub width_fault : List (List ℕ) → Bool
width_fault fs = any width_wrong fs

-- 10: some payload pipe in use is without 32 taps; ts has Num_Taps_Div2_1 of every section, in order
abbrev pub taps_of : ℕ → ℕ
taps_of n = (n + 1) * 2

unfoldable pub taps_wrong : List ℕ → List ℕ → Bool
taps_wrong f ts = both (not (eqb (pipe_width f) 0)) (not (eqb (total taps_of ts) 32))

unfoldable pub tap_fault : List (List ℕ) → List ℕ → Bool
tap_fault [] ts = false
tap_fault (f ∷ fs) ts = either (taps_wrong f (take (own_sections f) ts)) (tap_fault fs (drop (own_sections f) ts))

-- x is one of the ids
unfoldable pub member : ℕ → List ℕ → Bool
member x l = any (eqb x) l

-- 11: an id stands twice
unfoldable pub id_fault : List ℕ → Bool
id_fault [] = false
id_fault (x ∷ l) = either (member x l) (id_fault l)

-- the tests of lists that words and sheets have in common, in their order
abbrev pub list_faults : Lists → List Fault
list_faults l =
    refuse 9 (width_fault l.pipes) ∷
    refuse 10 (tap_fault l.pipes (map num_taps_div2 l.sections)) ∷
    refuse 11 (id_fault (map sts_id l.streams)) ∷ []
