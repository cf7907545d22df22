-- What a place of the lane holds (document 01, "Placement", as request 2026-08 of document 02 has it).
-- Assumes nothing.
use Rattle.std.specs.Prelude.{ℕ, List, [], ◌∷◌, ℤ, pos, negsuc, ◌+ℤ◌, take, drop, ◌≤ℤ◌}
use Rattle.std.specs.Int.Signed.{lt_z}
use Rattle.ground.specs.Choice.{choose}

-- values added; of none the sum is 0
unfoldable pub sum : List ℤ → ℤ
sum [] = pos 0
sum (v ∷ values) = v +ℤ sum values

-- clipped to -127 to 127, so that no value lacks its negative; `negsuc 126` is -127
unfoldable pub clip : ℤ → ℤ
clip x = choose (lt_z x (negsuc 126)) (negsuc 126) (choose (lt_z (pos 127) x) (pos 127) x)

-- what a place holds: the whole sum of its copies, clipped once; a place that is never sent has none, and holds 0
unfoldable pub held : List ℤ → ℤ
held copies = clip (sum copies)

-- what a place can hold: -127 to 127
abbrev pub Within : ℤ → Type 0
Within x = (negsuc 126 ≤ℤ x) × (x ≤ℤ pos 127)

-- the n values from a place on, as `held::of` is handed a place's copies
abbrev pub run : List ℤ → ℕ → ℕ → List ℤ
run values at n = take n (drop at values)
