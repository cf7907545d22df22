-- A row of values under a table of widths, written one after the other (annex A: each value most significant bit first), and a list of such rows.
-- Assumes nothing.
use Rattle.std.specs.Prelude.{ℕ, zero, suc, ◌+◌, ◌^◌, ◌<◌, List, [], ◌∷◌, ◌++◌, take, drop}
use Rattle.bits.specs.Lists.{bits, num}

-- a property of each entry of a list
abbrev pub Each : {A : Type 0} → (A → Type 0) → List A → Type 0
Each P [] = Unit
Each P (x ∷ l) = P x × Each P l

-- a number for each entry of a list, added up
unfoldable pub total : {A : Type 0} → (A → ℕ) → List A → ℕ
total f [] = 0
total f (x ∷ l) = f x + total f l

-- the bits of a row
unfoldable pub width : List ℕ → ℕ
width [] = 0
width (k ∷ t) = k + width t

-- as many values as fields, each of which fits its field
unfoldable pub Row : List ℕ → List ℕ → Type 0
Row [] [] = Unit
Row [] (v ∷ vs) = ⊥
Row (k ∷ t) [] = ⊥
Row (k ∷ t) (v ∷ vs) = (v < 2 ^ k) × Row t vs

-- a row written, and the row that is read of bits
unfoldable pub join : List ℕ → List ℕ → List ℕ
join [] vs = []
join (k ∷ t) [] = bits k 0 ++ join t []
join (k ∷ t) (v ∷ vs) = bits k v ++ join t vs

unfoldable pub cut : List ℕ → List ℕ → List ℕ
cut [] b = []
cut (k ∷ t) b = num (take k b) ∷ cut t (drop k b)

-- rows written, and the n rows that are read of bits
unfoldable pub joins : List ℕ → List (List ℕ) → List ℕ
joins t [] = []
joins t (r ∷ rs) = join t r ++ joins t rs

unfoldable pub cuts : List ℕ → ℕ → List ℕ → List (List ℕ)
cuts t zero b = []
cuts t (suc n) b = cut t b ∷ cuts t n (drop (width t) b)
