-- What is asked of a reader and of a writer, as propositions: demand 3, the writer's half of it, the check of a sheet, and the ways back. The theorems say
-- that they hold of the functions' own promises (proofs/Demand.antt, DemandWrite.antt and RoundTrip.antt of the crates that have those functions).
-- Assumes nothing.
use Rattle.std.specs.Prelude.{ℕ, ◌+◌, ◌≡◌, List, [], ◌∷◌, ◌↔◌, length, take}
use Rattle.description.specs.Description.{Description, streams_of, sections_of}
use Rattle.description.specs.Rules.{Keeps}
use Rattle.description.specs.Layout.{layout}
use Rattle.description.specs.Sheet.{sheet}
use Rattle.description.specs.Word.{front}
use Rattle.description.specs.Header.{two_at}

-- ---- demand 3, of a reader's number and of its room afterwards, for the bytes w and the room out
pub record Demanded (w out : List ℕ) (number : ℕ) (after : List ℕ) : Type 0 where
  -- accepted exactly when some description that keeps the rules is laid out as those bytes
  pub accepts : (number ≡ 0) ↔ ((d : Description) × Keeps d × (layout d ≡ w))
  -- there is then only one
  pub only : (d e : Description) → Keeps d → Keeps e → layout d ≡ w → layout e ≡ w → d ≡ e
  -- and the sheet handed out is its sheet, with the bytes past it as before
  pub hands : (d : Description) → Keeps d → layout d ≡ w → after ≡ front (sheet d) out
  -- a refused word leaves the room as it was
  pub leaves : (number ≡ 0 → ⊥) → after ≡ out

-- how many payload pipes, streams and sections a description has
abbrev pub counts_of : Description → List ℕ
counts_of d = length d.pipes ∷ (length (streams_of d.pipes) + length d.tail_streams) ∷ length (sections_of d.pipes) ∷ []

-- the values that go with the number are the counts of the description's lists
abbrev pub CountsTold : List ℕ → List ℕ → Type 0
CountsTold w values = (d : Description) → Keeps d → layout d ≡ w → values ≡ counts_of d

-- ---- of a writer's number and of the word afterwards, for the sheet sh and the lent bytes word
pub record Wanted (sh word : List ℕ) (number : ℕ) (after : List ℕ) : Type 0 where
  -- accepted exactly when the sheet is that of some description that keeps the rules
  pub accepts : (number ≡ 0) ↔ ((d : Description) × Keeps d × (sheet d ≡ sh))
  -- there is then only one
  pub only : (d e : Description) → Keeps d → Keeps e → sheet d ≡ sh → sheet e ≡ sh → d ≡ e
  -- and the 96 bytes are its layout
  pub lays : (d : Description) → Keeps d → sheet d ≡ sh → after ≡ layout d
  -- a refused sheet leaves the word as it was
  pub leaves : (number ≡ 0 → ⊥) → after ≡ word

-- ---- of a check's number and of the values that go with it, for the sheet sh
pub record Judged (sh : List ℕ) (number : ℕ) (values : List ℕ) : Type 0 where
  -- accepted exactly when it is the sheet of a description that keeps the rules
  pub accepts : (number ≡ 0) ↔ ((d : Description) × Keeps d × (sheet d ≡ sh))
  -- and the values are then the counts of its lists
  pub counts : (d : Description) → Keeps d → sheet d ≡ sh → values ≡ counts_of d

-- ---- the ways back

-- the sheet at the front of a room: as many bytes as its header says
abbrev pub sheet_in : List ℕ → List ℕ
sheet_in room = take (two_at room 10) room

-- the word w was read into the room with the number n, and the sheet sh was written with the number m, which left the bytes after: where w was accepted
-- and sh is the sheet at the front of the room, the word is back
abbrev pub WordBack : List ℕ → ℕ → List ℕ → List ℕ → ℕ → List ℕ → Type 0
WordBack w n room sh m after = n ≡ 0 → sh ≡ sheet_in room → (m ≡ 0) × (after ≡ w)

-- the sheet sh was written with the number n, which left the bytes after, and the word w was read with the number m into the room, which was out before:
-- where sh was accepted and w is what was written, the sheet is back at the front of the room
abbrev pub SheetBack : List ℕ → ℕ → List ℕ → List ℕ → List ℕ → ℕ → List ℕ → Type 0
SheetBack sh n after w out m room = n ≡ 0 → w ≡ after → (m ≡ 0) × (room ≡ front sh out)

-- two sheets were written: where both were accepted and the words are one, the sheets are one
abbrev pub OneSheet : List ℕ → ℕ → List ℕ → List ℕ → ℕ → List ℕ → Type 0
OneSheet sh n after sh' n' after' = n ≡ 0 → n' ≡ 0 → after ≡ after' → sh ≡ sh'
