-- Document 01's number, and the values that go with it, for each case of what listing a sheet gives; and what is given.
-- Assumes nothing.
use Rattle.std.specs.Prelude.{ℕ, ◌≡◌, Result, Ok, Err, List, [], ◌∷◌, ◌++◌, eqb, ltb, length, take}
use Rattle.ground.specs.Outcome.{Outcome, Told}
use Rattle.ground.specs.Choice.{choose}
use Rattle.ground.specs.Refusals.{number}
use Rattle.description.specs.Word.{front}
use Rattle.description.specs.Form1.{checked}
use Rattle.words.specs.Words.{ascii}
use Rattle.text.specs.Listing.{listing}
use Rattle.text.specs.declared.Unlisted.{Unlisted}
use Rattle.text.specs.declared.Unlisted.TheVariants.{Refused, NoRoom}

-- accepted: 0, and the text's length; refused: the refusal number, and with it that number and the text's length; no room: 1. The number stands among the
-- values too, so that a refusal with 1 is not taken for no room
abbrev pub told : Result ℕ Unlisted → Told
told (Ok n) = record { number = 0; values = n ∷ [] }
told (Err (Refused e n)) = record { number = number e; values = number e ∷ n ∷ [] }
told (Err NoRoom) = record { number = 1; values = [] }

-- the same of a sheet
unfoldable pub answered : List ℕ → Told
answered sh =
    choose (eqb (checked sh).number 0)
    (record { number = 0; values = length (listing sh) ∷ [] })
    (record { number = (checked sh).number; values = (checked sh).number ∷ length (listing sh) ∷ [] })

-- the text stands at the front of the room, the bytes past it as before; a room below 1,024 bytes is refused with 1, and nothing is touched
unfoldable pub listed : List ℕ → List ℕ → Outcome Told (List ℕ)
listed sh out =
    choose (ltb (length out) 1024)
    (record { answer = record { number = 1; values = [] }; memory = out })
    (record { answer = answered sh; memory = front (listing sh) out })

-- ---- what is asked of a listing

-- the text at the front of the room afterwards
abbrev pub text_in : Result ℕ Unlisted → List ℕ → List ℕ
text_in (Ok n) room = take n room
text_in (Err (Refused e n)) room = take n room
text_in (Err NoRoom) room = []

-- a text that says ok last
abbrev pub SaysOk : List ℕ → Type 0
SaysOk text = (before : List ℕ) × (text ≡ before ++ ascii "ok\n")
