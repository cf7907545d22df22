-- What the reader of a payload word answers, with the documents' refusals in their order.
-- Assumes nothing.
use Rattle.std.specs.Prelude.{ℕ, not, List, [], ◌∷◌, eqb, length, take, Result, Ok, Err}
use Rattle.ground.specs.Outcome.{Outcome, Told}
use Rattle.ground.specs.Choice.{choose, refuse, first_of, refusing}
use Rattle.infoword.specs.Suffix.{kind_of}
use Rattle.infoword.specs.Word.{packet_bytes}
use Rattle.fields.specs.Report.{read_faults, read_refusal, header_of}
use Rattle.fields.specs.declared.Header.{Header}
use Rattle.header_bytes.specs.Bytes.{header_bytes}
use Rattle.ground.specs.declared.refusal.Refusal.{Refusal}
use Rattle.ground.specs.Refusals.{number}

-- what is reported of a word of type 0, 1 or 2 that was written with a stream id: of type 2 all four parts hold
abbrev pub written_header : ℕ → ℕ → Header
written_header kind id = record { rfu = 0; id = id; kind = kind; version = 0; parity = choose (eqb kind 2) 15 0; address = 0 }

-- the values of a header, in the order of its fields
abbrev pub values_of : Header → List ℕ
values_of h = h.rfu ∷ h.id ∷ h.kind ∷ h.version ∷ h.parity ∷ h.address ∷ []

-- the reader's answer in document 01's terms: the number, 0 for a word that is accepted, and what is reported of such a word
abbrev pub told : Result Header Refusal → Told
told (Ok h) = record { number = 0; values = values_of h }
told (Err e) = record { number = number e; values = [] }

-- what is told of a word
unfoldable pub reading : List ℕ → Told
reading w = record { number = read_refusal w; values = choose (eqb (read_refusal w) 0) (values_of (header_of w)) [] }

-- the payload shown of a word: the packet of its stream type where it is accepted, as it stands in the word, else nothing
unfoldable pub shown : List ℕ → List ℕ
shown w = choose (eqb (read_refusal w) 0) (take (packet_bytes (kind_of w)) w) []

-- the header read into 16 bytes: their length is looked at with the word's
unfoldable pub read_into : List ℕ → List ℕ → Outcome ℕ (List ℕ)
read_into w out = refusing (first_of (refuse 1 (not (eqb (length out) 16)) ∷ read_faults w)) (header_bytes (header_of w)) out
