-- What is claimed of such calls (02, 2026-05).
-- Assumes nothing.
use Rattle.std.specs.Prelude.{ℕ, ◌≤◌, Bool, true, ◌≡◌, List, [], ◌∷◌, ◌++◌, length, replicate, drop}
use Rattle.infoword.specs.Suffix.{kind_of}
use Rattle.infoword.specs.Word.{ip_word}
use Rattle.fields.specs.declared.Header.{Header}
use Rattle.both_ways.specs.Damage.{OneBit}
use Rattle.ip.specs.Packet.{Packet, AllFit}
use Rattle.ip.specs.Write.{address}
use Rattle.ip.specs.Read.{Open, Sound}
use Rattle.ip.specs.Stream.{ended, joined, left, arrived, select}
use Rattle.ip.specs.Memory.{queue, holds, queue_in, open_bytes}
use Rattle.ip_streams.specs.Calls.{WriteCall, ReadCall, Step, handed_by, Sends, remains, words_of, AllWhole, packets_of, AllWritten, Hears, AllRead, handed}

-- nothing open
abbrev pub fresh : List ℕ
fresh = replicate 4104 0

-- no write and no word that came was refused, and what the reader handed out is just the packets all of whose words came, in their order, each with
-- its type and its error bit
pub record Delivered (c : ℕ → Bool) (js : List (List ℕ)) (cs : List WriteCall) (ss : List Step) : Type 0 where
  pub written : AllWritten cs
  pub read : AllRead ss
  pub packets : handed ss ≡ queue (select (arrived c (packets_of js) 0 []) (ended (packets_of js) 0 []))

-- a stream from its beginning, written word after word while packets join as they like, and read from nothing open, any words of it lost
abbrev pub Delivers : List (List ℕ) → List WriteCall → List Step → Type 0
Delivers js cs ss = (c : ℕ → Bool) → AllWhole js → Sends 0 [] js cs → Hears c (words_of cs) fresh ss → Delivered c js cs ss

-- where every word came and nothing waits any more, all packets are handed out, in order, and nothing else
abbrev pub ComesBack : List (List ℕ) → List WriteCall → List Step → Type 0
ComesBack js cs ss =
    AllWhole js → Sends 0 [] js cs → Hears (λ i. true) (words_of cs) fresh ss → remains [] cs ≡ [] → handed ss ≡ queue (joined (packets_of js))

-- and it ends: of a queue to which no packet joins nothing is left after as many words as it has bytes, at the latest
abbrev pub Ends : List ℕ → List WriteCall → Type 0
Ends q cs = (n : ℕ) → (queue_in 0 q).number ≡ 0 → Sends 0 [] (q ∷ replicate n []) cs → length q ≤ n → remains [] cs ≡ []

-- whatever a word of type 3 that is accepted holds: what it hands out is whole packets such as may be sent, so that it may be lent to a writer, no more
-- than 6,604 bytes of them; what is behind them is as it was; and the memory has the form of an open packet or of none
pub record Whole (a : ReadCall) : Type 0 where
  pub packets : List Packet
  pub fit : AllFit packets
  pub bytes : handed_by a ≡ queue packets
  pub sent : queue_in 0 (handed_by a) ≡ holds packets
  pub most : length (handed_by a) ≤ 6604
  pub rest : drop (length (handed_by a)) a.left_packets ≡ drop (length (handed_by a)) a.packets
  pub after : Open
  pub sound : Sound after
  pub held : a.left_held ≡ open_bytes after

abbrev pub OnlyWhole : ReadCall → Type 0
OnlyWhole a = a.answer ≡ 0 → kind_of a.word ≡ 3 → Whole a

-- a word that is refused leaves the open packet, the packets and the header as they were
pub record Untouched (a : ReadCall) : Type 0 where
  pub held : a.left_held ≡ a.held
  pub packets : a.left_packets ≡ a.packets
  pub header : a.left_header ≡ a.header

abbrev pub RefusedLeaves : ReadCall → Type 0
RefusedLeaves a = (a.answer ≡ 0 → ⊥) → Untouched a

-- a word of type 0, 1 or 2 leaves the open packet and the packets
abbrev pub OthersPass : ReadCall → Type 0
OthersPass a = kind_of a.word ≤ 2 → (a.left_held ≡ a.held) × (a.left_packets ≡ a.packets)

-- a word with nothing to carry has address 0, and FF in all its payload
abbrev pub NothingToCarry : WriteCall → Type 0
NothingToCarry c =
    c.sent ≡ 0 → c.queue ≡ [] → length c.word ≡ 1536 → length c.progress ≡ 8
    → (c.answer ≡ 0) × (c.left_word ≡ ip_word c.id 0 (replicate 1504 255)) × (c.left_progress ≡ replicate 8 0)

-- of a long queue the front is enough: c is lent whole packets of which 1,503 bytes are still to be sent, headers counted, and d the same with more
-- whole packets behind them
pub record Front (c d : WriteCall) : Type 0 where
  pub more : List ℕ
  pub queues : d.queue ≡ c.queue ++ more
  pub whole : (queue_in 0 more).number ≡ 0
  pub id : d.id ≡ c.id
  pub sent : d.sent ≡ c.sent
  pub word : length d.word ≡ length c.word
  pub progress : length d.progress ≡ length c.progress
  pub enough : 1503 ≤ left c.sent (queue_in 0 c.queue).packets

-- where c answered 0, so did d, and it left the same word and the same progress
abbrev pub FrontEnough : WriteCall → WriteCall → Type 0
FrontEnough c d = Front c d → c.answer ≡ 0 → (d.answer ≡ 0) × (d.left_word ≡ c.left_word) × (d.left_progress ≡ c.left_progress)

-- what is reported of a word that was written: RFU 0, the stream id, type 3, Encap_Ver 0, all four parts hold, and the address
abbrev pub ip_header : WriteCall → Header
ip_header c = record { rfu = 0; id = c.id; kind = 3; version = 0; parity = 15; address = address c.sent (queue_in 0 c.queue).packets }

-- such a word with one other bit of those that its CRC covers, be it of the stream type, is refused with 5, and nothing is touched
abbrev pub DamageRefused : WriteCall → ReadCall → Type 0
DamageRefused c a =
    (i : ℕ) → OneBit c.left_word a.word i → c.answer ≡ 0 → length a.held ≡ 4104 → 6604 ≤ length a.packets → length a.header ≡ 16
    → (a.answer ≡ 5) × Untouched a
