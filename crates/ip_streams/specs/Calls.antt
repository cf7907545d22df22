-- Calls of the writer and of the reader of IP streams, one after the other, as a head-end and a receiver make them.
-- Assumes nothing.
use Rattle.std.specs.Prelude.{ℕ, suc, ◌≤◌, Bool, true, false, ◌≡◌, List, [], ◌∷◌, ◌++◌, length, take, drop}
use Rattle.bits.specs.Lists.{num, unpack}
use Rattle.infoword.specs.Suffix.{kind_of}
use Rattle.ip.specs.Packet.{Packet}
use Rattle.ip.specs.Memory.{queue_in}

-- a call write(id, sent, queue, word, progress): what was lent, what it answered, and what it left
pub record WriteCall : Type 0 where
  pub id : ℕ
  pub sent : ℕ
  pub queue : List ℕ
  pub word : List ℕ
  pub progress : List ℕ
  pub answer : ℕ
  pub left_word : List ℕ
  pub left_progress : List ℕ

-- the two numbers that it left: how many bytes of the queue are done with, and `sent` for the packet that is then first
abbrev pub done_of : WriteCall → ℕ
done_of c = num (unpack (take 4 c.left_progress))

abbrev pub sent_of : WriteCall → ℕ
sent_of c = num (unpack (drop 4 c.left_progress))

-- a call read(word, held, packets, header), with the memory of the open packet
pub record ReadCall : Type 0 where
  pub word : List ℕ
  pub held : List ℕ
  pub packets : List ℕ
  pub header : List ℕ
  pub answer : ℕ
  pub left_held : List ℕ
  pub left_packets : List ℕ
  pub left_header : List ℕ

-- the packets that it handed out: as many bytes of the lent memory as its header says
abbrev pub handed_by : ReadCall → List ℕ
handed_by a = take (num (unpack (take 2 (drop 10 a.left_header)))) a.left_packets

-- a call lost(held)
pub record LostCall : Type 0 where
  pub held : List ℕ
  pub answer : ℕ
  pub left_held : List ℕ

-- ---- the head-end: before each word packets may join the queue; each call is lent the queue and `sent`; what is done with leaves it

-- one call for each entry of the list: the bytes that join before it
abbrev pub Sends : ℕ → List ℕ → List (List ℕ) → List WriteCall → Type 0
Sends sent queue [] [] = Unit
Sends sent queue [] (c ∷ cs) = ⊥
Sends sent queue (j ∷ js) [] = ⊥
Sends sent queue (j ∷ js) (c ∷ cs) =
    (c.sent ≡ sent) × (c.queue ≡ queue ++ j) × (length c.word ≡ 1536) × (length c.progress ≡ 8) × Sends (sent_of c) (drop (done_of c) c.queue) js cs

-- what is left of the queue after the last call
unfoldable pub remains : List ℕ → List WriteCall → List ℕ
remains queue [] = queue
remains queue (c ∷ cs) = remains (drop (done_of c) c.queue) cs

-- the words that were written
unfoldable pub words_of : List WriteCall → List (List ℕ)
words_of [] = []
words_of (c ∷ cs) = c.left_word ∷ words_of cs

-- what joins is whole packets, such as may be sent
abbrev pub AllWhole : List (List ℕ) → Type 0
AllWhole [] = Unit
AllWhole (j ∷ js) = ((queue_in 0 j).number ≡ 0) × AllWhole js

-- these packets
unfoldable pub packets_of : List (List ℕ) → List (List Packet)
packets_of [] = []
packets_of (j ∷ js) = (queue_in 0 j).packets ∷ packets_of js

abbrev pub AllWritten : List WriteCall → Type 0
AllWritten [] = Unit
AllWritten (c ∷ cs) = (c.answer ≡ 0) × AllWritten cs

-- ---- the receiver: for each word of the stream it reads the word, or reports it lost; words that are refused, and those of types 0, 1 and 2, may
-- come in between

pub data Step : Type 0 where
  reads : ReadCall → Step
  loses : LostCall → Step
  passes : ReadCall → Step

-- the memory of the open packet is this, and there is room for packets and header
pub record Lent (m : List ℕ) (a : ReadCall) : Type 0 where
  pub held : a.held ≡ m
  pub room : 6604 ≤ length a.packets
  pub header : length a.header ≡ 16

-- of the words, those that come are read, by a test of their number, and all others are reported lost; the memory goes from call to call
abbrev pub Hears : (ℕ → Bool) → List (List ℕ) → List ℕ → List Step → Type 0
Hears c [] m [] = Unit
Hears c (w ∷ ws) m [] = ⊥
Hears c [] m (reads a ∷ ss) = ⊥
Hears c (w ∷ ws) m (reads a ∷ ss) = (c 0 ≡ true) × (a.word ≡ w) × Lent m a × Hears (λ i. c (suc i)) ws a.left_held ss
Hears c [] m (loses b ∷ ss) = ⊥
Hears c (w ∷ ws) m (loses b ∷ ss) = (c 0 ≡ false) × (b.held ≡ m) × Hears (λ i. c (suc i)) ws b.left_held ss
Hears c ws m (passes a ∷ ss) = Lent m a × (a.answer ≡ 0 → kind_of a.word ≤ 2) × Hears c ws a.left_held ss

-- every word that is read was accepted
abbrev pub AllRead : List Step → Type 0
AllRead [] = Unit
AllRead (reads a ∷ ss) = (a.answer ≡ 0) × AllRead ss
AllRead (loses b ∷ ss) = AllRead ss
AllRead (passes a ∷ ss) = AllRead ss

-- the packets that the words of the stream hand out, one behind the other
unfoldable pub handed : List Step → List ℕ
handed [] = []
handed (reads a ∷ ss) = handed_by a ++ handed ss
handed (loses b ∷ ss) = handed ss
handed (passes a ∷ ss) = handed ss
