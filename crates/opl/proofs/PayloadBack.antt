-- The way back of payload words, and what is read of a damaged one, of the exported functions' own promises.
-- Assumes nothing.
use Prim.Native.Nat.{ℕ, ◌/◌, ◌%◌, ◌^◌, ◌≤◌, ◌<◌}
use mathlib.Core.Bool.{not}
use mathlib.Core.Path.{◌≡◌, subst}
use mathlib.Core.Logic.{◌↔◌}
use mathlib.Core.List.{List, [], ◌∷◌}
use contract.Lifetimes.{Lfts}
use borrow.Fn.World.{ArgsD, ResD}
use borrow.Fn.Kinds.{ended_of}
use denote.Triple.Clauses.{AtExit}
use lib.Dec.{eqb}
use lib.ListN.{length, get_or, take}
use Rattle.ground.specs.Outcome.{Outcome, Is}
use Rattle.ground.proofs.Outcome.{agree}
use Rattle.ground.specs.Choice.{choose, refuse, first_of, refusing}
use Rattle.parity.specs.Part.{received}
use Rattle.parity.specs.Claims.{Sound}
use Rattle.infoword.specs.Suffix.{kind_of, covered}
use Rattle.infoword.specs.Word.{packet_bytes}
use Rattle.encapsulation.specs.Writing.{packet_of}
use Rattle.encapsulation.specs.Claims.{plain_word}
use Rattle.encapsulation.proofs.Plain.{types_0_and_1}
use Rattle.header_bytes.specs.Bytes.{header_bytes}
use Rattle.payload.specs.Answers.{written_header}
use Rattle.both_ways.specs.Damage.{OneBit, OddIn, PartSeenIn}
use Rattle.ground.specs.declared.refusal.Refusal.TheVariants.{CrcWrong}
use Rattle.payload.proofs.Answers.{into_refused}
use Rattle.both_ways.proofs.Types.{written_damaged}
use Rattle.both_ways.proofs.WaysBack.{header_after, packet_after}
use Rattle.both_ways.proofs.InBytes.{into_damaged, into_means, into_part_seen}
use Rattle.opl.specs.contracts.opl_payload_write as opl_payload_write
use Rattle.opl.proofs.opl_payload_write.Kinds as opl_payload_write_kinds
use Rattle.opl.proofs.opl_payload_write.Reads as opl_payload_write_reads
use Rattle.opl.specs.contracts.opl_payload_read as opl_payload_read
use Rattle.opl.proofs.opl_payload_read.Kinds as opl_payload_read_kinds
use Rattle.opl.proofs.opl_payload_read.Reads as opl_payload_read_reads

-- after a call opl_payload_write(kind, id, count, payload, null, word) that answered 0
module _ (κs : Lfts 3) (a : ArgsD opl_payload_write.signature κs) (r : ResD opl_payload_write.signature κs)
    (s : AtExit (ended_of 3 opl_payload_write_kinds.ps opl_payload_write_kinds.r) κs) (did : opl_payload_write_reads.Post κs a r s) (zero : r ≡ 0) where
  abbrev left : List ℕ
  left = s.1.1.1.1.1.0.now

  -- opl_payload_read(word, header) with 16 bytes answers 0 and leaves RFU 0, id, kind, Encap_Ver 0, and for type 2 that all four parts hold
  pub opl_payload_back : (κt : Lfts 2) (b : ArgsD opl_payload_read.signature κt) (n : ResD opl_payload_read.signature κt)
      (t : AtExit (ended_of 2 opl_payload_read_kinds.ps opl_payload_read_kinds.r) κt)
      → b.0.now ≡ left → length b.1.0.now ≡ 16 → opl_payload_read_reads.Post κt b n t
      → (n ≡ 0) × (t.1.0.now ≡ header_bytes (written_header a.0 a.1.0))
  opl_payload_back κt b n t e l p =
      header_after a.0 a.1.0 a.1.1.0 a.1.1.1.0.now a.1.1.1.1.0.now a.1.1.1.1.1.0.now r left did.0 zero did.1
      b.0.now b.1.0.now t.1.0.now n e l p

  -- of a word with one other header bit, be it of the stream type, opl_payload_read with 16 bytes answers 5, and nothing is touched, unless the
  -- change makes type 3 of type 1: there the CRC covers what was payload
  pub opl_refused_where_sent_damaged : (κt : Lfts 2) (b : ArgsD opl_payload_read.signature κt) (n : ResD opl_payload_read.signature κt)
      (t : AtExit (ended_of 2 opl_payload_read_kinds.ps opl_payload_read_kinds.r) κt) (i : ℕ)
      → OneBit left b.0.now i → (a.0 ≡ 1 → kind_of b.0.now ≡ 3 → ⊥) → length b.1.0.now ≡ 16 → opl_payload_read_reads.Post κt b n t → (n ≡ 5) × (t.1.0.now ≡ b.1.0.now)
  opl_refused_where_sent_damaged κt b n t i d m l p =
      agree p (into_refused b.0.now b.1.0.now l CrcWrong
      (written_damaged a.0 a.1.0 a.1.1.0 a.1.1.1.0.now a.1.1.1.1.0.now a.1.1.1.1.1.0.now r left did.0 zero did.1 b.0.now i d m))

  -- and the word begins with the payload, for type 2 with the null packets behind it
  pub opl_payload_kept : take (packet_bytes a.0) left ≡ packet_of a.0 a.1.1.0 a.1.1.1.0.now a.1.1.1.1.0.now
  opl_payload_kept = packet_after a.0 a.1.0 a.1.1.0 a.1.1.1.0.now a.1.1.1.1.0.now a.1.1.1.1.1.0.now r left did.0 zero did.1

-- after any call of opl_payload_write with type 0 or 1, whatever the packet count and the null packet: what tables 2 and 3 say, and nothing of type 2
pub opl_types_0_and_1 : (κs : Lfts 3) (a : ArgsD opl_payload_write.signature κs) (r : ResD opl_payload_write.signature κs)
    (s : AtExit (ended_of 3 opl_payload_write_kinds.ps opl_payload_write_kinds.r) κs) → opl_payload_write_reads.Post κs a r s → a.0 ≤ 1
    → Is (refusing (first_of (refuse 1 (not (eqb (length a.1.1.1.0.now) (choose (eqb a.0 1) 1532 0))) ∷ refuse 1 (not (eqb (length a.1.1.1.1.1.0.now) 1536)) ∷ []))
    (plain_word a.0 a.1.0 a.1.1.1.0.now) a.1.1.1.1.1.0.now) r s.1.1.1.1.1.0.now
opl_types_0_and_1 κs a r s did h =
    subst (λ (o : Outcome ℕ (List ℕ)). Is o r s.1.1.1.1.1.0.now)
    (types_0_and_1 a.0 a.1.0 a.1.1.0 a.1.1.1.0.now a.1.1.1.1.0.now a.1.1.1.1.1.0.now h) did.0

-- after a call opl_payload_read(word, header) that answered 0, and another call of it with 16 bytes
module _ (κs : Lfts 2) (a : ArgsD opl_payload_read.signature κs) (r : ResD opl_payload_read.signature κs)
    (s : AtExit (ended_of 2 opl_payload_read_kinds.ps opl_payload_read_kinds.r) κs) (did : opl_payload_read_reads.Post κs a r s) (zero : r ≡ 0) where
  abbrev header : List ℕ
  header = s.1.0.now

  module _ (κt : Lfts 2) (b : ArgsD opl_payload_read.signature κt) (n : ResD opl_payload_read.signature κt)
      (t : AtExit (ended_of 2 opl_payload_read_kinds.ps opl_payload_read_kinds.r) κt) (room : length b.1.0.now ≡ 16) (p : opl_payload_read_reads.Post κt b n t) where
    -- of a word with one other header bit, whose stream type has as many covered bits: it is refused with 5, and nothing is touched
    pub opl_refused_where_damaged : (i : ℕ) → OneBit a.0.now b.0.now i → covered (kind_of b.0.now) ≡ covered (kind_of a.0.now)
        → (n ≡ 5) × (t.1.0.now ≡ b.1.0.now)
    opl_refused_where_damaged i d span =
        into_damaged a.0.now a.1.0.now r header did zero b.0.now b.1.0.now n t.1.0.now i d span room p

    -- of a word of type 2 or 3 with an odd number of other bits within part k, which held: just part k is reported as not holding
    pub opl_part_seen : 2 ≤ get_or header 5 0 → (k : ℕ) → get_or header 7 0 / 2 ^ k % 2 ≡ 1 → OddIn a.0.now b.0.now k → PartSeenIn header n t.1.0.now k
    opl_part_seen above k set d =
        into_part_seen a.0.now a.1.0.now r header did zero above b.0.now b.1.0.now n t.1.0.now k set d room p

  -- of types 2 and 3 bit k of byte 7 is set exactly where generator and parity bit of part k both agree
  pub opl_parity_means : 2 ≤ get_or header 5 0 → (k : ℕ) → k < 4 → (get_or header 7 0 / 2 ^ k % 2 ≡ 1) ↔ Sound (received a.0.now k)
  opl_parity_means above = into_means a.0.now a.1.0.now r header did zero above
