-- Theorems about the functions' own promises: what is read after a write, what is written after a reading, and what is read of a word with a
-- damaged header or a damaged part. That a stream id and the bytes of a word are bytes, the promises hand out.
-- Assumes nothing.
use Prim.Native.Nat.{ℕ, ◌+◌, ◌/◌, ◌%◌, ◌^◌, ◌≤◌, ◌<◌}
use mathlib.Core.Bool.{true}
use mathlib.Core.Path.{◌≡◌, refl, sym, ap, ap₂, ◌∙◌}
use mathlib.Core.Logic.{◌↔◌}
use mathlib.Core.List.{List}
use native.Mathlib.Omega.{arith}
use contract.Lifetimes.{Lfts}
use borrow.Fn.World.{ArgsD, ResD}
use borrow.Fn.Kinds.{ended_of}
use denote.Triple.Clauses.{AtExit}
use lib.Dec.{eqb}
use lib.ListN.{length, take, drop}
use Rattle.ground.specs.Choice.{choose}
use Rattle.ground.proofs.Choice.{choose_true}
use Rattle.parity.specs.Part.{received, held_of}
use Rattle.parity.specs.Claims.{Sound}
use Rattle.parity.proofs.Sound.{meaning}
use Rattle.parity.proofs.Received.{received_bits}
use Rattle.parity.proofs.Which.{held_set, held_true}
use Rattle.infoword.specs.Suffix.{kind_of, has_parity, covered}
use Rattle.infoword.proofs.Closing.{has_2, has_from}
use Rattle.infoword.proofs.Written.{packet_long}
use Rattle.encapsulation.specs.Writing.{packet_of}
use Rattle.encapsulation.specs.contracts.write as write
use Rattle.encapsulation.proofs.write.Kinds as write_kinds
use Rattle.encapsulation.proofs.write.Reads as write_reads
use Rattle.fields.specs.Report.{read_refusal, holding_of, header_of}
use Rattle.header_bytes.specs.Bytes.{header_bytes}
use Rattle.payload.specs.Answers.{written_header, told, reading, shown}
use Rattle.both_ways.specs.Damage.{OneBit, OddIn, PartSeen}
use Rattle.fields.specs.declared.Header.{Header}
use Rattle.std.specs.Prelude.{Ok, Err}
use Rattle.ground.specs.Refusals.{status}
use Rattle.ground.specs.declared.refusal.Refusal.TheVariants.{CrcWrong}
use Rattle.fields.proofs.Faults.{Readable, read_0, readable}
use Rattle.payload.proofs.Answers.{tells_refusal, tells_header, header_told, shows, told_inj}
use Rattle.both_ways.proofs.WaysBack.{header_told_after, header_after, shown_after, write_again}
use Rattle.both_ways.proofs.Damage.{damaged, same_behind, part_fails, still_readable, same_rfu}
use Rattle.both_ways.proofs.Types.{written_damaged}
use Rattle.payload.specs.contracts.read as read
use Rattle.payload.proofs.read.Kinds as read_kinds
use Rattle.payload.proofs.read.Reads as read_reads
use Rattle.payload.specs.contracts.payload_of as payload_of
use Rattle.payload.proofs.payload_of.Kinds as payload_of_kinds
use Rattle.payload.proofs.payload_of.Reads as payload_of_reads
use Rattle.payload.specs.contracts.read_into as read_into
use Rattle.payload.proofs.read_into.Kinds as read_into_kinds
use Rattle.payload.proofs.read_into.Reads as read_into_reads

-- after a call write(kind, id, count, payload, null, word) that answered 0
module _ (κs : Lfts 3) (a : ArgsD write.signature κs) (r : ResD write.signature κs) (s : AtExit (ended_of 3 write_kinds.ps write_kinds.r) κs)
    (did : write_reads.Post κs a r s) (zero : status r ≡ 0) where
  abbrev kind : ℕ
  kind = a.0

  abbrev id : ℕ
  id = a.1.0

  abbrev left : List ℕ
  left = s.1.1.1.1.1.0.now

  -- read(word) gives id and kind, RFU and Encap_Ver 0, and of type 2 that all four parts hold
  pub read_after_write : (κt : Lfts 1) (b : ArgsD read.signature κt) (h : ResD read.signature κt) (t : AtExit (ended_of 1 read_kinds.ps read_kinds.r) κt)
      → b.0.now ≡ left → read_reads.Post κt b h t → h ≡ Ok (written_header kind id)
  read_after_write κt b h t e p =
      told_inj h (Ok (written_header kind id))
      (p.0 ∙ ap reading e ∙ sym (header_told_after kind id a.1.1.0 a.1.1.1.0.now a.1.1.1.1.0.now a.1.1.1.1.1.0.now (status r) left did.0 zero did.1))

  -- payload_of(word) gives the payload, of type 2 with the null packets behind it
  pub payload_after_write : (κt : Lfts 1) (b : ArgsD payload_of.signature κt) (q : ResD payload_of.signature κt)
      (t : AtExit (ended_of 1 payload_of_kinds.ps payload_of_kinds.r) κt)
      → b.0.now ≡ left → payload_of_reads.Post κt b q t → q.now ≡ packet_of kind a.1.1.0 a.1.1.1.0.now a.1.1.1.1.0.now
  payload_after_write κt b q t e p =
      p ∙ ap shown e ∙ shown_after kind id a.1.1.0 a.1.1.1.0.now a.1.1.1.1.0.now a.1.1.1.1.1.0.now (status r) left did.0 zero did.1

  -- read_into(word, header) answers 0 and leaves that header in a lent 16 bytes
  pub read_into_after_write : (κt : Lfts 2) (b : ArgsD read_into.signature κt) (n : ResD read_into.signature κt)
      (t : AtExit (ended_of 2 read_into_kinds.ps read_into_kinds.r) κt)
      → b.0.now ≡ left → length b.1.0.now ≡ 16 → read_into_reads.Post κt b n t
      → (status n ≡ 0) × (t.1.0.now ≡ header_bytes (written_header kind id))
  read_into_after_write κt b n t e l p =
      header_after kind id a.1.1.0 a.1.1.1.0.now a.1.1.1.1.0.now a.1.1.1.1.1.0.now (status r) left did.0 zero did.1
      b.0.now b.1.0.now t.1.0.now (status n) e l p

  -- a word of 1,536 bytes that differs from it in one of the header bits that the CRC covers alone, be it of the stream type, is refused with 5,
  -- unless the change makes type 3 of type 1: there the CRC covers what was payload
  pub refused_where_sent_damaged : (κt : Lfts 1) (b : ArgsD read.signature κt) (k : ResD read.signature κt) (t : AtExit (ended_of 1 read_kinds.ps read_kinds.r) κt) (i : ℕ)
      → OneBit left b.0.now i → (kind ≡ 1 → kind_of b.0.now ≡ 3 → ⊥) → read_reads.Post κt b k t → k ≡ Err CrcWrong
  refused_where_sent_damaged κt b k t i d n p =
      told_inj k (Err CrcWrong)
      (p.0 ∙ sym (tells_refusal b.0.now CrcWrong
      (written_damaged kind id a.1.1.0 a.1.1.1.0.now a.1.1.1.1.0.now a.1.1.1.1.1.0.now (status r) left did.0 zero did.1 b.0.now i d n)))

-- after a call read(word) that gave a header
module _ (κs : Lfts 1) (a : ArgsD read.signature κs) (r : ResD read.signature κs) (s : AtExit (ended_of 1 read_kinds.ps read_kinds.r) κs)
    (saw : read_reads.Post κs a r s) (h : Header) (found : r ≡ Ok h) where
  abbrev word : List ℕ
  word = a.0.now

  facts : (0 ≡ read_refusal word) × (h ≡ header_of word)
  facts = header_told word h (ap told (sym found) ∙ saw.0)

  kind_is : h.kind ≡ kind_of word
  unfolding header_of
  kind_is = ap (λ (x : Header). x.kind) facts.1

  -- of type 0, 1 or 2 and with RFU 0: a write of its stream type, its stream id and of what payload_of(word) gave, of type 2 as eight packets, into 1,536 bytes
  -- answers 0 and leaves the same last four bytes; and the same word for type 1, and for type 2 where all four parts hold
  pub write_after_read : h.kind ≤ 2 → h.rfu ≡ 0
      → (κt : Lfts 1) (b : ArgsD payload_of.signature κt) (q : ResD payload_of.signature κt) (t : AtExit (ended_of 1 payload_of_kinds.ps payload_of_kinds.r) κt)
      (κu : Lfts 3) (c : ArgsD write.signature κu) (n : ResD write.signature κu) (u : AtExit (ended_of 3 write_kinds.ps write_kinds.r) κu)
      → b.0.now ≡ word → payload_of_reads.Post κt b q t
      → c.0 ≡ h.kind → c.1.0 ≡ h.id → (c.0 ≡ 2 → c.1.1.0 ≡ 8) → c.1.1.1.0.now ≡ q.now → (c.0 ≡ 2 → length c.1.1.1.1.0.now ≡ 188)
      → length c.1.1.1.1.1.0.now ≡ 1536 → write_reads.Post κu c n u
      → (status n ≡ 0) × (drop 1532 u.1.1.1.1.1.0.now ≡ drop 1532 word) × (c.0 ≡ 1 → u.1.1.1.1.1.0.now ≡ word)
      × (c.0 ≡ 2 → h.parity ≡ 15 → u.1.1.1.1.1.0.now ≡ word)
  unfolding header_of holding_of
  write_after_read low z κt b q t κu c n u same showed ek ei ec ep one len did =
      let f : h ≡ header_of word = facts.1 in
      let g = write_again word (readable word (sym facts.0)) saw.1 (rw (sym kind_is) low) (sym (ap (λ (x : Header). x.rfu) f) ∙ z)
      c.0 c.1.0 c.1.1.0 c.1.1.1.0.now c.1.1.1.1.0.now c.1.1.1.1.1.0.now (status n) u.1.1.1.1.1.0.now
      (ek ∙ kind_is) (ei ∙ ap (λ (x : Header). x.id) f) (ep ∙ showed ∙ ap shown same) ec one len did.0 in
      (g.0, g.1, g.2, λ two p. g.3 two (sym (choose_true (held_of word) 0 (has_2 (kind_of word) (sym (ek ∙ kind_is) ∙ two))) ∙ sym (ap (λ (x : Header). x.parity) f) ∙ p))

  -- a word of 1,536 bytes that differs from it in one of the header bits that the CRC covers alone is refused with 5, where its stream type
  -- has as many of them
  pub refused_where_damaged : (κt : Lfts 1) (b : ArgsD read.signature κt) (k : ResD read.signature κt) (t : AtExit (ended_of 1 read_kinds.ps read_kinds.r) κt) (i : ℕ)
      → OneBit word b.0.now i → covered (kind_of b.0.now) ≡ covered (kind_of word) → read_reads.Post κt b k t → k ≡ Err CrcWrong
  refused_where_damaged κt b k t i d span p =
      told_inj k (Err CrcWrong) (p.0 ∙ sym (tells_refusal b.0.now CrcWrong (damaged word b.0.now i d span (readable word (sym facts.0)))))

  -- of stream types 2 and 3
  module _ (above : 2 ≤ h.kind) where
    has : has_parity (kind_of word) ≡ true
    has = has_from (kind_of word) (omega (arith, above, kind_is)) (readable word (sym facts.0)).kind_is

    parity_is : h.parity ≡ held_of word
    unfolding header_of holding_of
    parity_is = ap (λ (x : Header). x.parity) facts.1 ∙ choose_true (held_of word) 0 has

    -- part k is reported as holding exactly where generator and parity bit both agree
    pub parity_means : (k : ℕ) → k < 4 → (h.parity / 2 ^ k % 2 ≡ 1) ↔ Sound (received word k)
    parity_means k l =
        let m = meaning (received word k) (received_bits word k) in
        let e : h.parity / 2 ^ k % 2 ≡ held_of word / 2 ^ k % 2 = ap (λ (x : ℕ). x / 2 ^ k % 2) parity_is in
        (λ t. m.0 (held_set word k l (sym e ∙ t)), λ t. e ∙ held_true word k l (m.1 t))

    -- the payload is shown as it was received, whatever the parity says
    pub packets_shown : (κt : Lfts 1) (b : ArgsD payload_of.signature κt) (q : ResD payload_of.signature κt)
        (t : AtExit (ended_of 1 payload_of_kinds.ps payload_of_kinds.r) κt) → b.0.now ≡ word → payload_of_reads.Post κt b q t → q.now ≡ take 1504 word
    packets_shown κt b q t e p = p ∙ ap shown e ∙ sym (shows word 1504 facts.0 (sym (packet_long (kind_of word) has)))

    -- where part k holds, a word with an odd number of other bits of that part alone is accepted with the same fields, and just part k is
    -- reported as not holding
    pub part_seen : (κt : Lfts 1) (b : ArgsD read.signature κt) (q : ResD read.signature κt) (t : AtExit (ended_of 1 read_kinds.ps read_kinds.r) κt) (k : ℕ)
        → h.parity / 2 ^ k % 2 ≡ 1 → OddIn word b.0.now k → read_reads.Post κt b q t → PartSeen h q k
    unfolding header_of holding_of
    part_seen κt b q t k set d p =
        let v : List ℕ = b.0.now in
        let sound : Readable v = still_readable word v k d (readable word (sym facts.0)) has in
        let kind_v : kind_of v ≡ kind_of word = same_behind word v k d 12268 3 (omega arith) (omega arith) in
        let held-v : holding_of v ≡ held_of v = choose_true (held_of v) 0 (ap has_parity kind_v ∙ has) in
        record {
          now = header_of v;
          read = told_inj q (Ok (header_of v)) (p.0 ∙ sym (tells_header v (header_of v) (read_0 v sound) refl));
          rfu = same_rfu word v k d has ∙ sym (ap (λ (x : Header). x.rfu) facts.1);
          id = same_behind word v k d 12260 8 (omega arith) (omega arith) ∙ sym (ap (λ (x : Header). x.id) facts.1);
          kind = kind_v ∙ sym kind_is;
          version = same_behind word v k d 12271 3 (omega arith) (omega arith) ∙ sym (ap (λ (x : Header). x.version) facts.1);
          parity = ap (λ (x : ℕ). x + 2 ^ k) held-v ∙ part_fails word v k d (sym (ap (λ (x : ℕ). x / 2 ^ k % 2) parity_is) ∙ set) ∙ sym parity_is;
          address =
              ap₂ (λ (x y : ℕ). choose (eqb x 3) y 0) kind_v (same_behind word v k d 12248 12 (omega arith) (omega arith)) ∙ sym (ap (λ (x : Header). x.address) facts.1);
        }
