-- The ways back, over the definitions: what the reader makes of a written word, and which words the writer writes.
-- Assumes nothing.
use Prim.Native.Nat.{ℕ, ◌*◌, ◌≤◌, ◌<◌}
use mathlib.Core.Bool.{false}
use mathlib.Core.Path.{◌≡◌, refl, sym, ap, ap₂, ◌∙◌, subst}
use mathlib.Core.List.{List}
use native.Mathlib.Decide.{ℕ_discrete}
use native.Mathlib.Omega.{arith}
use borrow.Author.Tests.{eq-eqb, ne_eqb}
use lib.Dec.{eqb}
use lib.Pow.{pow_pos}
use lib.ListN.{length, take, drop}
use lib.Seq.{length-take-le}
use Rattle.ground.specs.Outcome.{Is}
use Rattle.ground.specs.Choice.{choose, both}
use Rattle.ground.proofs.Outcome.{agree}
use Rattle.ground.proofs.Choice.{choose_true, choose_false}
use Rattle.bits.specs.Lists.{bits, Below}
use Rattle.bits.proofs.Below.{below_take}
use Rattle.bits.proofs.Places.{field_lt}
use Rattle.parity.specs.Part.{held_of}
use Rattle.infoword.specs.Suffix.{id_of, kind_of, has_parity, lead_bits, rfu_of, address_of}
use Rattle.infoword.specs.Word.{packet_bytes, front_bytes, word_with, word_of}
use Rattle.infoword.proofs.Closing.{has_2, has_not, by_parity}
use Rattle.infoword.proofs.Ending.{lead_rfu}
use Rattle.infoword.proofs.Written.{front_long, front_short, packet_long, packet_le, word_length, id_back, kind_back, version_back, spare_back, lead_back, rfu_back, crc_back, packet_first, held_back}
use Rattle.infoword.proofs.Again.{Sound, word_below, same_ending, word_again_1, word_again_2}
use Rattle.write_faults.specs.Faults.{lent_bytes}
use Rattle.encapsulation.specs.Writing.{packet_of, written}
use Rattle.write_faults.proofs.Faults.{Writable}
use Rattle.encapsulation.proofs.Laid.{lent_2, lent_other}
use Rattle.encapsulation.proofs.Answers.{writes, wrote, carried_length, packet_whole}
use Rattle.fields.specs.Report.{no_header_at, holding_of, header_of}
use Rattle.header_bytes.specs.Bytes.{header_bytes}
use Rattle.payload.specs.Answers.{written_header, told, reading, shown, read_into}
use Rattle.std.specs.Prelude.{Ok}
use Rattle.fields.proofs.Faults.{Readable, read_0, no_address}
use Rattle.payload.proofs.Answers.{tells_header, shows, into_done}

-- a word that is written, with a packet of its stream type's size and the number u before STS_ID
module _ (kind id u : ℕ) (p : List ℕ) (k : kind ≤ 3) (i : id < 256) (n : length p ≡ packet_bytes kind) where
  abbrev word : List ℕ
  word = word_with kind id (bits (lead_bits kind) u) p

  fits : length p ≤ front_bytes kind
  fits = subst (λ (x : ℕ). x ≤ front_bytes kind) (sym n) (packet_le kind)

  kind_is : kind_of word ≡ kind
  kind_is = kind_back kind id u p fits (omega arith)

  -- it is accepted, if its address may stand there
  pub readable_back : both (eqb (kind_of word) 3) (no_header_at (address_of word)) ≡ false → Readable word
  readable_back a = record {
    word_is = word_length kind id u p fits;
    spare_is = spare_back kind id u p fits;
    crc_is = crc_back kind id u p fits (omega arith);
    version_is = version_back kind id u p fits;
    kind_is = rw kind_is k;
    address_is = a;
  }

  -- all four parts of types 2 and 3 hold
  pub parity_back : holding_of word ≡ choose (has_parity kind) 15 0
  unfolding holding_of
  parity_back =
      ap (λ (x : ℕ). choose (has_parity x) (held_of word) 0) kind_is
      ∙ by_parity kind
      (λ e. choose_true (held_of word) 0 e ∙ held_back kind id u p e (n ∙ packet_long kind e) ∙ sym (choose_true 15 0 e))
      (λ e. choose_false (held_of word) 0 e ∙ sym (choose_false 15 0 e))

  -- its packet is shown
  pub shown_back : Readable word → shown word ≡ p
  shown_back a =
      sym (shows word (length p) (read_0 word a) (n ∙ ap packet_bytes (sym kind_is))) ∙ packet_first kind id u p fits

-- a word of stream type 0, 1 or 2
module _ (kind id : ℕ) (p : List ℕ) (k : kind ≤ 2) (i : id < 256) (n : length p ≡ packet_bytes kind) where
  low : kind ≤ 3
  low = omega arith

  room : length p ≤ front_bytes kind
  room = fits kind id 0 p low i n

  type_is : kind_of (word_of kind id p) ≡ kind
  type_is = kind_is kind id 0 p low i n

  type_low : kind_of (word_of kind id p) ≤ 2
  type_low = rw type_is k

  -- it is accepted
  pub read_back : Readable (word_of kind id p)
  read_back = readable_back kind id 0 p low i n (no_address (word_of kind id p) type_low)

  rfu_is : rfu_of (word_of kind id p) ≡ 0
  rfu_is = rfu_back kind id p room (omega arith) (λ e. omega arith)

  parity_is : holding_of (word_of kind id p) ≡ choose (eqb kind 2) 15 0
  parity_is =
      parity_back kind id 0 p low i n
      ∙ elim (ℕ_discrete kind 2) [
        | yes e ↦ choose_true 15 0 (has_2 kind e) ∙ sym (choose_true 15 0 (eq-eqb kind 2 e))
        | no e ↦ choose_false 15 0 (has_not kind e (λ t. omega arith)) ∙ sym (choose_false 15 0 (ne_eqb kind 2 e))
      ]

  header_is : written_header kind id ≡ header_of (word_of kind id p)
  unfolding header_of
  header_is =
      let w : List ℕ = word_of kind id p in
      let a : choose (eqb (kind_of w) 3) (address_of w) 0 ≡ 0 = choose_false (address_of w) 0 (ne_eqb (kind_of w) 3 (λ e. omega (arith, type_is, e))) in
      cc (sym rfu_is, sym (id_back kind id 0 p room i), sym type_is, sym (version_back kind id 0 p room), sym parity_is, sym a)

  -- its header is told
  pub header_back : told (Ok (written_header kind id)) ≡ reading (word_of kind id p)
  header_back = tells_header (word_of kind id p) (written_header kind id) (read_0 (word_of kind id p) read_back) header_is

  -- its packet is shown
  pub packet_back : shown (word_of kind id p) ≡ p
  packet_back = shown_back kind id 0 p low i n read_back

  -- and its header goes into 16 bytes
  pub bytes_back : (out : List ℕ) → length out ≡ 16 → Is (read_into (word_of kind id p) out) 0 (header_bytes (written_header kind id))
  bytes_back out h = into_done (word_of kind id p) out h (read_0 (word_of kind id p) read_back) (header_bytes (written_header kind id)) (ap header_bytes header_is)

  -- it can be written again
  pub written_sound : Below 256 p → Sound (word_of kind id p)
  written_sound b = record {
    word_is = word_length kind id 0 p room;
    bytes = word_below kind id p b;
    spare_is = spare_back kind id 0 p room;
    crc_is = crc_back kind id 0 p room (omega arith);
    version_is = version_back kind id 0 p room;
    lead_is = lead_back kind id 0 p room (omega arith) (pow_pos (lead_bits kind));
  }

-- after a write that answered 0
module _ (kind id count : ℕ) (p null word : List ℕ) (r : ℕ) (m : List ℕ) (o : Is (written kind id count p null word) r m) (z : r ≡ 0) (i : id < 256) where
  could : Writable kind count (length p) (length null) (length word)
  could = wrote kind id count p null word r m o z

  left : m ≡ word_of kind id (packet_of kind count p null)
  left = (writes kind id count p null word r m o could).1

  size : length (packet_of kind count p null) ≡ packet_bytes kind
  size = carried_length kind count p null (length word) could

  -- the header that is told
  pub header_told_after : told (Ok (written_header kind id)) ≡ reading m
  header_told_after = header_back kind id (packet_of kind count p null) could.kind_is i size ∙ ap reading (sym left)

  -- reading the header into 16 bytes answers 0 and leaves that header
  pub header_after : (w out h : List ℕ) (n : ℕ) → w ≡ m → length out ≡ 16 → Is (read_into w out) n h → (n ≡ 0) × (h ≡ header_bytes (written_header kind id))
  header_after w out h n e l q =
      agree q (subst (λ (x : List ℕ). Is (read_into x out) 0 (header_bytes (written_header kind id))) (sym (e ∙ left)) (bytes_back kind id (packet_of kind count p null) could.kind_is i size out l))

  -- the packet is shown: of type 2 the packets and then the null packets
  pub shown_after : shown m ≡ packet_of kind count p null
  shown_after = ap shown left ∙ packet_back kind id (packet_of kind count p null) could.kind_is i size

  -- and it stands at the front of the word
  pub packet_after : take (packet_bytes kind) m ≡ packet_of kind count p null
  packet_after =
      ap₂ take (sym size) left ∙ packet_first kind id 0 (packet_of kind count p null) (subst (λ (x : ℕ). x ≤ front_bytes kind) (sym size) (packet_le kind))

-- a word of bytes, of stream type 0, 1 or 2, that the reader accepts with RFU zero
module _ (w : List ℕ) (a : Readable w) (b : Below 256 w) (low : kind_of w ≤ 2) (z : rfu_of w ≡ 0) where
  sound : Sound w
  sound = record {
    word_is = a.word_is;
    bytes = b;
    spare_is = a.spare_is;
    crc_is = a.crc_is;
    version_is = a.version_is;
    lead_is = lead_rfu w (λ e. omega arith) ∙ z;
  }

  shown_is : shown w ≡ take (packet_bytes (kind_of w)) w
  shown_is = sym (shows w (packet_bytes (kind_of w)) (read_0 w a) refl)

  front_most : front_bytes (kind_of w) ≤ 1532
  front_most = by_parity (kind_of w) (λ e. omega (arith, front_long (kind_of w) e)) (λ e. omega (arith, front_short (kind_of w) e))

  shown_length : length (shown w) ≡ packet_bytes (kind_of w)
  shown_length = ap length shown_is ∙ length-take-le (packet_bytes (kind_of w)) w (omega (arith, a.word_is, packet_le (kind_of w), front_most))

  -- a write of the fields and of the payload that is shown, of type 2 as eight packets, leaves the same last four bytes in 1,536; and the same
  -- word for stream type 1, and for type 2 where all four parts hold
  module _ (kind id count : ℕ) (p null out : List ℕ) (r : ℕ) (m : List ℕ) (k : kind ≡ kind_of w) (i : id ≡ id_of w) (e : p ≡ shown w)
      (c : kind ≡ 2 → count ≡ 8) (one : kind ≡ 2 → length null ≡ 188) (n : length out ≡ 1536) (o : Is (written kind id count p null out) r m) where
    lent : length p ≡ lent_bytes kind count
    lent =
        ap length e ∙ shown_length ∙ ap packet_bytes (sym k)
        ∙ elim (ℕ_discrete kind 2) [
          | yes t ↦ packet_long kind (has_2 kind t) ∙ sym (lent_2 kind count t ∙ ap (λ (x : ℕ). 188 * x) (c t))
          | no t ↦ choose_false 1504 (choose (eqb kind 1) 1532 0) (has_not kind t (λ e. omega (arith, low, k, e))) ∙ sym (lent_other kind count t)
        ]

    allowed : Writable kind count (length p) (length null) (length out)
    allowed = record { kind_is = rw k low; count_is = λ t. omega (arith, c t); payload_is = lent; null_is = one; word_is = n }

    again : m ≡ word_of (kind_of w) (id_of w) (shown w)
    again =
        (writes kind id count p null out r m o allowed).1 ∙ ap (word_of kind id) (packet_whole kind count p null c ∙ e)
        ∙ ap₂ (λ (x y : ℕ). word_of x y (shown w)) k i

    shown_below : Below 256 (shown w)
    shown_below = subst (λ (l : List ℕ). Below 256 l) (sym shown_is) (below_take 256 (packet_bytes (kind_of w)) w b)

    id_lt : id_of w < 256
    id_lt = field_lt w 12260 8 (omega arith)

    pub write_again : (r ≡ 0) × (drop 1532 m ≡ drop 1532 w) × (kind ≡ 1 → m ≡ w) × (kind ≡ 2 → held_of w ≡ 15 → m ≡ w)
    write_again =
        let v : List ℕ = word_of (kind_of w) (id_of w) (shown w) in
        let fit : length (shown w) ≤ front_bytes (kind_of w) = subst (λ (x : ℕ). x ≤ front_bytes (kind_of w)) (sym shown_length) (packet_le (kind_of w)) in
        let s : Sound v = written_sound (kind_of w) (id_of w) (shown w) low id_lt shown_length shown_below in
        let same : drop 1532 v ≡ drop 1532 w =
        same_ending v w s sound (id_back (kind_of w) (id_of w) 0 (shown w) fit id_lt) (kind_back (kind_of w) (id_of w) 0 (shown w) fit (omega (arith, a.kind_is))) in (
          (writes kind id count p null out r m o allowed).0,
          ap (drop 1532) again ∙ same,
          λ t.
              let f : kind_of w ≡ 1 = sym k ∙ t in
              again ∙ ap (word_of (kind_of w) (id_of w)) (shown_is ∙ ap (λ (x : ℕ). take (packet_bytes x) w) f) ∙ sym (word_again_1 w sound f),
          λ t h.
              let f : kind_of w ≡ 2 = sym k ∙ t in
              again ∙ ap (word_of (kind_of w) (id_of w)) (shown_is ∙ ap (λ (x : ℕ). take (packet_bytes x) w) f) ∙ sym (word_again_2 w sound f h),
        )
