-- One call of the reader: what it leaves of a word that it accepts, of one of another type, and of one that it refuses.
-- Assumes nothing.
use Prim.Native.Nat.{ℕ, ◌≤◌, ◌<◌}
use mathlib.Core.Bool.{not}
use mathlib.Core.Path.{◌≡◌, refl, sym, ap, ap₂, ◌∙◌, subst}
use mathlib.Core.List.{List, [], ◌∷◌, ◌++◌}
use native.Mathlib.Omega.{arith}
use native.Mathlib.Decide.{ℕ_discrete}
use borrow.Author.Tests.{eq-eqb, ne_eqb}
use lib.Dec.{eqb}
use lib.ListN.{length, take, drop}
use lib.Seq.{take-append_seam, drop-append_seam, length-take-le}
use Rattle.ground.specs.Outcome.{Is}
use Rattle.ground.specs.Choice.{choose, refuse, first_of}
use Rattle.ground.proofs.Choice.{choose_true, choose_false, both_second, first_clear}
use Rattle.bits.specs.Lists.{bits, num, unpack, pack}
use Rattle.bits.proofs.Lists.{bits_length, bits_below, num_bits, unpack_pack}
use Rattle.infoword.specs.Suffix.{kind_of, address_of}
use Rattle.fields.specs.Report.{header_of}
use Rattle.fields.specs.declared.Header.{Header}
use Rattle.fields.proofs.Faults.{Readable}
use Rattle.header_bytes.specs.Bytes.{header_with, header_bytes}
use Rattle.ip.specs.Packet.{Packet, AllFit}
use Rattle.ip.specs.Read.{Open, none, Sound, Got, gives, room}
use Rattle.ip.specs.Memory.{queue, queue_in, open_bytes, open_in}
use Rattle.ip.proofs.Any.{only_whole, room_enough}
use Rattle.ip.proofs.Memory.{queue_back, open_meant}
use Rattle.ip_open.specs.Opening.{dropping}
use Rattle.ip_look.specs.Looking.{got_of, ip_faults}
use Rattle.ip_read.specs.Reading.{handed_to, read_into}
use Rattle.ip_look.proofs.Faults.{Taken, takes, taken}
use Rattle.ip_queue.proofs.Places.{queue_room}
use Rattle.ip_streams.specs.Calls.{ReadCall, LostCall, handed_by, Lent}
use Rattle.ip_streams.specs.Streams.{Whole, OnlyWhole, RefusedLeaves, OthersPass}

-- a call that had the outcome that the reader's promise gives
abbrev pub Did : ReadCall → Type 0
Did a = Is (read_into a.word a.held a.packets a.header) a.answer (a.left_held, a.left_packets, a.left_header)

abbrev pub Dropped : LostCall → Type 0
Dropped b = Is (dropping b.held) b.answer b.left_held

-- the number of bytes handed out, out of the header
count_bytes : (h : Header) (n : ℕ) → take 2 (drop 10 (header_with h n)) ≡ pack 2 (bits 16 n)
unfolding header_with pack
count_bytes h n = refl

count_back : (h : Header) (n : ℕ) → n < 65536 → num (unpack (take 2 (drop 10 (header_with h n)))) ≡ n
count_back h n l =
    ap (λ (x : List ℕ). num (unpack x)) (count_bytes h n) ∙ ap num (unpack_pack 2 (bits 16 n) (bits_below 16 n) (bits_length 16 n)) ∙ num_bits 16 n l

module _ (a : ReadCall) (did : Did a) where
  abbrev got : Got
  got = got_of a.word a.held

  abbrev pub refused : ℕ
  refused = first_of (ip_faults a.word a.held (length a.packets) (length a.header))

  abbrev before : List ℕ × List ℕ × List ℕ
  before = (a.held, a.packets, a.header)

  abbrev of_3 : List ℕ × List ℕ × List ℕ
  of_3 = (open_bytes got.after, handed_to a.packets got.packets, header_with (header_of a.word) (length (queue got.packets)))

  abbrev of_others : List ℕ × List ℕ × List ℕ
  of_others = (a.held, a.packets, header_bytes (header_of a.word))

  abbrev after : List ℕ × List ℕ × List ℕ
  after = (a.left_held, a.left_packets, a.left_header)

  pub answer_is : a.answer ≡ refused
  unfolding read_into
  answer_is = did.answer

  memory_is : after ≡ choose (eqb refused 0) (choose (eqb (kind_of a.word) 3) of_3 of_others) before
  unfolding read_into
  memory_is = did.memory

  -- a word that is refused
  pub refused_leaves : RefusedLeaves a
  refused_leaves n =
      let e : after ≡ before = memory_is ∙ choose_false (choose (eqb (kind_of a.word) 3) of_3 of_others) before (ne_eqb refused 0 (λ z. n (answer_is ∙ z))) in
      record { held = ap (λ x. x.0) e; packets = ap (λ x. x.1) e; header = ap (λ x. x.2) e }

  -- one of type 0, 1 or 2, be it refused or not
  pub others_pass : OthersPass a
  others_pass low =
      let k : choose (eqb (kind_of a.word) 3) of_3 of_others ≡ of_others = choose_false of_3 of_others (ne_eqb (kind_of a.word) 3 (λ z. omega arith)) in
      elim (ℕ_discrete a.answer 0) [
        | yes z ↦ (
            let e : after ≡ of_others = memory_is ∙ choose_true (choose (eqb (kind_of a.word) 3) of_3 of_others) before (eq-eqb refused 0 (sym answer_is ∙ z)) ∙ k in
            (ap (λ x. x.0) e, ap (λ x. x.1) e))
        | no n ↦ ((refused_leaves n).held, (refused_leaves n).packets)
      ]

  -- one of type 3 that is accepted
  module _ (z : a.answer ≡ 0) (three : kind_of a.word ≡ 3) where
    asked : Taken a.word a.held (length a.packets) (length a.header)
    asked = taken a.word a.held (length a.packets) (length a.header) (sym answer_is ∙ z)

    left : after ≡ of_3
    left =
        memory_is ∙ choose_true (choose (eqb (kind_of a.word) 3) of_3 of_others) before (eq-eqb refused 0 (sym answer_is ∙ z))
        ∙ choose_true of_3 of_others (eq-eqb (kind_of a.word) 3 three)

    pub held_left : a.left_held ≡ open_bytes got.after
    held_left = ap (λ x. x.0) left

    payload_length : length (take 1504 a.word) ≡ 1504
    payload_length = length-take-le 1504 a.word (omega (arith, asked.readable.word_is))

    few : room got.packets ≤ 6604
    unfolding got_of
    few = room_enough (open_in a.held) (address_of a.word) (take 1504 a.word) (open_meant a.held) payload_length

    pub good : AllFit got.packets × Sound got.after
    unfolding got_of
    good = only_whole (open_in a.held) (address_of a.word) (take 1504 a.word) (open_meant a.held)

    size : length (queue got.packets) ≤ 6604
    size = subst (λ (n : ℕ). n ≤ 6604) (sym (queue_room got.packets)) few

    count_is : num (unpack (take 2 (drop 10 a.left_header))) ≡ length (queue got.packets)
    count_is =
        ap (λ (l : List ℕ). num (unpack (take 2 (drop 10 l)))) (ap (λ x. x.2) left) ∙ count_back (header_of a.word) (length (queue got.packets)) (omega (arith, size))

    packets_left : a.left_packets ≡ queue got.packets ++ drop (length (queue got.packets)) a.packets
    unfolding handed_to
    packets_left = ap (λ x. x.1) left

    pub handed_is : handed_by a ≡ queue got.packets
    handed_is =
        let q : List ℕ = queue got.packets in
        ap₂ take count_is packets_left ∙ take-append_seam q (drop (length q) a.packets)

    pub whole : Whole a
    whole =
        let q : List ℕ = queue got.packets in
        let n : length (handed_by a) ≡ length q = ap length handed_is in
        record {
          packets = got.packets;
          fit = good.0;
          bytes = handed_is;
          sent = ap (queue_in 0) handed_is ∙ queue_back got.packets good.0;
          most = subst (λ (k : ℕ). k ≤ 6604) (sym n) size;
          rest = ap₂ drop n packets_left ∙ drop-append_seam q (drop (length q) a.packets) ∙ ap (λ (k : ℕ). drop k a.packets) (sym n);
          after = got.after;
          sound = good.1;
          held = held_left;
        }

  pub only_whole_come : OnlyWhole a
  only_whole_come z three = whole z three

-- a word of type 3 that keeps the reader's rules, read with all that is asked of the lent memory, and in step with it: it is accepted, and hands out
-- the packets
pub accepted : (a : ReadCall) → Did a → (m : List ℕ) → Lent m a → length m ≡ 4104 → Readable a.word → kind_of a.word ≡ 3
    → (o : Open) (ps : List Packet) → got_of a.word m ≡ gives ps o → (a.answer ≡ 0) × (a.left_held ≡ open_bytes o) × (handed_by a ≡ queue ps)
accepted a did m l n r three o ps e =
    let f : got_of a.word a.held ≡ gives ps o = ap (got_of a.word) l.held ∙ e in
    let t : Taken a.word a.held (length a.packets) (length a.header) = record {
      held_is = ap length l.held ∙ n;
      room_is = l.room;
      header_is = l.header;
      readable = r;
      whole = both_second (eqb (kind_of a.word) 3) (ap (λ (g : Got). g.refused) f);
    } in
    let z : a.answer ≡ 0 = answer_is a did ∙ takes a.word a.held (length a.packets) (length a.header) t in
    (z, held_left a did z three ∙ ap (λ (g : Got). open_bytes g.after) f, handed_is a did z three ∙ ap (λ (g : Got). queue g.packets) f)

-- a word that is reported lost
pub dropped : (b : LostCall) → Dropped b → length b.held ≡ 4104 → b.left_held ≡ open_bytes none
unfolding dropping
dropped b did n =
    let z : first_of (refuse 1 (not (eqb (length b.held) 4104)) ∷ []) ≡ 0 = first_clear (refuse 1 (not (eqb (length b.held) 4104))) [] (ap not (eq-eqb (length b.held) 4104 n)) in
    did.memory ∙ choose_true (open_bytes none) b.held (eq-eqb _ 0 z)
