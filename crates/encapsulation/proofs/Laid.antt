-- The writer's steps lead to the word.
-- Assumes nothing.
use Prim.Native.Nat.{ℕ, ◌+◌, ◌-◌, ◌*◌, ◌≤◌, ◌<◌}
use mathlib.Core.Bool.{Bool, true, false}
use mathlib.Core.Path.{◌≡◌, refl, sym, ap, ap₂, ◌∙◌, subst}
use mathlib.Core.List.{List, ◌++◌, append_assoc}
use native.Mathlib.Decide.{ℕ_discrete}
use native.Mathlib.Omega.{arith}
use borrow.Author.Tests.{eq-eqb, ne_eqb}
use lib.Dec.{eqb}
use lib.ListN.{length, take, drop, replicate, length-append, length-drop}
use lib.Seq.{take_at}
use Rattle.ground.specs.Choice.{choose}
use Rattle.ground.proofs.Choice.{choose_true, choose_false}
use Rattle.bits.specs.Lists.{bits, pack}
use Rattle.bits.proofs.Lists.{pack_length}
use Rattle.parity.specs.Part.{parts_of}
use Rattle.infoword.specs.Suffix.{header}
use Rattle.infoword.specs.Types.{stream_type}
use Rattle.infoword.specs.declared.StreamType.{StreamType}
use Rattle.infoword.specs.declared.StreamType.TheVariants.{Empty, Transparent, TransportStream, IpStream, Other}
use Rattle.infoword.proofs.Types.{number_of}
use Rattle.infoword.specs.Word.{filled, fields49, word_with, word_of}
use Rattle.infoword.specs.Steps.{parted, sealed, closing}
use Rattle.infoword.proofs.Written.{filled_length}
use Rattle.infoword.proofs.Closing.{has_not}
use Rattle.infoword.proofs.Ending.{lead_long}
use Rattle.infoword.proofs.Sealing.{header_number_lem, word_short, word_long, parts_front}
use Rattle.write_faults.specs.Faults.{lent_bytes}
use Rattle.encapsulation.specs.Writing.{repeated, packet_of}
use Rattle.encapsulation.specs.Steps.{filled_up, carried}
use Rattle.write_faults.proofs.Faults.{Writable}
use Rattle.encapsulation.proofs.Stores.{repeated_length}

-- how long the payload may be
pub lent_2 : (kind count : ℕ) → kind ≡ 2 → lent_bytes kind count ≡ 188 * count
lent_2 kind count e = choose_true (188 * count) (choose (eqb kind 1) 1532 0) (eq-eqb kind 2 e)

pub lent_other : (kind count : ℕ) → (kind ≡ 2 → ⊥) → lent_bytes kind count ≡ choose (eqb kind 1) 1532 0
lent_other kind count n = choose_false (188 * count) (choose (eqb kind 1) 1532 0) (ne_eqb kind 2 n)

pub lent_most : (kind count : ℕ) → (kind ≡ 2 → count ≤ 8) → lent_bytes kind count ≤ 1532
lent_most kind count c =
    elim (ℕ_discrete kind 2) [
      | yes e ↦ omega (arith, lent_2 kind count e, c e)
      | no n ↦ subst (λ (x : ℕ). x ≤ 1532) (sym (lent_other kind count n)) (at (eqb kind 1))
    ]
  where
    at : (b : Bool) → choose b 1532 0 ≤ 1532
    at true = omega arith
    at false = omega arith

-- the packet that is carried
pub packet_is : (kind count : ℕ) (p null : List ℕ) → kind ≡ 2 → packet_of kind count p null ≡ p ++ repeated (8 - count) null
unfolding packet_of
packet_is kind count p null e = choose_true (p ++ repeated (8 - count) null) p (eq-eqb kind 2 e)

pub packet_other : (kind count : ℕ) (p null : List ℕ) → (kind ≡ 2 → ⊥) → packet_of kind count p null ≡ p
unfolding packet_of
packet_other kind count p null n = choose_false (p ++ repeated (8 - count) null) p (ne_eqb kind 2 n)

pub packets_length : (count : ℕ) (p null : List ℕ) → count ≤ 8 → length p ≡ 188 * count → length null ≡ 188 → length (p ++ repeated (8 - count) null) ≡ 1504
packets_length count p null c n one = length-append p (repeated (8 - count) null) ∙ omega (arith, repeated_length (8 - count) null one)

close_is : (w : List ℕ) (head : ℕ) → length w ≡ 1536 → closing w head ≡ sealed (take 1532 w) (bits 18 head)
unfolding closing
close_is w head n = choose_true (sealed (take 1532 w) (bits 18 head)) w (eq-eqb (length w) 1536 n)

-- any type but 2 has no more
pub carried_other : (stream : StreamType) (count : ℕ) (null w : List ℕ) → (stream ≡ TransportStream → ⊥) → carried stream count null w ≡ w
carried_other TransportStream count null w n = absurd (n refl)
carried_other Empty count null w n = refl
carried_other Transparent count null w n = refl
carried_other IpStream count null w n = refl
carried_other Other count null w n = refl

module _ (kind id count : ℕ) (p null w w1 w2 w3 : List ℕ) (a : Writable kind count (length p) (length null) (length w)) (i : id < 256)
    (e1 : w1 ≡ filled 1532 p ++ drop 1532 w) (e2 : w2 ≡ carried (stream_type kind) count null w1) (e3 : w3 ≡ closing w2 (id * 0x40 + kind * 8)) where
  short : length p ≤ 1532
  short = omega (arith, a.payload_is, lent_most kind count a.count_is)

  full : length (filled 1532 p) ≡ 1532
  full = filled_length 1532 p short

  first_length : length w1 ≡ 1536
  first_length = ap length e1 ∙ length-append (filled 1532 p) (drop 1532 w) ∙ omega (arith, full, length-drop 1532 w, a.word_is)

  head_is : bits 18 (id * 0x40 + kind * 8) ≡ header (bits 4 0) id kind 0
  head_is = header_number_lem id kind i (omega (arith, a.kind_is))

  -- types 0 and 1
  other : (kind ≡ 2 → ⊥) → w3 ≡ word_of kind id p
  other n =
      let f : w2 ≡ w1 = e2 ∙ carried_other (stream_type kind) count null w1 (λ e. n (omega (arith, number_of kind (stream_type kind) TransportStream refl e))) in
      e3 ∙ ap (λ (x : List ℕ). closing x (id * 0x40 + kind * 8)) f ∙ close_is w1 (id * 0x40 + kind * 8) first_length
      ∙ ap₂ sealed (ap (take 1532) e1 ∙ take_at (filled 1532 p) (drop 1532 w) 1532 full) head_is
      ∙ word_short kind id p (has_not kind n (λ e. omega (arith, a.kind_is))) (omega (arith, a.kind_is)) full

  -- type 2
  module _ (two : kind ≡ 2) where
    packets : List ℕ
    packets = p ++ repeated (8 - count) null

    lent : length p ≡ 188 * count
    lent = a.payload_is ∙ lent_2 kind count two

    eight : length packets ≡ 1504
    unfolding packets
    eight = packets_length count p null (a.count_is two) lent (a.null_is two)

    up : List ℕ
    up = filled_up count null w1

    up_is : up ≡ packets ++ drop 1504 w1
    unfolding up filled_up packets filled
    up_is =
        ap (λ (x : List ℕ). x ++ repeated (8 - count) null ++ drop 1504 w1)
        (ap (take (188 * count)) (e1 ∙ append_assoc p (replicate (1532 - length p) 0) (drop 1532 w)) ∙ take_at p (replicate (1532 - length p) 0 ++ drop 1532 w) (188 * count) lent)

    up_length : length up ≡ 1536
    up_length = ap length up_is ∙ length-append packets (drop 1504 w1) ∙ omega (arith, eight, length-drop 1504 w1, first_length)

    abbrev behind : List ℕ
    behind = pack 28 (fields49 (parts_of packets) ++ bits 28 0)

    second_is : w2 ≡ packets ++ behind ++ drop 1532 up
    unfolding parted up
    second_is =
        e2 ∙ ap (λ (k : ℕ). carried (stream_type k) count null w1) two
        ∙ choose_true (take 1504 up ++ pack 28 (fields49 (parts_of up) ++ bits 28 0) ++ drop 1532 up) up (eq-eqb (length up) 1536 up_length)
        ∙ ap₂ (λ (x y : List ℕ). x ++ pack 28 (fields49 y ++ bits 28 0) ++ drop 1532 up)
        (ap (take 1504) up_is ∙ take_at packets (drop 1504 w1) 1504 eight)
        (ap parts_of up_is ∙ parts_front packets (drop 1504 w1) eight)

    front_length : length (packets ++ behind) ≡ 1532
    front_length = length-append packets behind ∙ omega (arith, eight, pack_length 28 (fields49 (parts_of packets) ++ bits 28 0))

    second_length : length w2 ≡ 1536
    second_length = ap length second_is ∙ length-append (packets ++ behind) (drop 1532 up) ∙ omega (arith, front_length, length-drop 1532 up, up_length)

    transport : w3 ≡ word_of kind id packets
    transport =
        e3 ∙ close_is w2 (id * 0x40 + kind * 8) second_length
        ∙ ap₂ sealed (ap (take 1532) second_is ∙ take_at (packets ++ behind) (drop 1532 up) 1532 front_length) (head_is ∙ ap (λ (k : ℕ). header (bits 4 0) id k 0) two)
        ∙ word_long 2 id 0 packets refl (omega arith) eight ∙ ap (λ (r : ℕ). word_with 2 id (bits r 0) packets) (sym (lead_long 2 refl))
        ∙ ap (λ (k : ℕ). word_of k id packets) (sym two)

  pub laid : w3 ≡ word_of kind id (packet_of kind count p null)
  unfolding packets
  laid =
      elim (ℕ_discrete kind 2) [
        | yes e ↦ transport e ∙ ap (word_of kind id) (sym (packet_is kind count p null e))
        | no n ↦ other n ∙ ap (word_of kind id) (sym (packet_other kind count p null n))
      ]
