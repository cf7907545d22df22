-- Laws of what is put behind the payload: the address over the zeros behind Parity_Parts, and the header closed over it.
-- Assumes nothing.
use Prim.Native.Nat.{ℕ, ◌+◌, ◌*◌, ◌/◌, ◌%◌, ◌≤◌, ◌<◌}
use mathlib.Core.Path.{◌≡◌, refl, sym, ap, ap₂, ◌∙◌}
use mathlib.Core.List.{List, [], ◌∷◌, ◌++◌, append_assoc, append-nil}
use native.Mathlib.Omega.{arith}
use borrow.Author.Tests.{eq-eqb}
use lib.ListN.{length, take, drop, set, length-append, length-drop, take-append-drop, drop_of_length-le}
use lib.Seq.{take_at, take_all, length-take-le, set_at}
use Rattle.ground.proofs.Choice.{choose_true}
use Rattle.std.specs.Int.{w32, to_be_bytes}
use borrow.Rule.Slice.PartMut.{put_mid}
use Rattle.bits.specs.Lists.{bits, num, pack}
use Rattle.bits.proofs.Lists.{bits_length, num_bits, pack_length, pack_append}
use Rattle.bits.proofs.Numbers.{bits_join, pack_32}
use Rattle.parity.specs.Part.{parts_of}
use Rattle.infoword.specs.Word.{fields49, word_with, ip_word}
use Rattle.infoword.specs.Steps.{parted, sealed, closing}
use Rattle.infoword.proofs.Fields49.{fields49_length, parts_are}
use Rattle.infoword.proofs.Ending.{lead_long}
use Rattle.infoword.proofs.Written.{word_length}
use Rattle.infoword.proofs.Sealing.{header_number_with, parts_front, word_long, address_lead}

-- the last byte of 28, of which the last 28 bits are zeros
module _ (s : List ℕ) (l : length s ≡ 196) where
  -- 27 bytes, and the eight bits behind them
  apart : (x : ℕ) → x < 256 → pack 28 (s ++ bits 28 x) ≡ pack 27 (s ++ bits 20 0) ++ (x ∷ [])
  unfolding pack
  apart x h =
      let e : bits 28 x ≡ bits 20 0 ++ bits 8 x = ap (bits 28) (omega arith) ∙ bits_join 20 8 0 x h in
      let n : length (s ++ bits 20 0) ≡ 216 = length-append s (bits 20 0) ∙ omega (arith, bits_length 20 0) in
      let one : pack 1 (bits 8 x) ≡ x ∷ [] =
      ap (λ (y : ℕ). y ∷ []) (ap num (take_all 8 (bits 8 x) (omega (arith, bits_length 8 x))) ∙ num_bits 8 x h) in
      ap (λ (y : List ℕ). pack 28 (s ++ y)) e ∙ ap (pack 28) (sym (append_assoc s (bits 20 0) (bits 8 x)))
      ∙ pack_append 27 1 (s ++ bits 20 0) (bits 8 x) n ∙ ap (λ (y : List ℕ). pack 27 (s ++ bits 20 0) ++ y) one

  -- set at its place behind 1,504 bytes
  address_set : (p t : List ℕ) (x : ℕ) → length p ≡ 1504 → x < 256
      → set (p ++ pack 28 (s ++ bits 28 0) ++ t) 1531 x ≡ p ++ pack 28 (s ++ bits 28 x) ++ t
  address_set p t x n h =
      let f : List ℕ = pack 27 (s ++ bits 20 0) in
      let m : length (p ++ f) ≡ 1531 = length-append p f ∙ omega (arith, pack_length 27 (s ++ bits 20 0)) in
      let shape : (y : ℕ) → p ++ (f ++ (y ∷ [])) ++ t ≡ (p ++ f) ++ y ∷ t =
      λ y. ap (λ (z : List ℕ). z ++ t) (sym (append_assoc p f (y ∷ []))) ∙ append_assoc (p ++ f) (y ∷ []) t in
      ap (λ (z : List ℕ). set (p ++ z ++ t) 1531 x) (apart 0 (omega arith)) ∙ ap (λ (z : List ℕ). set z 1531 x) (shape 0)
      ∙ set_at (p ++ f) 0 t x 1531 m ∙ sym (shape x) ∙ ap (λ (z : List ℕ). p ++ z ++ t) (sym (apart x h))

-- a word of 1,536 bytes, with what is put behind its payload
module _ (w : List ℕ) (id address : ℕ) (n : length w ≡ 1536) (i : id < 256) (a : address < 4096) where
  abbrev p : List ℕ
  p = take 1504 w

  abbrev s : List ℕ
  s = fields49 (parts_of w)

  abbrev head : ℕ
  head = address % 16 * 0x4000 + (id * 64 + 3 * 8)

  p_length : length p ≡ 1504
  p_length = length-take-le 1504 w (omega arith)

  s_length : length s ≡ 196
  s_length = fields49_length (parts_of w) ∙ ap (λ (x : ℕ). 49 * x) (parts_are w).0

  parted_is : parted w ≡ p ++ pack 28 (s ++ bits 28 0) ++ drop 1532 w
  unfolding parted
  parted_is = choose_true (p ++ pack 28 (s ++ bits 28 0) ++ drop 1532 w) w (eq-eqb (length w) 1536 n)

  set_is : set (parted w) 1531 (address / 16) ≡ p ++ pack 28 (s ++ bits 28 (address / 16)) ++ drop 1532 w
  set_is = ap (λ (x : List ℕ). set x 1531 (address / 16)) parted_is ∙ address_set s s_length p (drop 1532 w) (address / 16) p_length (omega arith)

  front_length : length (p ++ pack 28 (s ++ bits 28 (address / 16))) ≡ 1532
  front_length = length-append p (pack 28 (s ++ bits 28 (address / 16))) ∙ omega (arith, p_length, pack_length 28 (s ++ bits 28 (address / 16)))

  pub set_length : length (set (parted w) 1531 (address / 16)) ≡ 1536
  set_length =
      ap length set_is ∙ length-append (p ++ pack 28 (s ++ bits 28 (address / 16))) (drop 1532 w) ∙ omega (arith, front_length, length-drop 1532 w)

  own_parts : s ≡ fields49 (parts_of p)
  own_parts = ap fields49 (ap parts_of (sym (take-append-drop 1504 w)) ∙ parts_front p (drop 1504 w) p_length)

  pub closes : closing (set (parted w) 1531 (address / 16)) head ≡ ip_word id address p
  unfolding closing
  closes =
      let v : List ℕ = set (parted w) 1531 (address / 16) in
      choose_true (sealed (take 1532 v) (bits 18 head)) v (eq-eqb (length v) 1536 set_length)
      ∙ ap₂ sealed
      (ap (take 1532) set_is ∙ take_at (p ++ pack 28 (s ++ bits 28 (address / 16))) (drop 1532 w) 1532 front_length
      ∙ ap (λ (x : List ℕ). p ++ pack 28 (x ++ bits 28 (address / 16))) own_parts)
      (header_number_with (address % 16) id 3 i (omega arith))
      ∙ word_long 3 id address p refl (omega arith) p_length
      ∙ ap (λ (x : List ℕ). word_with 3 id x p) (sym (address_lead address a))

  pub closed_length : length (ip_word id address p) ≡ 1536
  closed_length =
      ap (λ (x : List ℕ). length (word_with 3 id x p)) (address_lead address a ∙ ap (λ (r : ℕ). bits r address) (sym (lead_long 3 refl)))
      ∙ word_length 3 id address p (omega (arith, p_length))

-- two numbers in eight bytes
pub eight : (l : List ℕ) (a b : ℕ) → length l ≡ 8
    → put_mid 4 4 (to_be_bytes w32 a ++ drop 4 l) (to_be_bytes w32 b) ≡ pack 4 (bits 32 a) ++ pack 4 (bits 32 b)
eight l a b n =
    let x : List ℕ = to_be_bytes w32 a ++ drop 4 l in
    let k : length (drop 4 x) ≤ 4 = omega (arith, length-drop 4 x, length-drop 4 l) in
    ap (λ (t : List ℕ). to_be_bytes w32 a ++ (to_be_bytes w32 b ++ t)) (drop_of_length-le (drop 4 x) k)
    ∙ ap₂ (λ (u v : List ℕ). u ++ v) (sym (pack_32 a)) (append-nil (to_be_bytes w32 b) ∙ sym (pack_32 b))
