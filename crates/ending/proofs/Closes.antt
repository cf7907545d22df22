-- Laws of what closes a word: the two numbers that are put into its last four bytes.
-- Assumes nothing.
use Prim.Native.Nat.{ℕ, ◌+◌, ◌-◌, ◌*◌, ◌/◌, ◌%◌, ◌^◌, ◌≤◌, ◌<◌}
use mathlib.Core.Path.{◌≡◌, sym, ap, ap₂, ◌∙◌}
use mathlib.Core.List.{List, ◌++◌, append-nil, append_assoc}
use native.Mathlib.Omega.{arith}
use borrow.Author.Tests.{eq-eqb, ne_eqb}
use borrow.Rule.Slice.PartMut.{put_mid}
use lib.ListN.{length, take, drop, length-append, length-drop, drop_of_length-le}
use lib.Seq.{take_at, drop-drop, length-take-le}
use lib.Pow.{split}
use Rattle.std.specs.Int.{w32, to_be_bytes}
use Rattle.ground.proofs.Choice.{choose_true, choose_false}
use Rattle.bits.specs.Lists.{bits, pack}
use Rattle.bits.proofs.Lists.{bits_high, pack_length}
use Rattle.bits.proofs.Numbers.{bits_join, pack_32}
use Rattle.infoword.specs.Suffix.{covered_of, header_crc}
use Rattle.infoword.specs.Steps.{sealed, closing}

-- 18 bits of header with zeros behind them, and then with the CRC
module _ (w : List ℕ) (head : ℕ) (h : length w ≡ 1536) where
  low : ℕ
  low = head % 262144

  low_bits : bits 18 low ≡ bits 18 head
  unfolding low
  low_bits = sym (ap (bits 18) (sym (split head 18)) ∙ bits_high 18 (head / 2 ^ 18) (head % 2 ^ 18))

  bare : take 1532 w ++ pack 4 (bits 32 (low * 0x4000)) ++ drop 1536 w ≡ take 1532 w ++ pack 4 (bits 18 head ++ bits 14 0)
  bare =
      let k : length w ≤ 1536 = omega arith in
      ap₂ (λ (x y : List ℕ). take 1532 w ++ pack 4 x ++ y)
      (ap (bits 32) (omega arith) ∙ bits_join 18 14 low 0 (omega arith) ∙ ap (λ (l : List ℕ). l ++ bits 14 0) low_bits) (drop_of_length-le w k)
      ∙ append-nil (take 1532 w ++ pack 4 (bits 18 head ++ bits 14 0))

  with_crc : (crc : ℕ) → crc < 256 → bits 32 (low * 0x4000 + crc * 0x40) ≡ bits 18 head ++ bits 8 crc ++ bits 6 0
  with_crc crc k =
      bits_join 18 14 low (crc * 0x40) (omega arith)
      ∙ ap₂ (λ (x y : List ℕ). x ++ y) low_bits (ap (bits 14) (omega arith) ∙ bits_join 8 6 crc 0 (omega arith))
      ∙ sym (append_assoc (bits 18 head) (bits 8 crc) (bits 6 0))

  closed_by : (w1 w2 : List ℕ) (crc : ℕ)
      → w1 ≡ take 1532 w ++ pack 4 (bits 32 (head % 262144 * 0x4000)) ++ drop 1536 w → crc ≡ header_crc (covered_of w1) → crc < 256
      → w2 ≡ take 1532 w1 ++ pack 4 (bits 32 (head % 262144 * 0x4000 + crc * 0x40)) ++ drop 1536 w1
      → w2 ≡ closing w head
  unfolding closing sealed low
  closed_by w1 w2 crc e1 ec k e2 =
      let b : w1 ≡ take 1532 w ++ pack 4 (bits 18 head ++ bits 14 0) = e1 ∙ bare in
      let t : length (take 1532 w) ≡ 1532 = length-take-le 1532 w (omega arith) in
      let n : length w1 ≤ 1536 = rw b (simp (length-append, pack_length) (omega arith)) in
      let front : take 1532 w1 ≡ take 1532 w = ap (take 1532) b ∙ take_at (take 1532 w) (pack 4 (bits 18 head ++ bits 14 0)) 1532 t in
      e2
      ∙ ap₂ (λ (x y : List ℕ). x ++ pack 4 (bits 32 (low * 0x4000 + crc * 0x40)) ++ y) front (drop_of_length-le w1 n)
      ∙ append-nil (take 1532 w ++ pack 4 (bits 32 (low * 0x4000 + crc * 0x40)))
      ∙ ap (λ (l : List ℕ). take 1532 w ++ pack 4 l)
      (with_crc crc k ∙ ap (λ (x : ℕ). bits 18 head ++ bits 8 x ++ bits 6 0) (ec ∙ ap (λ (l : List ℕ). header_crc (covered_of l)) b))
      ∙ sym (choose_true (sealed (take 1532 w) (bits 18 head)) w (eq-eqb (length w) 1536 h))

-- the bytes of a number spell it, and are put at a place
put_32 : (w : List ℕ) (at v : ℕ) → put_mid at 4 w (to_be_bytes w32 v) ≡ take at w ++ pack 4 (bits 32 v) ++ drop (at + 4) w
put_32 w at v =
    ap₂ (λ (x y : List ℕ). take at w ++ (x ++ y)) (sym (pack_32 v)) (drop-drop 4 at w)
    ∙ sym (append_assoc (take at w) (pack 4 (bits 32 v)) (drop (at + 4) w))

-- 32 bits into the last four bytes
put_last : (w b : List ℕ) (v : ℕ) → length w ≡ 1536 → b ≡ to_be_bytes w32 v → put_mid 1532 (length w - 1532) w b ≡ take 1532 w ++ pack 4 (bits 32 v) ++ drop 1536 w
put_last w b v h e =
    let four : length w - 1532 ≡ 4 = omega arith in
    ap₂ (λ (k : ℕ) (x : List ℕ). put_mid 1532 k w x) four e ∙ put_32 w 1532 v

-- the bytes that are put there, with no CRC, and then with the CRC that is due in the word with them
pub closes : (w b1 b2 : List ℕ) (head crc : ℕ) → length w ≡ 1536 → b1 ≡ to_be_bytes w32 (head % 262144 * 0x4000)
    → crc ≡ header_crc (covered_of (put_mid 1532 (length w - 1532) w b1)) → crc < 256 → b2 ≡ to_be_bytes w32 (head % 262144 * 0x4000 + crc * 0x40)
    → put_mid 1532 (length (put_mid 1532 (length w - 1532) w b1) - 1532) (put_mid 1532 (length w - 1532) w b1) b2 ≡ closing w head
closes w b1 b2 head crc n e1 ec k e2 =
    let w1 : List ℕ = put_mid 1532 (length w - 1532) w b1 in
    let s1 : w1 ≡ take 1532 w ++ pack 4 (bits 32 (head % 262144 * 0x4000)) ++ drop 1536 w = put_last w b1 (head % 262144 * 0x4000) n e1 in
    let n1 : length w1 ≡ 1536 = rw s1 (simp (length-append, pack_length, length-drop) (omega (arith, length-take-le 1532 w (omega arith)))) in
    closed_by w head n w1 (put_mid 1532 (length w1 - 1532) w1 b2) crc s1 ec k (put_last w1 b2 (head % 262144 * 0x4000 + crc * 0x40) n1 e2)

-- any other buffer is left alone
pub closed_none : (w : List ℕ) (head : ℕ) → (length w ≡ 1536 → ⊥) → w ≡ closing w head
unfolding closing
closed_none w head n = sym (choose_false (sealed (take 1532 w) (bits 18 head)) w (ne_eqb (length w) 1536 n))
