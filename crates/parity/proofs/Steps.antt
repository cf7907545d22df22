-- Laws of the part a byte at a time.
-- Assumes nothing.
use Prim.Native.Nat.{ℕ, ◌+◌, ◌*◌, ◌/◌, ◌%◌, ◌^◌, ◌<◌}
use mathlib.Core.Path.{◌≡◌, refl, sym, ap, ap₂, ◌∙◌, subst}
use mathlib.Core.List.{List, ◌++◌}
use native.Mathlib.Nat.{add-zero, zero-add, mod-lt}
use native.Mathlib.Omega.{arith}
use lib.Bits.{bit_xor, xor_block, xor_lt}
use lib.Dec.{lit<}
use lib.Pow.{pow_pos, split, high, low, field, shr-shr, shr_lt}
use lib.ListN.{get_or}
use Rattle.ground.specs.Table.{tab}
use Rattle.ground.proofs.Table.{get_or_tab, tab_append}
use Rattle.bits.specs.Lists.{bits, Below}
use Rattle.bits.specs.Places.{bit_at}
use Rattle.bits.specs.Sums.{ones}
use Rattle.bits.proofs.Lists.{bits_length, bits_below, num_bits}
use Rattle.bits.proofs.Joined.{run_below, run_byte}
use Rattle.bits.proofs.Sums.{xor_bit}
use Rattle.bits.proofs.Ones.{even_sum, mod_twice, ones_append, ones_join, ones_zero, ones_xor}
use Rattle.parity.specs.Division.{Remainder, reduce, divide}
use Rattle.parity.specs.Part.{powers, generator, remainder, at_one, outer, parity_of, part_of}
use Rattle.parity.specs.Steps.{byte_parts, run_of}
use Rattle.parity.proofs.Laws.{remainder_is, remainder_lt, longer, at_one_lt, part_lt}

module _ (m : List ℕ) (b : ℕ) (w : Below 2 m) (small : b < 256) where
  -- what leaves the remainder, added to the byte
  leaves : ℕ
  leaves = bit_xor (remainder m / 2 ^ 40) b

  leaves_lt : leaves < 256
  unfolding leaves
  leaves_lt = xor_lt 8 (remainder m / 2 ^ 40) b (shr_lt 8 40 (remainder_lt m w)) small

  -- the remainder of a message with one byte more
  remainder_step : remainder (m ++ bits 8 b) ≡ bit_xor (remainder m % 2 ^ 40 * 256) (remainder (bits 8 leaves))
  unfolding leaves
  remainder_step =
      let k : ℕ = bit_xor (remainder m / 2 ^ 40) b in
      let r : ℕ = remainder (bits 8 k) in
      longer m (bits 8 b) 40 8 b r w (bits_below 8 b) (bits_length 8 b) (num_bits 8 b small) refl
      (subst (λ (x : ℕ). Remainder 48 generator (x * 2 ^ 48) r) (num_bits 8 k leaves_lt) (remainder_is (bits 8 k) (bits_below 8 k)))

  -- and its parity bit
  bit_step : at_one (outer (m ++ bits 8 b)) ≡ (at_one (outer m) + at_one (outer (bits 8 leaves))) % 2
  unfolding leaves at_one outer
  bit_step =
      let d : ℕ = remainder m in
      let u : ℕ = d / 2 ^ 40 in
      let f : ℕ = d % 2 ^ 40 in
      let k : ℕ = bit_xor u b in
      let r : ℕ = remainder (bits 8 k) in
      let s : ℕ = remainder (m ++ bits 8 b) in
      let lt : f < 2 ^ 40 = mod-lt d (pow_pos 40) in
      let whole : ones (bits 48 d) ≡ ones (bits 8 u) + ones (bits 40 f) = ap (λ (x : ℕ). ones (bits 48 x)) (sym (split d 40)) ∙ ones_join 8 40 u f lt in
      let up : ones (bits 48 (f * 256)) ≡ ones (bits 40 f) + 0 =
      ap (λ (x : ℕ). ones (bits 48 x)) (sym (add-zero (f * 256))) ∙ ones_join 40 8 f 0 (lit< tt) ∙ ap (λ (x : ℕ). ones (bits 40 f) + x) (ones_zero 8) in
      let new : ones (bits 48 s) % 2 ≡ (ones (bits 48 (f * 256)) + ones (bits 48 r)) % 2 =
      ap (λ (x : ℕ). ones (bits 48 x) % 2) remainder_step ∙ ones_xor 48 (f * 256) r in
      let key : ones (bits 8 k) % 2 ≡ (ones (bits 8 u) + ones (bits 8 b)) % 2 = ones_xor 8 u b in
      ap (λ (x : ℕ). x % 2) (ones_append (m ++ bits 8 b) (bits 48 s) ∙ ap (λ (x : ℕ). x + ones (bits 48 s)) (ones_append m (bits 8 b)))
      ∙ sums (ones m) (ones (bits 8 b)) (ones (bits 48 s)) (ones (bits 48 d)) (ones (bits 8 u)) (ones (bits 40 f)) (ones (bits 48 (f * 256))) (ones (bits 48 r)) (ones (bits 8 k)) whole up new key
      ∙ sym (ap₂ (λ (x y : ℕ). (x % 2 + y % 2) % 2) (ones_append m (bits 48 d)) (ones_append (bits 8 k) (bits 48 r)))
    where
      even_more : (x u : ℕ) → (x + u * 2) % 2 ≡ x % 2
      even_more x u = omega arith

      sums : (m b s d u f g r k : ℕ) → d ≡ u + f → g ≡ f + 0 → s % 2 ≡ (g + r) % 2 → k % 2 ≡ (u + b) % 2
          → (m + b + s) % 2 ≡ ((m + d) % 2 + (k + r) % 2) % 2
      sums m b s d u f g r k p q n h =
          let a : m + b + (g + r) ≡ m + b + f + r = omega arith in
          let c : m + d + (u + b + r) ≡ m + b + f + r + u * 2 = omega arith in
          even_sum (m + b) (m + b) s (g + r) refl n ∙ ap (λ (x : ℕ). x % 2) a
          ∙ sym
          (even_sum ((m + d) % 2) (m + d) ((k + r) % 2) (u + b + r) (mod_twice (m + d)) (mod_twice (k + r) ∙ even_sum k (u + b) r r h refl)
          ∙ ap (λ (x : ℕ). x % 2) c ∙ even_more (m + b + f + r) u)

  -- the part of a message with one byte more, from the part v before
  part_step : (v : ℕ) → v ≡ parity_of m → parity_of (m ++ bits 8 b) ≡ bit_xor (v % 2 ^ 41 / 2 * 512 + v % 2) (parity_of (bits 8 (bit_xor (v / 2 ^ 41) b)))
  unfolding parity_of leaves
  part_step v e =
      let d : ℕ = remainder m in
      let p : ℕ = at_one (outer m) in
      let k : ℕ = bit_xor (d / 2 ^ 40) b in
      let r : ℕ = remainder (bits 8 k) in
      let q : ℕ = at_one (outer (bits 8 k)) in
      let l : ℕ = d % 2 ^ 40 * 256 in
      let pl : p < 2 = at_one_lt (outer m) in
      let ql : q < 2 = at_one_lt (outer (bits 8 k)) in
      let half : v / 2 ≡ d = ap (λ (x : ℕ). x / 2) e ∙ high d 1 pl in
      let last : v % 2 ≡ p = ap (λ (x : ℕ). x % 2) e ∙ low d 1 pl in
      let top : v / 2 ^ 41 ≡ d / 2 ^ 40 = sym (shr-shr v 1 40) ∙ ap (λ (x : ℕ). x / 2 ^ 40) half in
      let rest : v % 2 ^ 41 / 2 ≡ d % 2 ^ 40 = field v 40 1 ∙ ap (λ (x : ℕ). x % 2 ^ 40) half in
      let moved : l * 2 + p ≡ v % 2 ^ 41 / 2 * 512 + v % 2 = omega (arith, rest, last) in
      ap₂ (λ (x y : ℕ). x * 2 + y) remainder_step (bit_step ∙ sym (xor_bit p q pl ql)) ∙ sym (xor_block 1 l r p q pl ql)
      ∙ ap₂ (λ (x y : ℕ). bit_xor x (parity_of (bits 8 (bit_xor y b)))) moved (sym top)

-- what leaves a part, added to the byte, is the place of an entry
pub place_lt : (v b : ℕ) → v < 2 ^ 49 → b < 256 → bit_xor (v / 2 ^ 41) b < 256
place_lt v b h k = xor_lt 8 (v / 2 ^ 41) b (shr_lt 8 41 h) k

-- ---- the part of the first bytes at a place

pub run_lt : (w : List ℕ) (from n : ℕ) → run_of w from n < 2 ^ 49
unfolding run_of
run_lt w from n = part_lt (tab (bit_at w) (8 * from) (8 * n)) (run_below w (8 * from) (8 * n))

-- none
pub run_none : (w : List ℕ) (from : ℕ) → 0 ≡ run_of w from 0
unfolding run_of tab parity_of remainder divide reduce generator powers at_one outer ones bits
run_none w from = refl

-- one byte more, by the table
pub run_more : (table w : List ℕ) (from i v b : ℕ) → table ≡ byte_parts → v ≡ run_of w from i → b ≡ get_or w (from + i) 0 → b < 256
    → bit_xor (v % 2 ^ 41 / 2 * 512 + v % 2) (get_or table (bit_xor (v / 2 ^ 41) b) 0) ≡ run_of w from (i + 1)
unfolding run_of byte_parts
run_more table w from i v b t e h k =
    let m : List ℕ = tab (bit_at w) (8 * from) (8 * i) in
    let n : 8 * (i + 1) ≡ 8 * i + 8 = omega arith in
    let p : 8 * from + 8 * i ≡ 8 * (from + i) = omega arith in
    let f : ℕ → ℕ = λ j. parity_of (bits 8 j) in
    let j : ℕ = bit_xor (v / 2 ^ 41) b in
    let lt : j < 256 = place_lt v b (subst (λ (x : ℕ). x < 2 ^ 49) (sym e) (run_lt w from i)) k in
    let entry : get_or table j 0 ≡ f j = ap (λ (l : List ℕ). get_or l j 0) t ∙ get_or_tab f 0 0 256 j lt ∙ ap f (zero-add j) in
    ap (bit_xor (v % 2 ^ 41 / 2 * 512 + v % 2)) entry ∙ sym (part_step m b (run_below w (8 * from) (8 * i)) k v e)
    ∙ ap (λ (l : List ℕ). parity_of (m ++ l)) (ap (bits 8) h ∙ sym (run_byte w (from + i)) ∙ ap (λ (x : ℕ). tab (bit_at w) x 8) (sym p))
    ∙ sym (ap parity_of (ap (tab (bit_at w) (8 * from)) n ∙ tab_append (bit_at w) (8 * from) (8 * i) 8))

-- all
pub run_all : (w : List ℕ) (from i v : ℕ) → v ≡ run_of w from i → i ≡ 376 → v ≡ part_of w from
unfolding run_of part_of
run_all w from i v e h = e ∙ ap (λ (n : ℕ). parity_of (tab (bit_at w) (8 * from) (8 * n))) h
