-- Laws of the remainder and the parity part: the remainder is that of the division, and what a longer message has.
-- Assumes nothing.
use Prim.Native.Nat.{ℕ, ◌+◌, ◌*◌, ◌/◌, ◌%◌, ◌^◌, ◌≤◌, ◌<◌}
use mathlib.Core.Path.{◌≡◌, sym, ap, ap₂, ◌∙◌, subst}
use mathlib.Core.List.{List, ◌++◌}
use native.Mathlib.Nat.{zero-mul, add-zero, zero-add, add-mul, mul_assoc, mul_comm, mod-lt}
use native.Mathlib.Omega.{arith}
use lib.Bits.{bit_xor, xor_comm, xor_lt, xor_shifted}
use lib.Dec.{lit<, lit≤}
use lib.Pow.{pow_pos, pow-add, split, shl_lt}
use lib.ListN.{length, get_or, replicate, length-append}
use Rattle.ground.proofs.Table.{get_or_tab}
use Rattle.bits.specs.Lists.{num, Below}
use Rattle.bits.specs.Sums.{ones}
use Rattle.bits.proofs.Below.{below_append, below_replicate}
use Rattle.bits.proofs.Lists.{num_append, num_lt, num_zeros}
use Rattle.bits.proofs.Sums.{xor_assoc, xor_between, xor_swap, xor_scale}
use Rattle.parity.specs.Division.{Remainder}
use Rattle.parity.specs.Part.{powers, generator, remainder, at_one, outer, parity_of, part_of, parts_of}
use Rattle.parity.specs.Claims.{Bits}
use Rattle.parity.proofs.Division.{multiple_is, multiple_sum, multiple_scale, unique, divide_remainder}

least : 2 ^ 48 ≤ generator
unfolding generator powers
least = lit≤ tt

most : generator < 2 ^ 49
unfolding generator powers
most = lit< tt

-- the remainder is the remainder of x^48 m(x)
pub remainder_is : (m : List ℕ) → Below 2 m → Remainder 48 generator (num m * 2 ^ 48) (remainder m)
unfolding remainder
remainder_is m w =
    let z : List ℕ = replicate 48 0 in
    let e : 0 * 2 ^ length (m ++ z) + num (m ++ z) ≡ num m * 2 ^ 48 =
    ap₂ (λ (x y : ℕ). x + y) (zero-mul (2 ^ length (m ++ z))) (num_append m z ∙ ap (λ (x : ℕ). num m * 2 ^ 48 + x) (num_zeros 48) ∙ add-zero (num m * 2 ^ 48))
    ∙ zero-add (num m * 2 ^ 48) in
    subst (λ (p : ℕ). Remainder 48 generator p (remainder m)) e
    (divide_remainder 48 generator least most 0 (m ++ z) (pow_pos 48) (below_append 2 m z w (below_replicate 2 48 0 (lit< tt))))

-- and any other that is one is the same
pub remainder_unique : (m : List ℕ) (r : ℕ) → Below 2 m → Remainder 48 generator (num m * 2 ^ 48) r → r ≡ remainder m
remainder_unique m r w h = unique 48 generator least most h (remainder_is m w)

pub remainder_lt : (m : List ℕ) → Below 2 m → remainder m < 2 ^ 48
remainder_lt m w = (remainder_is m w).small

regroup : (p h l c b : ℕ) → bit_xor (bit_xor p (bit_xor h l)) (bit_xor (bit_xor h c) b) ≡ bit_xor (bit_xor p c) (bit_xor l b)
regroup p h l c b =
    ap₂ bit_xor (ap (bit_xor p) (xor_comm h l) ∙ sym (xor_assoc p l h)) (xor_assoc h c b)
    ∙ xor_between (bit_xor p l) (bit_xor c b) h ∙ xor_swap p l c b

-- the remainder of a message that is j bits longer, the number b: j places of the remainder before leave it, and their sum with b has
-- the remainder r
module _ (m n : List ℕ) (h j b r : ℕ) (w : Below 2 m) (v : Below 2 n) (size : length n ≡ j) (value : num n ≡ b) (whole : h + j ≡ 48)
    (left : Remainder 48 generator (bit_xor (remainder m / 2 ^ h) b * 2 ^ 48) r) where
  stays : ℕ
  stays = remainder m % 2 ^ h * 2 ^ j

  stays_lt : stays < 2 ^ 48
  unfolding stays
  stays_lt = subst (λ (k : ℕ). remainder m % 2 ^ h * 2 ^ j < 2 ^ k) whole (shl_lt h j (mod-lt (remainder m) (pow_pos h)))

  up : remainder m * 2 ^ j ≡ bit_xor (remainder m / 2 ^ h * 2 ^ 48) stays
  unfolding stays
  up =
      let d : ℕ = remainder m in
      let u : ℕ = d / 2 ^ h in
      ap (λ (x : ℕ). x * 2 ^ j) (sym (split d h)) ∙ add-mul (u * 2 ^ h) (d % 2 ^ h) (2 ^ j)
      ∙ ap (λ (x : ℕ). x + stays) (mul_assoc u (2 ^ h) (2 ^ j) ∙ ap (λ (x : ℕ). u * x) (sym (pow-add 2 h j) ∙ ap (λ (k : ℕ). 2 ^ k) whole))
      ∙ sym (xor_shifted u 48 stays stays_lt)

  longer_num : num (m ++ n) ≡ bit_xor (num m * 2 ^ j) b
  longer_num =
      let lt : b < 2 ^ j = subst (λ (x : ℕ). x < 2 ^ j) value (subst (λ (k : ℕ). num n < 2 ^ k) size (num_lt n v)) in
      num_append m n ∙ ap₂ (λ (k x : ℕ). num m * 2 ^ k + x) size value ∙ sym (xor_shifted (num m) j b lt)

  pub longer : remainder (m ++ n) ≡ bit_xor (remainder m % 2 ^ h * 2 ^ j) r
  unfolding stays
  longer =
      let d : ℕ = remainder m in
      let u : ℕ = d / 2 ^ h in
      let c : num m * 2 ^ 48 * 2 ^ j ≡ num m * 2 ^ j * 2 ^ 48 =
      mul_assoc (num m) (2 ^ 48) (2 ^ j) ∙ ap (λ (x : ℕ). num m * x) (mul_comm (2 ^ 48) (2 ^ j)) ∙ sym (mul_assoc (num m) (2 ^ j) (2 ^ 48)) in
      let moved : bit_xor (num m * 2 ^ 48) d * 2 ^ j ≡ bit_xor (num m * 2 ^ j * 2 ^ 48) (bit_xor (u * 2 ^ 48) stays) =
      sym (xor_scale j (num m * 2 ^ 48) d) ∙ ap₂ bit_xor c up in
      let e : bit_xor (bit_xor (num m * 2 ^ 48) d * 2 ^ j) (bit_xor (bit_xor u b * 2 ^ 48) r) ≡ bit_xor (num (m ++ n) * 2 ^ 48) (bit_xor stays r) =
      ap₂ bit_xor moved (ap (λ (x : ℕ). bit_xor x r) (sym (xor_scale 48 u b)))
      ∙ regroup (num m * 2 ^ j * 2 ^ 48) (u * 2 ^ 48) stays (b * 2 ^ 48) r
      ∙ ap (λ (x : ℕ). bit_xor x (bit_xor stays r)) (xor_scale 48 (num m * 2 ^ j) b ∙ ap (λ (x : ℕ). x * 2 ^ 48) (sym longer_num)) in
      sym
      (remainder_unique (m ++ n) (bit_xor stays r) (below_append 2 m n w v)
      (record {
        small = xor_lt 48 stays r stays_lt left.small;
        multiple = multiple_is (bit_xor (num (m ++ n) * 2 ^ 48) (bit_xor stays r)) (multiple_sum (multiple_scale j (remainder_is m w).multiple) left.multiple) e;
      }))

pub at_one_lt : (c : List ℕ) → at_one c < 2
unfolding at_one
at_one_lt c = mod-lt (ones c) (lit< tt)

-- the part has 49 bits
pub part_lt : (m : List ℕ) → Below 2 m → parity_of m < 2 ^ 49
unfolding parity_of
part_lt m w = omega (arith, remainder_lt m w, at_one_lt (outer m))

-- the part k of the four
pub parts_at : (w l : List ℕ) (k : ℕ) → l ≡ parts_of w → k < 4 → get_or l k 0 ≡ part_of w (376 * k)
unfolding parts_of
parts_at w l k e h =
    ap (λ (x : List ℕ). get_or x k 0) e ∙ get_or_tab (λ j. part_of w (376 * j)) 0 0 4 k h ∙ ap (λ (j : ℕ). part_of w (376 * j)) (zero-add k)

-- bits behind bits
pub append_bits : {j k : ℕ} (a b : List ℕ) → Bits j a → Bits k b → Bits (j + k) (a ++ b)
append_bits a b p q =
    record { count = length-append a b ∙ ap₂ (λ (x y : ℕ). x + y) p.count q.count; each = below_append 2 a b p.each q.each }
