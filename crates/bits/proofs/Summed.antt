-- Laws of the bitwise sum of two lists of bytes: by bytes, by bits, by fields, and of what is packed from a rule.
-- Assumes nothing.
use Prim.Native.Nat.{ℕ, zero, suc, ◌+◌, ◌-◌, ◌*◌, ◌/◌, ◌%◌, ◌^◌, ◌≤◌, ◌<◌}
use mathlib.Core.Path.{◌≡◌, refl, sym, ap, ap₂, ◌∙◌}
use mathlib.Core.List.{List, [], ◌∷◌}
use native.Mathlib.Nat.{add-mod}
use native.Mathlib.Omega.{arith}
use lib.Bits.{bit_xor, xor_self, xor_shr, xor_block}
use lib.ListN.{length, get_or, replicate}
use Rattle.ground.specs.Table.{tab}
use Rattle.ground.proofs.Table.{tab_cong}
use Rattle.bits.specs.Places.{bit_at, number, packed, field_at}
use Rattle.bits.specs.Sums.{summed}
use Rattle.bits.proofs.Places.{field_is, bit_lt}
use Rattle.bits.proofs.Sums.{xor_low, xor_bit}

-- ---- by bytes

pub summed_length : (v w : List ℕ) → length v ≡ length w → length (summed v w) ≡ length v
unfolding summed
summed_length [] w e = refl
summed_length (a ∷ v) [] e = sym e
summed_length (a ∷ v) (b ∷ w) e = ap suc (summed_length v w (omega arith))

summed_at : (v w : List ℕ) (i : ℕ) → length v ≡ length w → get_or (summed v w) i 0 ≡ bit_xor (get_or v i 0) (get_or w i 0)
unfolding summed
summed_at [] [] i e = refl
summed_at [] (b ∷ w) i e = absurd (omega arith)
summed_at (a ∷ v) [] i e = absurd (omega arith)
summed_at (a ∷ v) (b ∷ w) zero e = refl
summed_at (a ∷ v) (b ∷ w) (suc i) e = summed_at v w i (omega arith)

-- the sum of a list with itself is zero
pub summed_self : (v : List ℕ) → summed v v ≡ replicate (length v) 0
unfolding summed
summed_self [] = refl
summed_self (a ∷ v) = ap₂ (λ (x : ℕ) (l : List ℕ). x ∷ l) (xor_self a) (summed_self v)

-- ---- by bits: the bit of a sum is the sum of the bits modulo 2, past the end too

pub bit_summed : (v w : List ℕ) (i : ℕ) → length v ≡ length w → bit_at (summed v w) i ≡ (bit_at v i + bit_at w i) % 2
unfolding bit_at
bit_summed v w i e =
    let a : ℕ = get_or v (i / 8) 0 in
    let b : ℕ = get_or w (i / 8) 0 in
    let k : ℕ = 7 - i % 8 in
    ap (λ (x : ℕ). x / 2 ^ k % 2) (summed_at v w (i / 8) e) ∙ ap (λ (x : ℕ). x % 2) (xor_shr a b k)
    ∙ xor_low (a / 2 ^ k) (b / 2 ^ k) ∙ add-mod (a / 2 ^ k) (b / 2 ^ k) 2

-- ---- of rules

tab_summed : (x y : ℕ → ℕ) (i n : ℕ) → tab (λ k. bit_xor (x k) (y k)) i n ≡ summed (tab x i n) (tab y i n)
unfolding tab summed
tab_summed x y i zero = refl
tab_summed x y i (suc n) = ap (λ l. bit_xor (x i) (y i) ∷ l) (tab_summed x y (suc i) n)

-- h is the sum of the bits f and g at each place
module _ (f g h : ℕ → ℕ) (lf : (k : ℕ) → f k < 2) (lg : (k : ℕ) → g k < 2) (s : (k : ℕ) → h k ≡ (f k + g k) % 2) where
  number_sum : (i n : ℕ) → number h i n ≡ bit_xor (number f i n) (number g i n)
  unfolding number
  number_sum i zero = refl
  number_sum i (suc n) =
      ap₂ (λ (a b : ℕ). a * 2 + b) (number_sum i n) (s (i + n) ∙ sym (xor_bit (f (i + n)) (g (i + n)) (lf (i + n)) (lg (i + n))))
      ∙ sym (xor_block 1 (number f i n) (number g i n) (f (i + n)) (g (i + n)) (lf (i + n)) (lg (i + n)))

  pub packed_sum : (n : ℕ) → packed h n ≡ summed (packed f n) (packed g n)
  unfolding packed
  packed_sum n =
      tab_cong (λ k. number h (8 * k) 8) (λ k. bit_xor (number f (8 * k) 8) (number g (8 * k) 8)) 0 n (λ k l. number_sum (8 * (0 + k)) 8)
      ∙ tab_summed (λ k. number f (8 * k) 8) (λ k. number g (8 * k) 8) 0 n

-- ---- by fields: a field of a sum is the sum of the fields

pub field_summed : (v w : List ℕ) (at n : ℕ) → length v ≡ length w → n ≤ 32 → field_at (summed v w) at n ≡ bit_xor (field_at v at n) (field_at w at n)
field_summed v w at n e k =
    field_is (summed v w) at n k
    ∙ number_sum (bit_at v) (bit_at w) (bit_at (summed v w)) (bit_lt v) (bit_lt w) (λ i. bit_summed v w i e) at n
    ∙ sym (ap₂ bit_xor (field_is v at n k) (field_is w at n k))
