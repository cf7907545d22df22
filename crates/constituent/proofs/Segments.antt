-- Laws of the number of what is sent of a run of places.
-- Assumes nothing.
use Prim.Native.Nat.{ℕ, zero, suc, ◌+◌, ◌-◌, ◌*◌, ◌/◌, ◌%◌, ◌^◌, ◌≤◌, ◌<◌}
use mathlib.Core.Path.{◌≡◌, refl, sym, ap, ap₂, ◌∙◌, subst}
use native.Mathlib.Nat.{zero-add, add-zero, add-suc, add_assoc, add-mul, mul_assoc, mul-one, one-mul, zero-mul, mul_comm, pow-suc, suc-mul, mul-le-mul_left, mul-le-mul_right}
use native.Mathlib.Numerals.{add-one}
use native.Mathlib.Decide.{ℕ_discrete}
use native.Mathlib.Omega.{arith}
use lib.Bits.{bit_xor}
use lib.Pow.{pow-add, pow_pos, suc_ones}
use lib.ListN.{get_or}
use Rattle.bits.specs.Places.{number}
use Rattle.bits.proofs.Places.{number_append}
use Rattle.bits.proofs.Sums.{xor_half}
use Rattle.patterns.specs.Sent.{spread, total}
use Rattle.patterns.proofs.Totals.{total_more, total_mono, total_add, total_cong}
use Rattle.patterns.proofs.Spread.{spread_at}
use Rattle.constituent.specs.Segment.{segment, weight}

pub segment_cong : (d d' y y' : ℕ → ℕ) (n : ℕ) → ((t : ℕ) → t < n → d t ≡ d' t) → ((t : ℕ) → t < n → y t ≡ y' t) → segment d y n ≡ segment d' y' n
unfolding segment
segment_cong d d' y y' zero h k = refl
segment_cong d d' y y' (suc n) h k =
    ap₂ (λ (x z : ℕ). x * 2 ^ z + (2 ^ z - 1) * y n) (segment_cong d d' y y' n (λ t l. h t (omega arith)) (λ t l. k t (omega arith))) (h n (omega arith))
    ∙ ap (λ (x : ℕ). segment d' y' n * 2 ^ d' n + (2 ^ d' n - 1) * x) (k n (omega arith))

-- one place more
pub segment_more : (d y : ℕ → ℕ) (n : ℕ) → segment d y (n + 1) ≡ segment d y n * 2 ^ d n + (2 ^ d n - 1) * y n
unfolding segment
segment_more d y n = rw add-one

-- two runs, one behind the other
pub segment_append : (d y : ℕ → ℕ) (m n : ℕ) → segment d y (m + n) ≡ segment d y m * 2 ^ total (λ k. d (m + k)) n + segment (λ k. d (m + k)) (λ k. y (m + k)) n
unfolding segment total
segment_append d y m zero = ap (segment d y) (add-zero m) ∙ omega arith
segment_append d y m (suc n) =
    let T : ℕ = total (λ k. d (m + k)) n in
    let S : ℕ = segment (λ k. d (m + k)) (λ k. y (m + k)) n in
    let D : ℕ = 2 ^ d (m + n) in
    let e : segment d y (m + suc n) ≡ segment d y (m + n) * D + (D - 1) * y (m + n) = ap (segment d y) (add-suc m n) in
    let a : (segment d y m * 2 ^ T + S) * D ≡ segment d y m * 2 ^ (T + d (m + n)) + S * D =
    add-mul (segment d y m * 2 ^ T) S D ∙ ap (λ (x : ℕ). x + S * D) (mul_assoc (segment d y m) (2 ^ T) D ∙ ap (λ (x : ℕ). segment d y m * x) (sym (pow-add 2 T (d (m + n))))) in
    e ∙ ap (λ (x : ℕ). x * D + (D - 1) * y (m + n)) (segment_append d y m n) ∙ ap (λ (x : ℕ). x + (D - 1) * y (m + n)) a
    ∙ add_assoc (segment d y m * 2 ^ (T + d (m + n))) (S * D) ((D - 1) * y (m + n))

-- places of which each is sent once
pub segment_number : (d y : ℕ → ℕ) (n : ℕ) → ((t : ℕ) → t < n → d t ≡ 1) → segment d y n ≡ number y 0 n
unfolding segment number
segment_number d y zero h = refl
segment_number d y (suc n) h =
    ap (λ (z : ℕ). segment d y n * 2 ^ z + (2 ^ z - 1) * y n) (h n (omega arith))
    ∙ ap₂ (λ (a b : ℕ). a * 2 + b) (segment_number d y n (λ t l. h t (omega arith))) (one-mul (y n) ∙ ap y (sym (zero-add n)))

pub segment_lt : (d y : ℕ → ℕ) (n : ℕ) → ((t : ℕ) → t < n → y t < 2) → segment d y n < 2 ^ total d n
unfolding segment total
segment_lt d y zero h = pow_pos 0
segment_lt d y (suc n) h =
    let P : ℕ = 2 ^ total d n in
    let D : ℕ = 2 ^ d n in
    let s : ℕ = segment d y n in
    let i : s < P = segment_lt d y n (λ t l. h t (omega arith)) in
    let l : suc s * D ≤ P * D = mul-le-mul_right D i in
    let m : (D - 1) * y n ≤ (D - 1) * 1 = mul-le-mul_left (D - 1) (omega (arith, h n (omega arith))) in
    let p : 2 ^ (total d n + d n) ≡ P * D = pow-add 2 (total d n) (d n) in
    omega (arith, l, m, p, suc-mul s D, mul-one (D - 1), pow_pos (d n))

-- the number of copies of one bit
number_same : (f : ℕ → ℕ) (i n v : ℕ) → ((t : ℕ) → t < n → f (i + t) ≡ v) → number f i n ≡ (2 ^ n - 1) * v
unfolding number
number_same f i zero v h = sym (zero-mul v)
number_same f i (suc n) v h =
    let m : ℕ = 2 ^ n - 1 in
    let e : 2 ^ suc n - 1 ≡ m * 2 + 1 = omega (arith, pow-suc 2 n, suc_ones n) in
    ap₂ (λ (x y : ℕ). x * 2 + y) (number_same f i n v (λ t l. h t (omega arith))) (h n (omega arith))
    ∙ sym (ap (λ (x : ℕ). x * v) e ∙ add-mul (m * 2) 1 v ∙ ap₂ ◌+◌ (mul_assoc m 2 v ∙ ap (λ (x : ℕ). m * x) (mul_comm 2 v) ∙ sym (mul_assoc m v 2)) (one-mul v))

-- what is sent of the places from a on is that number
pub spread_number : (c x : ℕ → ℕ) (m a n : ℕ) → a + n ≤ m
    → number (λ k. get_or (spread c x m) k 0) (total c a) (total (λ t. c (a + t)) n) ≡ segment (λ t. c (a + t)) (λ t. x (a + t)) n
unfolding segment total number
spread_number c x m a zero r = refl
spread_number c x m a (suc n) r =
    let f : ℕ → ℕ = λ k. get_or (spread c x m) k 0 in
    let T : ℕ = total (λ t. c (a + t)) n in
    let d : ℕ = c (a + n) in
    let at : total c a + T ≡ total c (a + n) = sym (total_add c a n) in
    let b : number f (total c a + T) d ≡ (2 ^ d - 1) * x (a + n) =
    ap (λ (i : ℕ). number f i d) at ∙ number_same f (total c (a + n)) d (x (a + n)) (λ t l. spread_at c x (a + n) m t 0 (omega arith) l) in
    number_append f (total c a) T d ∙ ap₂ (λ (y z : ℕ). y * 2 ^ d + z) (spread_number c x m a n (omega arith)) b

-- ---- bits that are sent once or not at all
module _ (d : ℕ → ℕ) (once : (t : ℕ) → d t ≤ 1) where
  either : (n : ℕ) (P : ℕ → Type 0) → P 0 → P 1 → P (d n)
  either n P a b =
      elim (ℕ_discrete (d n) 0) [
        | yes e ↦ subst P (sym e) a
        | no e ↦ subst P {x = 1} {y = d n} (omega (arith, once n)) b
      ]

  -- the number of a sum is the sum of the numbers
  pub segment_xor : (x y z : ℕ → ℕ) (n : ℕ) → ((t : ℕ) → x t < 2) → ((t : ℕ) → y t < 2) → ((t : ℕ) → t < n → z t ≡ (x t + y t) % 2)
      → segment d z n ≡ bit_xor (segment d x n) (segment d y n)
  unfolding segment
  segment_xor x y z zero hx hy h = refl
  segment_xor x y z (suc n) hx hy h =
      let i : segment d z n ≡ bit_xor (segment d x n) (segment d y n) = segment_xor x y z n hx hy (λ t l. h t (omega arith)) in
      either n (λ k. segment d z n * 2 ^ k + (2 ^ k - 1) * z n ≡ bit_xor (segment d x n * 2 ^ k + (2 ^ k - 1) * x n) (segment d y n * 2 ^ k + (2 ^ k - 1) * y n))
      (none (segment d z n) (z n) ∙ i ∙ sym (ap₂ bit_xor (none (segment d x n) (x n)) (none (segment d y n) (y n))))
      (one (segment d z n) (z n) ∙ ap₂ (λ (a b : ℕ). a * 2 + b) i (h n (omega arith)) ∙ sym (ap₂ bit_xor (one (segment d x n) (x n)) (one (segment d y n) (y n)) ∙ both (segment d x n) (x n) (segment d y n) (y n) (hx n) (hy n)))
    where
      none : (s b : ℕ) → s * 2 ^ 0 + (2 ^ 0 - 1) * b ≡ s
      none s b = ap₂ ◌+◌ (mul-one s) (zero-mul b) ∙ add-zero s

      one : (s b : ℕ) → s * 2 ^ 1 + (2 ^ 1 - 1) * b ≡ s * 2 + b
      one s b = ap (λ (v : ℕ). s * 2 + v) (one-mul b)

      high_bits : (s a : ℕ) → a < 2 → (s * 2 + a) / 2 ≡ s
      high_bits s a h = omega arith

      low_bit : (s a : ℕ) → a < 2 → (s * 2 + a) % 2 ≡ a
      low_bit s a h = omega arith

      both : (s a t b : ℕ) → a < 2 → b < 2 → bit_xor (s * 2 + a) (t * 2 + b) ≡ bit_xor s t * 2 + (a + b) % 2
      both s a t b ha hb =
          xor_half (s * 2 + a) (t * 2 + b) ∙ ap₂ (λ (u v : ℕ). u * 2 + v) (ap₂ bit_xor (high_bits s a ha) (high_bits t b hb)) (ap₂ (λ (u v : ℕ). (u + v) % 2) (low_bit s a ha) (low_bit t b hb))

  -- the number is the sum of its bits' weights
  pub segment_sum : (y : ℕ → ℕ) (n : ℕ) → segment d y n ≡ total (λ t. y t * weight d n t) n
  unfolding segment total weight
  segment_sum y zero = refl
  segment_sum y (suc n) =
      ap₂ ◌+◌
      (ap (λ (x : ℕ). x * 2 ^ d n) (segment_sum y n) ∙ total_times (λ t. y t * (d t * 2 ^ (total d n - total d (t + 1)))) (2 ^ d n) n
      ∙ total_cong (λ t. y t * (d t * 2 ^ (total d n - total d (t + 1))) * 2 ^ d n) (λ t. y t * (d t * 2 ^ (total d (suc n) - total d (t + 1)))) n step)
      (either n (λ k. (2 ^ k - 1) * y n ≡ k * y n) refl refl ∙ last ∙ mul_comm (d n * 2 ^ (total d (suc n) - total d (n + 1))) (y n))
    where
      total_times : (f : ℕ → ℕ) (k n : ℕ) → total f n * k ≡ total (λ t. f t * k) n
      total_times f k zero = zero-mul k
      total_times f k (suc n) = add-mul (total f n) (f n) k ∙ ap (λ (x : ℕ). x + f n * k) (total_times f k n)

      step : (t : ℕ) → t < n → y t * (d t * 2 ^ (total d n - total d (t + 1))) * 2 ^ d n ≡ y t * (d t * 2 ^ (total d n + d n - total d (t + 1)))
      step t l =
          let q : ℕ = total d n - total d (t + 1) in
          let e : q + d n ≡ total d n + d n - total d (t + 1) = omega (arith, total_mono d (t + 1) n (omega arith)) in
          mul_assoc (y t) (d t * 2 ^ q) (2 ^ d n) ∙ ap (λ (x : ℕ). y t * x) (mul_assoc (d t) (2 ^ q) (2 ^ d n) ∙ ap (λ (x : ℕ). d t * x) (sym (pow-add 2 q (d n)) ∙ ap (λ (x : ℕ). 2 ^ x) e))

      last : d n * y n ≡ d n * 2 ^ (total d n + d n - total d (n + 1)) * y n
      last =
          let e : total d n + d n - total d (n + 1) ≡ 0 = omega (arith, total_more d n) in
          sym (ap (λ (x : ℕ). d n * 2 ^ x * y n) e ∙ ap (λ (x : ℕ). x * y n) (mul-one (d n)))
