-- Laws of bitwise sums: of numbers, and of lists of bits.
-- Assumes nothing.
use Prim.Native.Nat.{ℕ, zero, suc, ◌+◌, ◌-◌, ◌*◌, ◌/◌, ◌%◌, ◌^◌, ◌<◌}
use mathlib.Core.Path.{◌≡◌, refl, sym, ap, ap₂, ◌∙◌, subst}
use mathlib.Core.List.{List, [], ◌∷◌}
use native.Mathlib.Nat.{zero-mul, add-zero, add_assoc, add-mod, mod-lt, mod-eq_of_lt}
use native.Mathlib.Omega.{arith}
use lib.Arith.{bin_ind}
use lib.Bits.{bit_xor, bit_and, differ, and_mask, xor_add_and, xor_step, xor_zero_l, xor_zero_r, xor_comm, xor_self, xor_block, xor_lt, xor_shr}
use lib.Dec.{lit<}
use lib.ListN.{length, get_or}
use lib.Pow.{pow_pos}
use Rattle.bits.specs.Lists.{bits, num, Below}
use Rattle.bits.specs.Sums.{added}
use Rattle.bits.proofs.Lists.{num_lt}

-- ---- of numbers

differ_bit : (x y : ℕ) → x < 2 → y < 2 → differ x y ≡ (x + y) % 2
differ_bit zero y h k = omega arith
differ_bit (suc zero) zero h k = refl
differ_bit (suc zero) (suc zero) h k = refl
differ_bit (suc zero) (suc (suc y)) h k = absurd (omega arith)
differ_bit (suc (suc x)) y h k = absurd (omega arith)

pub xor_half : (a b : ℕ) → bit_xor a b ≡ bit_xor (a / 2) (b / 2) * 2 + (a % 2 + b % 2) % 2
xor_half a b = xor_step a b ∙ ap (λ (d : ℕ). bit_xor (a / 2) (b / 2) * 2 + d) (differ_bit (a % 2) (b % 2) (omega arith) (omega arith))

xor_high : (a b : ℕ) → bit_xor a b / 2 ≡ bit_xor (a / 2) (b / 2)
xor_high a b = omega (arith, xor_half a b)

pub xor_low : (a b : ℕ) → bit_xor a b % 2 ≡ (a + b) % 2
xor_low a b = omega (arith, xor_half a b)

-- of two bits
pub xor_bit : (a b : ℕ) → a < 2 → b < 2 → bit_xor a b ≡ (a + b) % 2
xor_bit a b h k = sym (mod-eq_of_lt (xor_lt 1 a b h k)) ∙ xor_low a b

pub xor_assoc : (a b c : ℕ) → bit_xor (bit_xor a b) c ≡ bit_xor a (bit_xor b c)
xor_assoc =
    bin_ind (λ (a : ℕ). (b c : ℕ) → bit_xor (bit_xor a b) c ≡ bit_xor a (bit_xor b c))
    (λ b c. ap (λ (x : ℕ). bit_xor x c) (xor_zero_l b) ∙ sym (xor_zero_l (bit_xor b c)))
    (λ a ih b c.
    xor_half (bit_xor a b) c
    ∙ ap₂ (λ (x y : ℕ). x * 2 + y)
    (ap (λ (x : ℕ). bit_xor x (c / 2)) (xor_high a b) ∙ ih (b / 2) (c / 2) ∙ sym (ap (bit_xor (a / 2)) (xor_high b c)))
    (low a b c)
    ∙ sym (xor_half a (bit_xor b c)))
  where
    both : (x y : ℕ) → (x % 2 + y % 2) % 2 ≡ (x + y) % 2
    both x y = omega arith

    low : (a b c : ℕ) → (bit_xor a b % 2 + c % 2) % 2 ≡ (a % 2 + bit_xor b c % 2) % 2
    low a b c =
        ap (λ (x : ℕ). (x + c % 2) % 2) (xor_low a b) ∙ both (a + b) c ∙ ap (λ (x : ℕ). x % 2) (add_assoc a b c)
        ∙ sym (ap (λ (x : ℕ). (a % 2 + x) % 2) (xor_low b c) ∙ both a (b + c))

-- a sum with one term twice
pub xor_twice : (a b : ℕ) → bit_xor a (bit_xor a b) ≡ b
xor_twice a b = sym (xor_assoc a a b) ∙ ap (λ (x : ℕ). bit_xor x b) (xor_self a) ∙ xor_zero_l b

-- (a + c) + (c + b) is a + b
pub xor_between : (a b c : ℕ) → bit_xor (bit_xor a c) (bit_xor c b) ≡ bit_xor a b
xor_between a b c = xor_assoc a c (bit_xor c b) ∙ ap (bit_xor a) (xor_twice c b)

-- (a + b) + (c + d) is (a + c) + (b + d)
pub xor_swap : (a b c d : ℕ) → bit_xor (bit_xor a b) (bit_xor c d) ≡ bit_xor (bit_xor a c) (bit_xor b d)
xor_swap a b c d =
    xor_assoc a b (bit_xor c d)
    ∙ ap (bit_xor a) (sym (xor_assoc b c d) ∙ ap (λ (x : ℕ). bit_xor x d) (xor_comm b c) ∙ xor_assoc c b d)
    ∙ sym (xor_assoc a c (bit_xor b d))

-- a sum that is zero has equal terms
pub xor_zero : (a b : ℕ) → bit_xor a b ≡ 0 → a ≡ b
xor_zero a b e = sym (xor_zero_r a) ∙ ap (bit_xor a) (sym e) ∙ xor_twice a b

pub xor_cancel : (c a b : ℕ) → bit_xor a c ≡ bit_xor b c → a ≡ b
xor_cancel c a b e =
    xor_zero a b (sym (xor_between a b c) ∙ ap (λ (x : ℕ). bit_xor x (bit_xor c b)) e ∙ xor_between b b c ∙ xor_self b)

-- 2 ^ k times a sum
pub xor_scale : (k a b : ℕ) → bit_xor (a * 2 ^ k) (b * 2 ^ k) ≡ bit_xor a b * 2 ^ k
xor_scale k a b =
    ap₂ bit_xor (sym (add-zero (a * 2 ^ k))) (sym (add-zero (b * 2 ^ k)))
    ∙ xor_block k a b 0 0 (pow_pos k) (pow_pos k) ∙ add-zero (bit_xor a b * 2 ^ k)

-- two numbers with the same end
pub xor_front : (k a b s : ℕ) → s < 2 ^ k → bit_xor (a * 2 ^ k + s) (b * 2 ^ k + s) ≡ bit_xor a b * 2 ^ k
xor_front k a b s h = xor_block k a b s s h h ∙ ap (λ (x : ℕ). bit_xor a b * 2 ^ k + x) (xor_self s) ∙ add-zero (bit_xor a b * 2 ^ k)

-- a number taken once, twice or not at all
pub xor_times : (a b g : ℕ) → (a + b) % 2 * g ≡ bit_xor (a % 2 * g) (b % 2 * g)
xor_times a b g = ap (λ (x : ℕ). x * g) (omega arith) ∙ go (a % 2) (b % 2) (omega arith) (omega arith)
  where
    go : (x y : ℕ) → x < 2 → y < 2 → (x + y) % 2 * g ≡ bit_xor (x * g) (y * g)
    go zero y h k = ap (λ (z : ℕ). z * g) (omega arith) ∙ sym (ap (λ (z : ℕ). bit_xor z (y * g)) (zero-mul g) ∙ xor_zero_l (y * g))
    go (suc zero) zero h k = sym (ap (bit_xor (1 * g)) (zero-mul g) ∙ xor_zero_r (1 * g))
    go (suc zero) (suc zero) h k = zero-mul g ∙ sym (xor_self (1 * g))
    go (suc zero) (suc (suc y)) h k = absurd (omega arith)
    go (suc (suc x)) y h k = absurd (omega arith)

-- a number of n bits with all of them inverted
pub xor_ones : (n a : ℕ) → a < 2 ^ n → 2 ^ n - 1 - a ≡ bit_xor a (2 ^ n - 1)
xor_ones n a h =
    let m : bit_and a (2 ^ n - 1) ≡ a = and_mask a n ∙ mod-eq_of_lt h in
    omega (arith, m, xor_add_and a (2 ^ n - 1))

-- ---- of lists of bits

pub added_at : (l m : List ℕ) (i : ℕ) → length l ≡ length m → get_or (added l m) i 0 ≡ (get_or l i 0 + get_or m i 0) % 2
unfolding added
added_at [] [] i e = refl
added_at [] (b ∷ m) i e = absurd (omega arith)
added_at (a ∷ l) [] i e = absurd (omega arith)
added_at (a ∷ l) (b ∷ m) zero e = refl
added_at (a ∷ l) (b ∷ m) (suc i) e = added_at l m i (omega arith)

added_length : (l m : List ℕ) → length l ≡ length m → length (added l m) ≡ length l
unfolding added
added_length [] m e = refl
added_length (a ∷ l) [] e = sym e
added_length (a ∷ l) (b ∷ m) e = ap suc (added_length l m (omega arith))

pub added_below : (l m : List ℕ) → Below 2 (added l m)
unfolding added
added_below [] m = tt
added_below (a ∷ l) [] = tt
added_below (a ∷ l) (b ∷ m) = (mod-lt (a + b) (lit< tt), added_below l m)

-- what the sum writes is the sum of what the two write
pub num_added : (l m : List ℕ) → length l ≡ length m → Below 2 l → Below 2 m → num (added l m) ≡ bit_xor (num l) (num m)
unfolding added num
num_added [] [] e v w = refl
num_added [] (b ∷ m) e v w = absurd (omega arith)
num_added (a ∷ l) [] e v w = absurd (omega arith)
num_added (a ∷ l) (b ∷ m) e v w =
    let n : ℕ = length l in
    let k : length l ≡ length m = omega arith in
    let s : num m < 2 ^ n = subst (λ (x : ℕ). num m < 2 ^ x) (sym k) (num_lt m w.1) in
    ap₂ (λ (x y : ℕ). (a + b) % 2 * 2 ^ x + y) (added_length l m k) (num_added l m k v.1 w.1)
    ∙ ap (λ (x : ℕ). x * 2 ^ n + bit_xor (num l) (num m)) (sym (xor_bit a b v.0 w.0))
    ∙ sym (xor_block n a b (num l) (num m) (num_lt l v.1) s)
    ∙ ap (λ (x : ℕ). bit_xor (a * 2 ^ n + num l) (b * 2 ^ x + num m)) k

-- and the bits of a sum are the sum of the bits
pub bits_xor : (n a b : ℕ) → bits n (bit_xor a b) ≡ added (bits n a) (bits n b)
unfolding bits added
bits_xor zero a b = refl
bits_xor (suc n) a b =
    ap₂ (λ (x : ℕ) (l : List ℕ). x ∷ l)
    (ap (λ (x : ℕ). x % 2) (xor_shr a b n) ∙ xor_low (a / 2 ^ n) (b / 2 ^ n) ∙ add-mod (a / 2 ^ n) (b / 2 ^ n) 2)
    (bits_xor n a b)
