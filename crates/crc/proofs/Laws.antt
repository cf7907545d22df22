-- Laws of the register: it stays within its stages, one bit more, and the CRC fits its width.
-- Assumes nothing.
use Prim.Native.Nat.{ℕ, zero, suc, ◌+◌, ◌-◌, ◌*◌, ◌/◌, ◌%◌, ◌^◌, ◌≤◌, ◌<◌}
use mathlib.Core.Path.{◌≡◌, refl, sym, ap, ◌∙◌}
use mathlib.Core.List.{List, [], ◌∷◌, ◌++◌}
use native.Mathlib.Nat.{mod-lt, mul-le-mul_right, pow-suc}
use native.Mathlib.Numerals.{add-one}
use native.Mathlib.Omega.{arith}
use lib.Bits.{xor_lt}
use lib.Pow.{pow_pos, ones_sub-lt}
use Rattle.ground.specs.Table.{tab}
use Rattle.ground.proofs.Table.{tab_snoc}
use Rattle.crc.specs.Crc.{clock, clocks, crc_of}

-- twice the weight of the last stage is the number of states
pub twice_top : (n : ℕ) → 0 < n → 2 ^ (n - 1) * 2 ≡ 2 ^ n
twice_top zero h = absurd (omega arith)
twice_top (suc n) h =
    let e : suc n - 1 ≡ n = omega arith in
    rw e (sym (pow-suc 2 n))

pub clock_lt : (n g r b : ℕ) → 0 < n → g < 2 ^ n → clock (2 ^ (n - 1)) g r b < 2 ^ n
unfolding clock
clock_lt n g r b p h = rw (twice_top n p) (xor_lt n _ _ (mod-lt (r * 2) (pow_pos n)) (le_lt (mul-le-mul_right g (one_bit (r / 2 ^ (n - 1) + b)))))
  where
    one_bit : (x : ℕ) → x % 2 ≤ 1
    one_bit x = omega arith

    le_lt : {a : ℕ} → a ≤ 1 * g → a < 2 ^ n
    le_lt q = omega arith

pub clocks_lt : (n g r : ℕ) (l : List ℕ) → 0 < n → g < 2 ^ n → r < 2 ^ n → clocks (2 ^ (n - 1)) g r l < 2 ^ n
unfolding clocks
clocks_lt n g r [] p h k = k
clocks_lt n g r (b ∷ l) p h k = clocks_lt n g (clock (2 ^ (n - 1)) g r b) l p h (clock_lt n g r b p h)

-- the bits of two lists, one behind the other
pub clocks_append : (top g r : ℕ) (l m : List ℕ) → clocks top g r (l ++ m) ≡ clocks top g (clocks top g r l) m
unfolding clocks
clocks_append top g r [] m = refl
clocks_append top g r (b ∷ l) m = clocks_append top g (clock top g r b) l m

-- one bit more of a run
pub clocks_more : (top g r : ℕ) (f : ℕ → ℕ) (at i : ℕ) → clocks top g r (tab f at (i + 1)) ≡ clock top g (clocks top g r (tab f at i)) (f (at + i))
unfolding clocks
clocks_more top g r f at i =
    ap (clocks top g r) (ap (tab f at) (add-one i) ∙ tab_snoc f at i) ∙ clocks_append top g r (tab f at i) (f (at + i) ∷ [])

-- the CRC fits its width
pub crc_lt : (n g : ℕ) (l : List ℕ) → crc_of n g l < 2 ^ n
unfolding crc_of
crc_lt n g l = ones_sub-lt n (clocks (2 ^ (n - 1)) g (2 ^ n - 1) l)
