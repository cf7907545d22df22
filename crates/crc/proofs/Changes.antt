-- A changed single bit changes the CRC: with the data bit, a clock loses nothing of the register, since the polynomial has the term 1.
-- Assumes nothing.
use Prim.Native.Nat.{ℕ, zero, suc, ◌+◌, ◌-◌, ◌*◌, ◌/◌, ◌%◌, ◌^◌, ◌<◌}
use mathlib.Core.Path.{◌≡◌, refl, sym, ap, ap₂, ◌∙◌}
use mathlib.Core.List.{List, [], ◌∷◌}
use native.Mathlib.Nat.{zero-mul, one-mul, div-lt_iff_lt-mul, div-add-mod', not-suc-le-zero}
use native.Mathlib.Omega.{arith}
use lib.Arith.{mod-mul}
use lib.Dec.{lit<}
use lib.Bits.{bit_xor}
use lib.ListN.{length, get_or, set}
use lib.Pow.{pow_pos}
use Rattle.bits.specs.Lists.{Below}
use Rattle.bits.proofs.Sums.{xor_half, xor_cancel}
use Rattle.crc.specs.Crc.{clock, clocks, crc_of}
use Rattle.crc.proofs.Laws.{twice_top, clock_lt, clocks_lt}

-- the bit that decides whether the tapped stages are inverted
unfoldable decides : ℕ → ℕ → ℕ → ℕ
decides top r b = (r / top + b) % 2

odd_times : (t g : ℕ) → t < 2 → g % 2 ≡ 1 → (t * g) % 2 ≡ t
odd_times zero g h e = let z : 0 * g % 2 ≡ 0 = rw zero-mul refl in z
odd_times (suc zero) g h e = let z : 1 * g % 2 ≡ 1 = rw one-mul e in z
odd_times (suc (suc t)) g h e = absurd (omega arith)

-- the register moved by one stage
pub shift_is : (top r : ℕ) → 0 < top → r * 2 % (top * 2) ≡ r % top * 2
shift_is top r h =
    let e : r * 2 / 2 ≡ r = omega arith in
    let z : r * 2 % 2 ≡ 0 = omega arith in
    mod-mul (r * 2) h (lit< tt) ∙ ap₂ (λ (x y : ℕ). x % top * 2 + y) e z ∙ omega arith

module _ (n g : ℕ) (p : 0 < n) (odd : g % 2 ≡ 1) where
  -- the polynomial has the term 1, so the lowest stage shows that bit
  clock_low : (r b : ℕ) → clock (2 ^ (n - 1)) g r b % 2 ≡ decides (2 ^ (n - 1)) r b
  unfolding clock decides
  clock_low r b =
      let top : ℕ = 2 ^ (n - 1) in
      let t : ℕ = (r / top + b) % 2 in
      let x : ℕ = r * 2 % (top * 2) in
      let even : x % 2 ≡ 0 = omega (arith, shift_is top r (pow_pos (n - 1))) in
      let low : t * g % 2 ≡ t = odd_times t g (omega arith) odd in
      omega (arith, xor_half x (t * g))

  -- two registers that a clock makes one differ, if at all, in the bit that leaves, and so do the data bits
  clock_same : (r r' b b' : ℕ) → clock (2 ^ (n - 1)) g r b ≡ clock (2 ^ (n - 1)) g r' b'
      → (decides (2 ^ (n - 1)) r b ≡ decides (2 ^ (n - 1)) r' b') × (r % 2 ^ (n - 1) ≡ r' % 2 ^ (n - 1))
  unfolding clock decides
  clock_same r r' b b' e =
      let top : ℕ = 2 ^ (n - 1) in
      let t : ℕ = (r / top + b) % 2 in
      let t' : ℕ = (r' / top + b') % 2 in
      let d : t ≡ t' = sym (clock_low r b) ∙ ap (λ (x : ℕ). x % 2) e ∙ clock_low r' b' in
      let c : r * 2 % (top * 2) ≡ r' * 2 % (top * 2) =
      xor_cancel (t * g) (r * 2 % (top * 2)) (r' * 2 % (top * 2)) (e ∙ ap (λ (x : ℕ). bit_xor (r' * 2 % (top * 2)) (x * g)) (sym d)) in
      (d, omega (arith, shift_is top r (pow_pos (n - 1)), shift_is top r' (pow_pos (n - 1))))

  -- with one data bit, a clock is one_to_one in the register
  clock_inj : (r r' b : ℕ) → r < 2 ^ n → r' < 2 ^ n → clock (2 ^ (n - 1)) g r b ≡ clock (2 ^ (n - 1)) g r' b → r ≡ r'
  unfolding decides
  clock_inj r r' b h h' e =
      let top : ℕ = 2 ^ (n - 1) in
      let s = clock_same r r' b b e in
      let q : r / top < 2 = (div-lt_iff_lt-mul (pow_pos (n - 1))).1 (omega (arith, twice_top n p)) in
      let q' : r' / top < 2 = (div-lt_iff_lt-mul (pow_pos (n - 1))).1 (omega (arith, twice_top n p)) in
      let d : r / top ≡ r' / top = omega (arith, s.0) in
      sym (div-add-mod' r top) ∙ ap₂ (λ (x y : ℕ). x * top + y) d s.1 ∙ div-add-mod' r' top

  clocks_inj : (l : List ℕ) (r r' : ℕ) → g < 2 ^ n → r < 2 ^ n → r' < 2 ^ n → clocks (2 ^ (n - 1)) g r l ≡ clocks (2 ^ (n - 1)) g r' l → r ≡ r'
  unfolding clocks
  clocks_inj [] r r' k h h' e = e
  clocks_inj (b ∷ l) r r' k h h' e =
      let top : ℕ = 2 ^ (n - 1) in
      clock_inj r r' b h h'
      (clocks_inj l (clock top g r b) (clock top g r' b) k (clock_lt n g r b p k) (clock_lt n g r' b p k) e)

  -- another bit at one place gives another register
  clocks_changes : (l : List ℕ) (i b r : ℕ) → g < 2 ^ n → r < 2 ^ n → Below 2 l → b < 2 → i < length l
      → clocks (2 ^ (n - 1)) g r (set l i b) ≡ clocks (2 ^ (n - 1)) g r l → b ≡ get_or l i 0
  unfolding clocks decides
  clocks_changes [] i b r k h w hb room e = absurd (not-suc-le-zero room)
  clocks_changes (x ∷ l) zero b r k h w hb room e =
      let top : ℕ = 2 ^ (n - 1) in
      let s = clock_same r r b x (clocks_inj l (clock top g r b) (clock top g r x) k (clock_lt n g r b p k) (clock_lt n g r x p k) e) in
      omega (arith, s.0, w.0)
  clocks_changes (x ∷ l) (suc i) b r k h w hb room e =
      clocks_changes l i b (clock (2 ^ (n - 1)) g r x) k (clock_lt n g r x p k) w.1 hb (omega arith) e

-- a changed single bit changes the CRC, for any width and any polynomial with the term 1
pub crc_changes : (n g : ℕ) (l : List ℕ) (i b : ℕ) → 0 < n → g < 2 ^ n → g % 2 ≡ 1 → Below 2 l → b < 2 → i < length l
    → crc_of n g (set l i b) ≡ crc_of n g l → b ≡ get_or l i 0
unfolding crc_of
crc_changes n g l i b p k odd w hb room e =
    let top : ℕ = 2 ^ (n - 1) in
    let ones : ℕ = 2 ^ n - 1 in
    let small : ones < 2 ^ n = omega (arith, pow_pos n) in
    clocks_changes n g p odd l i b ones k small w hb room
    (omega (arith, e, clocks_lt n g ones l p k small, clocks_lt n g ones (set l i b) p k small))
