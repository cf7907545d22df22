-- The register is linear: what a sum of registers becomes with a sum of bits is the sum of what they become.
-- Assumes nothing.
use Prim.Native.Nat.{ℕ, ◌+◌, ◌-◌, ◌*◌, ◌/◌, ◌%◌, ◌^◌, ◌<◌}
use mathlib.Core.Path.{◌≡◌, refl, sym, ap, ap₂, ◌∙◌}
use mathlib.Core.List.{List, [], ◌∷◌}
use native.Mathlib.Omega.{arith}
use lib.Bits.{bit_xor, xor_shr, xor_mod}
use lib.ListN.{length}
use Rattle.bits.specs.Sums.{added}
use Rattle.bits.proofs.Sums.{xor_low, xor_swap, xor_scale, xor_times}
use Rattle.crc.specs.Crc.{clock, clocks}
use Rattle.crc.proofs.Laws.{twice_top}

module _ (n g : ℕ) (p : 0 < n) where
  -- the register moved by one stage
  moved : (r s : ℕ) → bit_xor r s * 2 % (2 ^ (n - 1) * 2) ≡ bit_xor (r * 2 % (2 ^ (n - 1) * 2)) (s * 2 % (2 ^ (n - 1) * 2))
  moved r s = rw (twice_top n p) (ap (λ (x : ℕ). x % 2 ^ n) (sym (xor_scale 1 r s)) ∙ xor_mod (r * 2) (s * 2) n)

  -- the bit that decides whether the tapped stages are inverted
  decided : (r s a b : ℕ) → (bit_xor r s / 2 ^ (n - 1) + (a + b) % 2) % 2 ≡ (r / 2 ^ (n - 1) + a + (s / 2 ^ (n - 1) + b)) % 2
  decided r s a b =
      let x : ℕ = r / 2 ^ (n - 1) in
      let y : ℕ = s / 2 ^ (n - 1) in
      ap (λ (z : ℕ). (z + (a + b) % 2) % 2) (xor_shr r s (n - 1)) ∙ both (bit_xor x y) x y a b (xor_low x y)
    where
      both : (z x y a b : ℕ) → z % 2 ≡ (x + y) % 2 → (z + (a + b) % 2) % 2 ≡ (x + a + (y + b)) % 2
      both z x y a b e = omega arith

  clock_sum : (r s a b : ℕ) → clock (2 ^ (n - 1)) g (bit_xor r s) ((a + b) % 2) ≡ bit_xor (clock (2 ^ (n - 1)) g r a) (clock (2 ^ (n - 1)) g s b)
  unfolding clock
  clock_sum r s a b =
      let top : ℕ = 2 ^ (n - 1) in
      ap₂ bit_xor (moved r s) (ap (λ (x : ℕ). x * g) (decided r s a b) ∙ xor_times (r / top + a) (s / top + b) g)
      ∙ xor_swap (r * 2 % (top * 2)) (s * 2 % (top * 2)) ((r / top + a) % 2 * g) ((s / top + b) % 2 * g)

  pub clocks_sum : (r s : ℕ) (l m : List ℕ) → length l ≡ length m
      → clocks (2 ^ (n - 1)) g (bit_xor r s) (added l m) ≡ bit_xor (clocks (2 ^ (n - 1)) g r l) (clocks (2 ^ (n - 1)) g s m)
  unfolding clocks added
  clocks_sum r s [] [] e = refl
  clocks_sum r s [] (b ∷ m) e = absurd (omega arith)
  clocks_sum r s (a ∷ l) [] e = absurd (omega arith)
  clocks_sum r s (a ∷ l) (b ∷ m) e =
      let top : ℕ = 2 ^ (n - 1) in
      ap (λ (x : ℕ). clocks top g x (added l m)) (clock_sum r s a b) ∙ clocks_sum (clock top g r a) (clock top g s b) l m (omega arith)
