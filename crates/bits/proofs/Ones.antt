-- Laws of the number of ones in a list of bits, whole and modulo 2.
-- Assumes nothing.
use Prim.Native.Nat.{ℕ, zero, suc, ◌+◌, ◌*◌, ◌%◌, ◌^◌, ◌<◌}
use mathlib.Core.Path.{◌≡◌, refl, sym, ap, ap₂, ◌∙◌}
use mathlib.Core.List.{List, [], ◌∷◌, ◌++◌}
use native.Mathlib.Nat.{add_assoc, zero-add, zero-div, add-mod}
use native.Mathlib.Omega.{arith}
use lib.Bits.{bit_xor}
use lib.ListN.{length}
use Rattle.bits.specs.Lists.{bits}
use Rattle.bits.specs.Sums.{added, ones}
use Rattle.bits.proofs.Lists.{bits_length}
use Rattle.bits.proofs.Numbers.{bits_join}
use Rattle.bits.proofs.Sums.{bits_xor}

-- sums of numbers that are both even or both odd
pub even_sum : (a b c d : ℕ) → a % 2 ≡ b % 2 → c % 2 ≡ d % 2 → (a + c) % 2 ≡ (b + d) % 2
even_sum a b c d e f = add-mod a c 2 ∙ ap₂ (λ (x y : ℕ). (x + y) % 2) e f ∙ sym (add-mod b d 2)

pub mod_twice : (a : ℕ) → a % 2 % 2 ≡ a % 2
mod_twice a = omega arith

pub ones_append : (l m : List ℕ) → ones (l ++ m) ≡ ones l + ones m
unfolding ones
ones_append [] m = sym (zero-add (ones m))
ones_append (b ∷ l) m = ap (λ (x : ℕ). b + x) (ones_append l m) ∙ sym (add_assoc b (ones l) (ones m))

-- of two fields, one behind the other
pub ones_join : (j k a b : ℕ) → b < 2 ^ k → ones (bits (j + k) (a * 2 ^ k + b)) ≡ ones (bits j a) + ones (bits k b)
ones_join j k a b h = ap ones (bits_join j k a b h) ∙ ones_append (bits j a) (bits k b)

pub ones_zero : (n : ℕ) → ones (bits n 0) ≡ 0
unfolding ones bits
ones_zero zero = refl
ones_zero (suc n) = omega (arith, ones_zero n, zero-div (2 ^ n))

-- of sums
pub ones_added : (l m : List ℕ) → length l ≡ length m → ones (added l m) % 2 ≡ (ones l + ones m) % 2
unfolding added ones
ones_added [] [] e = refl
ones_added [] (b ∷ m) e = absurd (omega arith)
ones_added (a ∷ l) [] e = absurd (omega arith)
ones_added (a ∷ l) (b ∷ m) e =
    let s : a + b + (ones l + ones m) ≡ a + ones l + (b + ones m) = omega arith in
    even_sum ((a + b) % 2) (a + b) (ones (added l m)) (ones l + ones m) (mod_twice (a + b)) (ones_added l m (omega arith)) ∙ ap (λ (x : ℕ). x % 2) s

pub ones_xor : (n a b : ℕ) → ones (bits n (bit_xor a b)) % 2 ≡ (ones (bits n a) + ones (bits n b)) % 2
ones_xor n a b = ap (λ (l : List ℕ). ones l % 2) (bits_xor n a b) ∙ ones_added (bits n a) (bits n b) (bits_length n a ∙ sym (bits_length n b))
