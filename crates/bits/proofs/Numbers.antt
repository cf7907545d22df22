-- Laws of numbers in fields that stand one behind the other, and in whole bytes.
-- Assumes nothing.
use Prim.Native.Nat.{ℕ, zero, suc, ◌+◌, ◌*◌, ◌/◌, ◌%◌, ◌^◌, ◌<◌}
use mathlib.Core.Path.{◌≡◌, sym, ap, ap₂, ◌∙◌}
use mathlib.Core.List.{List, [], ◌∷◌, ◌++◌}
use native.Mathlib.Nat.{zero-add, suc-add, add_comm}
use native.Mathlib.Omega.{arith}
use lib.ListN.{length, take, drop}
use lib.Seq.{take_at, drop_at}
use lib.Pow.{high, shr-shr}
use Rattle.bits.specs.Lists.{bits, num, pack}
use Rattle.bits.proofs.Lists.{bits_length, bits_high, num_bits_mod}

-- the bits of a number, cut in two
pub bits_append : (m n v : ℕ) → bits (m + n) v ≡ bits m (v / 2 ^ n) ++ bits n v
unfolding bits
bits_append zero n v = ap (λ (k : ℕ). bits k v) (zero-add n)
bits_append (suc m) n v =
    ap (λ (k : ℕ). bits k v) (suc-add m n)
    ∙ ap₂ (λ (x : ℕ) (l : List ℕ). x ∷ l) (ap (λ (x : ℕ). x % 2) (ap (λ (k : ℕ). v / 2 ^ k) (add_comm m n) ∙ sym (shr-shr v n m))) (bits_append m n v)

-- two fields, one behind the other, are one number
pub bits_join : (m n a b : ℕ) → b < 2 ^ n → bits (m + n) (a * 2 ^ n + b) ≡ bits m a ++ bits n b
bits_join m n a b h =
    bits_append m n (a * 2 ^ n + b) ∙ ap₂ (λ (x y : List ℕ). x ++ y) (ap (bits m) (high a n h)) (bits_high n a b)

-- one bit
pub bits_one : (b : ℕ) → b < 2 → bits 1 b ≡ b ∷ []
unfolding bits
bits_one b h =
    let e : b / 2 ^ 0 % 2 ≡ b = omega arith in
    ap (λ (x : ℕ). x ∷ []) e

-- a number in whole bytes, the highest byte first
pub pack_bits : (n v : ℕ) → pack (suc n) (bits (8 + 8 * n) v) ≡ v / 2 ^ (8 * n) % 256 ∷ pack n (bits (8 * n) v)
unfolding pack
pack_bits n v =
    let h : List ℕ = bits 8 (v / 2 ^ (8 * n)) in
    let e : bits (8 + 8 * n) v ≡ h ++ bits (8 * n) v = bits_append 8 (8 * n) v in
    let l : length h ≡ 8 = bits_length 8 (v / 2 ^ (8 * n)) in
    ap₂ (λ (x : ℕ) (y : List ℕ). x ∷ y)
    (ap (λ (x : List ℕ). num (take 8 x)) e ∙ ap num (take_at h (bits (8 * n) v) 8 l) ∙ num_bits_mod 8 (v / 2 ^ (8 * n)))
    (ap (λ (x : List ℕ). pack n (drop 8 x)) e ∙ ap (pack n) (drop_at h (bits (8 * n) v) 8 l))

-- a 16-bit number in two bytes
pub pack_16 : (v : ℕ) → pack 2 (bits 16 v) ≡ v / 256 % 256 ∷ v % 256 ∷ []
unfolding pack
pack_16 v = pack_bits 1 v ∙ ap (λ (l : List ℕ). v / 256 % 256 ∷ l) (pack_bits 0 v ∙ ap (λ (x : ℕ). x % 256 ∷ []) one)
  where
    one : v / 1 ≡ v
    one = omega arith

-- a 32-bit number in four bytes
pub pack_32 : (v : ℕ) → pack 4 (bits 32 v) ≡ v / 0x1000000 % 256 ∷ v / 0x10000 % 256 ∷ v / 0x100 % 256 ∷ v % 256 ∷ []
unfolding pack
pack_32 v =
    pack_bits 3 v ∙ ap (λ (l : List ℕ). v / 0x1000000 % 256 ∷ l)
    (pack_bits 2 v ∙ ap (λ (l : List ℕ). v / 0x10000 % 256 ∷ l)
    (pack_bits 1 v ∙ ap (λ (l : List ℕ). v / 0x100 % 256 ∷ l)
    (pack_bits 0 v ∙ ap (λ (x : ℕ). x % 256 ∷ []) (omega arith))))
