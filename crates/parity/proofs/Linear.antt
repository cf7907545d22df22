-- The remainder of a sum is the sum of the remainders, and its part that of the parts.
-- Assumes nothing.
use Prim.Native.Nat.{ℕ, ◌+◌, ◌*◌, ◌%◌, ◌^◌, ◌<◌}
use mathlib.Core.Path.{◌≡◌, sym, ap, ap₂, ◌∙◌}
use mathlib.Core.List.{List, ◌++◌}
use native.Mathlib.Nat.{add-mod}
use native.Mathlib.Omega.{arith}
use lib.Bits.{bit_xor, xor_block, xor_lt}
use lib.ListN.{length}
use Rattle.bits.specs.Lists.{bits, num, Below}
use Rattle.bits.specs.Sums.{added, ones}
use Rattle.bits.proofs.Sums.{xor_bit, xor_swap, xor_scale, added_below, num_added}
use Rattle.bits.proofs.Ones.{even_sum, ones_append, ones_added, ones_xor}
use Rattle.parity.specs.Part.{remainder, at_one, outer, parity_of}
use Rattle.parity.specs.Claims.{Linear}
use Rattle.parity.proofs.Division.{multiple_is, multiple_sum}
use Rattle.parity.proofs.Laws.{remainder_is, remainder_unique, at_one_lt}

pub linear : Linear
linear k m e w v =
    let r = remainder_is k w in
    let s = remainder_is m v in
    let p : ℕ = num (added k m) * 2 ^ 48 in
    let q : bit_xor (bit_xor (num k * 2 ^ 48) (remainder k)) (bit_xor (num m * 2 ^ 48) (remainder m)) ≡ bit_xor p (bit_xor (remainder k) (remainder m)) =
    xor_swap (num k * 2 ^ 48) (remainder k) (num m * 2 ^ 48) (remainder m)
    ∙ ap (λ (x : ℕ). bit_xor x (bit_xor (remainder k) (remainder m))) (xor_scale 48 (num k) (num m) ∙ ap (λ (x : ℕ). x * 2 ^ 48) (sym (num_added k m e w v))) in
    sym (remainder_unique (added k m) (bit_xor (remainder k) (remainder m)) (added_below k m)
    (record { small = xor_lt 48 (remainder k) (remainder m) r.small s.small; multiple = multiple_is (bit_xor p (bit_xor (remainder k) (remainder m))) (multiple_sum r.multiple s.multiple) q }))

at_one_sum : (k m : List ℕ) → length k ≡ length m → Below 2 k → Below 2 m → at_one (outer (added k m)) ≡ (at_one (outer k) + at_one (outer m)) % 2
unfolding at_one outer
at_one_sum k m e w v =
    let r : ℕ = remainder k in
    let s : ℕ = remainder m in
    let regroup : ones k + ones m + (ones (bits 48 r) + ones (bits 48 s)) ≡ ones k + ones (bits 48 r) + (ones m + ones (bits 48 s)) = omega arith in
    ap (λ (x : ℕ). x % 2) (ones_append (added k m) (bits 48 (remainder (added k m))) ∙ ap (λ (x : ℕ). ones (added k m) + ones (bits 48 x)) (linear k m e w v))
    ∙ even_sum (ones (added k m)) (ones k + ones m) (ones (bits 48 (bit_xor r s))) (ones (bits 48 r) + ones (bits 48 s)) (ones_added k m e) (ones_xor 48 r s)
    ∙ ap (λ (x : ℕ). x % 2) (regroup ∙ ap₂ (λ (x y : ℕ). x + y) (sym (ones_append k (bits 48 r))) (sym (ones_append m (bits 48 s))))
    ∙ add-mod (ones (k ++ bits 48 r)) (ones (m ++ bits 48 s)) 2

-- and so is the part of a sum the sum of the parts
pub part_sum : (k m : List ℕ) → length k ≡ length m → Below 2 k → Below 2 m → parity_of (added k m) ≡ bit_xor (parity_of k) (parity_of m)
unfolding parity_of
part_sum k m e w v =
    let p : ℕ = at_one (outer k) in
    let q : ℕ = at_one (outer m) in
    let pl : p < 2 = at_one_lt (outer k) in
    let ql : q < 2 = at_one_lt (outer m) in
    ap₂ (λ (x y : ℕ). x * 2 + y) (linear k m e w v) (at_one_sum k m e w v ∙ sym (xor_bit p q pl ql))
    ∙ sym (xor_block 1 (remainder k) (remainder m) p q pl ql)
