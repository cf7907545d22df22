-- The shift register of 48 stages holds the remainder.
-- Assumes nothing.
use Prim.Native.Nat.{ℕ, zero, suc, ◌+◌, ◌*◌, ◌/◌, ◌%◌, ◌^◌, ◌<◌}
use mathlib.Core.Path.{◌≡◌, refl, sym, ap, ◌∙◌, subst}
use mathlib.Core.List.{List, [], ◌∷◌, ◌++◌, append-nil, append_assoc}
use native.Mathlib.Nat.{mod-lt}
use native.Mathlib.Omega.{arith}
use lib.Bits.{bit_xor}
use lib.Dec.{lit<}
use lib.Pow.{pow_pos, shr_lt}
use Rattle.bits.specs.Lists.{num, Below}
use Rattle.bits.proofs.Below.{below_append}
use Rattle.bits.proofs.Sums.{xor_bit}
use Rattle.crc.specs.Crc.{clock, clocks}
use Rattle.crc.proofs.Changes.{shift_is}
use Rattle.parity.specs.Division.{Multiple, Remainder, reduce, divide}
use Rattle.parity.specs.Part.{powers, generator, remainder}
use Rattle.parity.specs.Claims.{Register}
use Rattle.parity.proofs.Division.{multiple_none, multiple_self, multiple_is}
use Rattle.parity.proofs.Laws.{remainder_lt, longer}

taps_lt : (t : ℕ) → t < 2 → t * (generator % 2 ^ 48) < 2 ^ 48
unfolding generator powers
taps_lt zero h = lit< tt
taps_lt (suc zero) h = lit< tt
taps_lt (suc (suc t)) h = absurd (omega arith)

taps_multiple : (t : ℕ) → t < 2 → Multiple generator (bit_xor (t * 2 ^ 48) (t * (generator % 2 ^ 48)))
unfolding generator powers
taps_multiple zero h = multiple_is (bit_xor (0 * 2 ^ 48) (0 * (generator % 2 ^ 48))) (multiple_none generator) refl
taps_multiple (suc zero) h = multiple_is (bit_xor (1 * 2 ^ 48) (1 * (generator % 2 ^ 48))) (multiple_self generator) refl
taps_multiple (suc (suc t)) h = absurd (omega arith)

-- one clock
register_step : (m : List ℕ) (b : ℕ) → Below 2 m → b < 2 → remainder (m ++ (b ∷ [])) ≡ clock (2 ^ 47) (generator % 2 ^ 48) (remainder m) b
unfolding clock num
register_step m b w h =
    let d : ℕ = remainder m in
    let u : ℕ = d / 2 ^ 47 in
    let t : ℕ = (u + b) % 2 in
    let r : ℕ = t * (generator % 2 ^ 48) in
    let tl : t < 2 = mod-lt (u + b) (lit< tt) in
    let leaves : t ≡ bit_xor u b = sym (xor_bit u b (shr_lt 1 47 (remainder_lt m w)) h) in
    let value : num (b ∷ []) ≡ b = omega arith in
    let left : Remainder 48 generator (t * 2 ^ 48) r = record { small = taps_lt t tl; multiple = taps_multiple t tl } in
    longer m (b ∷ []) 47 1 b r w (h, tt) refl value refl (subst (λ (x : ℕ). Remainder 48 generator (x * 2 ^ 48) r) leaves left)
    ∙ ap (λ (x : ℕ). bit_xor x r) (sym (shift_is (2 ^ 47) d (pow_pos 47)))

clocked : (m l : List ℕ) → Below 2 m → Below 2 l → remainder (m ++ l) ≡ clocks (2 ^ 47) (generator % 2 ^ 48) (remainder m) l
unfolding clocks
clocked m [] w v = ap remainder (append-nil m)
clocked m (b ∷ l) w v =
    ap remainder (sym (append_assoc m (b ∷ []) l)) ∙ clocked (m ++ (b ∷ [])) l (below_append 2 m (b ∷ []) w (v.0, tt)) v.1
    ∙ ap (λ (x : ℕ). clocks (2 ^ 47) (generator % 2 ^ 48) x l) (register_step m b w v.0)

pub register : Register
unfolding remainder divide reduce
register m w = clocked [] m tt w
