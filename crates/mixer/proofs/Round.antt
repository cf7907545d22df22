-- Steps round a codeword: places that are added up are those of the rule.
-- Assumes nothing.
use Prim.Native.Nat.{ℕ, ◌+◌, ◌-◌, ◌*◌, ◌%◌, ◌≤◌, ◌<◌}
use mathlib.Core.Path.{◌≡◌, sym, ap, ap₂, ◌∙◌}
use mathlib.Core.List.{List}
use native.Mathlib.Nat.{mod-eq_of_lt, mod-add-mod, add-mod_right, mul-add, mul-suc, mul_comm, add_assoc, mul-zero, add-zero}
use native.Mathlib.Numerals.{add-one}
use native.Mathlib.Omega.{arith}
use Rattle.bits.specs.Places.{bit_at, number}
use Rattle.bits.proofs.Places.{number_move}
use Rattle.mixer.specs.Mixer.{mixed_from}

-- past the end
pub round_end : (x len : ℕ) → len ≤ x → x - len < len → x - len ≡ x % len
round_end x len h k =
    let e : x ≡ x - len + len = omega arith in
    sym (ap (λ (z : ℕ). z % len) e ∙ add-mod_right (x - len) len ∙ mod-eq_of_lt k)

-- one step more
pub step_more : (at s i len : ℕ) → ((at + s * i) % len + s) % len ≡ (at + s * (i + 1)) % len
step_more at s i len =
    mod-add-mod (at + s * i) len s
    ∙ ap (λ (z : ℕ). z % len) (add_assoc at (s * i) s ∙ ap (λ (z : ℕ). at + z) (sym (mul-suc s i)) ∙ ap (λ (z : ℕ). at + s * z) (sym (add-one i)))

pub steps_none : (at s len : ℕ) → at < len → at ≡ (at + s * 0) % len
steps_none at s len h = sym (ap (λ (z : ℕ). (at + z) % len) (mul-zero s) ∙ ap (λ (z : ℕ). z % len) (add-zero at) ∙ mod-eq_of_lt h)

-- where byte k begins
pub byte_none : (inc len : ℕ) → 0 < len → 0 ≡ inc * (8 * 0) % len
byte_none inc len h = sym (ap (λ (z : ℕ). z % len) (mul-zero inc) ∙ mod-eq_of_lt h)

pub byte_more : (inc k len : ℕ) → (inc * (8 * k) % len + 8 * inc) % len ≡ inc * (8 * (k + 1)) % len
byte_more inc k len =
    let e : inc * (8 * k) + 8 * inc ≡ inc * (8 * (k + 1)) =
    ap (λ (z : ℕ). inc * (8 * k) + z) (mul_comm 8 inc) ∙ sym (mul-add inc (8 * k) 8) ∙ ap (λ (z : ℕ). inc * z) (omega arith) in
    mod-add-mod (inc * (8 * k)) len (8 * inc) ∙ ap (λ (z : ℕ). z % len) e

-- the eight bits from there are those of byte k
pub byte_is : (c : List ℕ) (inc len k at : ℕ) → at ≡ inc * (8 * k) % len
    → number (λ i. bit_at c ((at + inc * i) % len)) 0 8 ≡ number (λ i. bit_at c (mixed_from inc len i)) (8 * k) 8
byte_is c inc len k at e =
    number_move (λ i. bit_at c ((at + inc * i) % len)) (λ i. bit_at c (mixed_from inc len i)) 0 (8 * k) 8
    (λ i h. ap (bit_at c) (ap₂ (λ (x y : ℕ). (x + inc * y) % len) e (omega arith) ∙ mod-add-mod (inc * (8 * k)) len (inc * i) ∙ ap (λ (z : ℕ). z % len) (sym (mul-add inc (8 * k) i))))
