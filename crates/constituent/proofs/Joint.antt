-- Six bit periods are linear in the number that holds the six bits of both encoders and their registers.
-- Assumes nothing.
use Prim.Native.Nat.{ℕ, ◌+◌, ◌-◌, ◌*◌, ◌/◌, ◌%◌, ◌^◌, ◌≤◌, ◌<◌}
use mathlib.Core.Path.{◌≡◌, refl, sym, ap, ap₂, ◌∙◌, subst}
use mathlib.Core.Bool.{Bool, true, false}
use mathlib.Core.List.{List}
use native.Mathlib.Nat.{zero-add, add-zero, zero-mul}
use native.Mathlib.Decide.{dec_lt}
use native.Mathlib.Omega.{arith}
use lib.Dec.{ltb}
use lib.ListN.{length, get_or}
use lib.Pow.{pow_pos, high, low, shr-shr, field, mod-mod-pow, shl-shr}
use borrow.Author.Tests.{lt-ltb, le-ltb}
use Rattle.ground.specs.Choice.{choose}
use Rattle.ground.proofs.Choice.{choose_true, choose_false}
use Rattle.bits.specs.Lists.{Below}
use Rattle.bits.specs.Sums.{added}
use Rattle.bits.proofs.Below.{below_get}
use Rattle.bits.proofs.Sums.{added_at}
use Rattle.constituent.specs.Constituent.{y0, y1}
use Rattle.constituent.specs.Symbols.{data_symbols}
use Rattle.constituent.specs.Six.{state_of, bit_of, after, registers, six, joint}
use Rattle.constituent.specs.declared.State.{State}
use Rattle.constituent.proofs.Linear.{Bits, plus, data_sum, registers_sum, after_sum, after_bits}

-- ---- the symbols and the registers' bits are bits
pub period_bits : (u : ℕ) (s : State) (v : ℕ) (t : State) → u < 2 → Below 2 (data_symbols u s v t)
unfolding data_symbols y0 y1
period_bits u s v t h = (h, (omega arith, (omega arith, (omega arith, (omega arith, tt)))))

pub period_length : (u : ℕ) (s : State) (v : ℕ) (t : State) → length (data_symbols u s v t) ≡ 5
unfolding data_symbols
period_length u s v t = refl

pub state_of_bits : (x : ℕ) → Bits (state_of x)
state_of_bits x = record { one = omega arith; two = omega arith; three = omega arith }

registers_bits : (s t : State) → Bits s → Bits t → Below 2 (registers s t)
registers_bits s t h k = (h.one, (h.two, (h.three, (k.one, (k.two, (k.three, tt))))))

pub six_data : (s : State) (u : ℕ) (t : State) (v k : ℕ) → k < 30 → six s u t v k ≡ get_or (data_symbols (bit_of u (k / 5)) (after s u (k / 5)) (bit_of v (k / 5)) (after t v (k / 5))) (k % 5) 0
unfolding six
six_data s u t v k h = choose_true _ _ (lt-ltb k 30 h)

pub six_then : (s : State) (u : ℕ) (t : State) (v k : ℕ) → 30 ≤ k → six s u t v k ≡ get_or (registers (after s u 6) (after t v 6)) (k - 30) 0
unfolding six
six_then s u t v k h = choose_false _ _ (le-ltb k 30 h)

choose_below : (b : Bool) (x y : ℕ) → x < 2 → y < 2 → choose b x y < 2
choose_below true x y h k = h
choose_below false x y h k = k

pub joint_lt : (x k : ℕ) → joint x k < 2
unfolding joint six
joint_lt x k =
    let s : State = state_of (x / 8) in
    let t : State = state_of x in
    let u : ℕ = x / 4096 in
    let v : ℕ = x / 64 in
    choose_below (ltb k 30) _ _
    (below_get 2 (data_symbols (bit_of u (k / 5)) (after s u (k / 5)) (bit_of v (k / 5)) (after t v (k / 5))) (k % 5) (omega arith)
    (period_bits (bit_of u (k / 5)) (after s u (k / 5)) (bit_of v (k / 5)) (after t v (k / 5)) (omega arith)))
    (below_get 2 (registers (after s u 6) (after t v 6)) (k - 30) (omega arith)
    (registers_bits (after s u 6) (after t v 6) (after_bits s (state_of_bits (x / 8)) u 6) (after_bits t (state_of_bits x) v 6)))

-- ---- sums
-- each of the eighteen bits of z is the sum of those of x and y
pub record Joins (x y z : ℕ) : Type 0 where
  pub bit : (c : ℕ) → c < 18 → z / 2 ^ c % 2 ≡ (x / 2 ^ c % 2 + y / 2 ^ c % 2) % 2

same_state : {a b c a' b' c' : ℕ} → a ≡ a' → b ≡ b' → c ≡ c' → ◌≡◌ {A = State} (record { a1 = a; a2 = b; a3 = c }) (record { a1 = a'; a2 = b'; a3 = c' })
same_state p q r = cc

lowest : (z x y : ℕ) → z / 2 ^ 0 % 2 ≡ (x / 2 ^ 0 % 2 + y / 2 ^ 0 % 2) % 2 → z % 2 ≡ (x % 2 + y % 2) % 2
lowest z x y e = ap (λ (n : ℕ). n % 2) (sym (whole z)) ∙ e ∙ ap₂ (λ (m n : ℕ). (m % 2 + n % 2) % 2) (whole x) (whole y)
  where
    whole : (n : ℕ) → n / 2 ^ 0 ≡ n
    whole n = omega arith

module _ (x y z : ℕ) (J : Joins x y z) where
  -- a bit behind a shift
  shifted : (j c : ℕ) → j + c < 18 → z / 2 ^ j / 2 ^ c % 2 ≡ (x / 2 ^ j / 2 ^ c % 2 + y / 2 ^ j / 2 ^ c % 2) % 2
  shifted j c h =
      ap (λ (n : ℕ). n % 2) (shr-shr z j c) ∙ J.bit (j + c) h
      ∙ sym (ap₂ (λ (m n : ℕ). (m % 2 + n % 2) % 2) (shr-shr x j c) (shr-shr y j c))

  one_sum : state_of (z / 8) ≡ plus (state_of (x / 8)) (state_of (y / 8))
  one_sum = same_state (shifted 3 2 (omega arith)) (shifted 3 1 (omega arith)) (lowest (z / 8) (x / 8) (y / 8) (shifted 3 0 (omega arith)))

  two_sum : state_of z ≡ plus (state_of x) (state_of y)
  two_sum = same_state (J.bit 2 (omega arith)) (J.bit 1 (omega arith)) (lowest z x y (J.bit 0 (omega arith)))

  first_sum : (b : ℕ) → b < 6 → bit_of (z / 4096) b ≡ (bit_of (x / 4096) b + bit_of (y / 4096) b) % 2
  first_sum b h = shifted 12 (5 - b) (omega arith)

  second_sum : (b : ℕ) → b < 6 → bit_of (z / 64) b ≡ (bit_of (x / 64) b + bit_of (y / 64) b) % 2
  second_sum b h = shifted 6 (5 - b) (omega arith)

  one_after : (b : ℕ) → b ≤ 6 → after (state_of (z / 8)) (z / 4096) b ≡ plus (after (state_of (x / 8)) (x / 4096) b) (after (state_of (y / 8)) (y / 4096) b)
  one_after b h = ap (λ (s : State). after s (z / 4096) b) one_sum ∙ after_sum (state_of (x / 8)) (state_of (y / 8)) (x / 4096) (y / 4096) (z / 4096) first_sum b h

  two_after : (b : ℕ) → b ≤ 6 → after (state_of z) (z / 64) b ≡ plus (after (state_of x) (x / 64) b) (after (state_of y) (y / 64) b)
  two_after b h = ap (λ (s : State). after s (z / 64) b) two_sum ∙ after_sum (state_of x) (state_of y) (x / 64) (y / 64) (z / 64) second_sum b h

  pub joint_sum : (k : ℕ) → k < 36 → joint z k ≡ (joint x k + joint y k) % 2
  unfolding joint
  joint_sum k h =
      elim (dec_lt k 30) [
        | yes l ↦ (
            let b : ℕ = k / 5 in
            let lb : b < 6 = omega arith in
            let lx : List ℕ = data_symbols (bit_of (x / 4096) b) (after (state_of (x / 8)) (x / 4096) b) (bit_of (x / 64) b) (after (state_of x) (x / 64) b) in
            let ly : List ℕ = data_symbols (bit_of (y / 4096) b) (after (state_of (y / 8)) (y / 4096) b) (bit_of (y / 64) b) (after (state_of y) (y / 64) b) in
            let e : data_symbols (bit_of (z / 4096) b) (after (state_of (z / 8)) (z / 4096) b) (bit_of (z / 64) b) (after (state_of z) (z / 64) b) ≡ added lx ly =
            ap₂ (λ (p : ℕ) (s : State). data_symbols p s (bit_of (z / 64) b) (after (state_of z) (z / 64) b)) (first_sum b lb) (one_after b (omega arith))
            ∙ ap₂ (data_symbols ((bit_of (x / 4096) b + bit_of (y / 4096) b) % 2) (plus (after (state_of (x / 8)) (x / 4096) b) (after (state_of (y / 8)) (y / 4096) b))) (second_sum b lb) (two_after b (omega arith))
            ∙ data_sum _ _ _ _ _ _ _ _ in
            six_data _ _ _ _ k l ∙ ap (λ (m : List ℕ). get_or m (k % 5) 0) e
            ∙ added_at lx ly (k % 5) (period_length _ _ _ _ ∙ sym (period_length _ _ _ _))
            ∙ sym (ap₂ (λ (p q : ℕ). (p + q) % 2) (six_data _ _ _ _ k l) (six_data _ _ _ _ k l)))
        | no l ↦ (
            let lx : List ℕ = registers (after (state_of (x / 8)) (x / 4096) 6) (after (state_of x) (x / 64) 6) in
            let ly : List ℕ = registers (after (state_of (y / 8)) (y / 4096) 6) (after (state_of y) (y / 64) 6) in
            let e : registers (after (state_of (z / 8)) (z / 4096) 6) (after (state_of z) (z / 64) 6) ≡ added lx ly =
            ap₂ registers (one_after 6 (omega arith)) (two_after 6 (omega arith)) ∙ registers_sum _ _ _ _ in
            six_then _ _ _ _ k (omega arith) ∙ ap (λ (m : List ℕ). get_or m (k - 30) 0) e ∙ added_at lx ly (k - 30) refl
            ∙ sym (ap₂ (λ (p q : ℕ). (p + q) % 2) (six_then _ _ _ _ k (omega arith)) (six_then _ _ _ _ k (omega arith))))
      ]

-- ---- numbers without a bit in common: a multiple of a power of two, and a number below that power
-- the bit c of a number depends on it modulo a higher power alone
pub bit_mod : (n c m : ℕ) → c < m → n / 2 ^ c % 2 ≡ n % 2 ^ m / 2 ^ c % 2
bit_mod n c m h =
    let e : m - c + c ≡ m = omega arith in
    let f : n % 2 ^ m / 2 ^ c ≡ n / 2 ^ c % 2 ^ (m - c) = subst (λ (k : ℕ). n % 2 ^ k / 2 ^ c ≡ n / 2 ^ c % 2 ^ (m - c)) e (field n (m - c) c) in
    let g : m - c - 1 + 1 ≡ m - c = omega arith in
    sym (ap (λ (k : ℕ). k % 2) f ∙ subst (λ (k : ℕ). n / 2 ^ c % 2 ^ k % 2 ≡ n / 2 ^ c % 2) g (mod-mod-pow (n / 2 ^ c) (m - c - 1) 1))

pub joins_apart : (m a y : ℕ) → y < 2 ^ m → Joins (a * 2 ^ m) y (a * 2 ^ m + y)
joins_apart m a y h = record {
  bit = λ c l. elim (dec_lt c m) [
    | yes k ↦ (
        let e1 : (a * 2 ^ m + y) / 2 ^ c % 2 ≡ y / 2 ^ c % 2 = bit_mod (a * 2 ^ m + y) c m k ∙ ap (λ (n : ℕ). n / 2 ^ c % 2) (low a m h) in
        let e2 : a * 2 ^ m / 2 ^ c % 2 ≡ 0 =
        bit_mod (a * 2 ^ m) c m k ∙ ap (λ (n : ℕ). n % 2 ^ m / 2 ^ c % 2) (sym (add-zero (a * 2 ^ m))) ∙ ap (λ (n : ℕ). n / 2 ^ c % 2) (low a m (pow_pos m)) ∙ zero_bit c in
        omega (arith, e1, e2))
    | no k ↦ (
        let e : m + (c - m) ≡ c = omega arith in
        let s : (n : ℕ) → n / 2 ^ c ≡ n / 2 ^ m / 2 ^ (c - m) = λ n. sym (subst (λ (j : ℕ). n / 2 ^ m / 2 ^ (c - m) ≡ n / 2 ^ j) e (shr-shr n m (c - m))) in
        let e1 : (a * 2 ^ m + y) / 2 ^ c ≡ a / 2 ^ (c - m) = s (a * 2 ^ m + y) ∙ ap (λ (n : ℕ). n / 2 ^ (c - m)) (high a m h) in
        let e2 : a * 2 ^ m / 2 ^ c ≡ a / 2 ^ (c - m) = s (a * 2 ^ m) ∙ ap (λ (n : ℕ). n / 2 ^ (c - m)) (shl-shr a m) in
        let e3 : y / 2 ^ c % 2 ≡ 0 = ap (λ (n : ℕ). n % 2) (s y ∙ ap (λ (n : ℕ). n / 2 ^ (c - m)) (ap (λ (n : ℕ). n / 2 ^ m) (sym (zero-add y) ∙ ap (λ (n : ℕ). n + y) (sym (zero-mul (2 ^ m)))) ∙ high 0 m h)) ∙ zero_bit (c - m) in
        ap (λ (n : ℕ). n % 2) e1 ∙ two (a / 2 ^ (c - m)) (y / 2 ^ c % 2) e3 ∙ ap (λ (n : ℕ). (n % 2 + y / 2 ^ c % 2) % 2) (sym e2))
  ];
}
  where
    zero_bit : (c : ℕ) → 0 / 2 ^ c % 2 ≡ 0
    zero_bit c = ap (λ (n : ℕ). n / 2 ^ c % 2) (sym (zero-mul (2 ^ c))) ∙ ap (λ (n : ℕ). n % 2) (shl-shr 0 c)

    two : (p q : ℕ) → q ≡ 0 → p % 2 ≡ (p % 2 + q) % 2
    two p q e = omega arith
