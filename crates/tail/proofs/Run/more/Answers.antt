-- `tail::Run::more` meets its contract. Assumes nothing.
use Prim.Native.Nat.{ℕ, suc, ◌+◌, ◌-◌, ◌*◌, ◌/◌, ◌%◌, ◌^◌, ◌≤◌, ◌<◌}
use mathlib.Core.Path.{◌≡◌, refl, sym, ap, ◌∙◌, subst}
use native.Mathlib.Nat.{add-zero, one-mul, mul-one, suc-mul, mul-le-mul_left, mul-le-mul_right, mod-lt}
use native.Mathlib.Omega.{arith}
use lib.Pow.{pow-add, pow_pos, pow_mono, low, mod-pow-add}
use Rattle.tail.proofs.Run.more.Goals as goal

-- a power of two up to 128
power : (t : ℕ) → t < 8 → (1 * 2 ^ t % 18446744073709551616 ≡ 2 ^ t) × (2 ^ t ≤ 128) × (0 < 2 ^ t)
power t h =
    let l : 2 ^ t ≤ 128 = pow_mono {i = t} {j = 7} (omega arith) in
    let o : 1 * 2 ^ t ≡ 2 ^ t = one-mul (2 ^ t) in
    (omega (arith, o, l), l, pow_pos t)

-- copies of a symbol
ones : (t x : ℕ) → t < 8 → x < 2 → (1 * 2 ^ t % 18446744073709551616 - 1) * x ≤ 2 ^ t - 1
ones t x h k =
    let e : 1 * 2 ^ t % 18446744073709551616 - 1 ≡ 2 ^ t - 1 = ap (λ (y : ℕ). y - 1) (power t h).0 in
    let m : (2 ^ t - 1) * x ≤ (2 ^ t - 1) * 1 = mul-le-mul_left (2 ^ t - 1) (omega arith) in
    omega (arith, ap (λ (y : ℕ). y * x) e, m, mul-one (2 ^ t - 1))

-- room for them: what is shifted ends in so many zeros
room : (v t : ℕ) → t < 8 → v * 2 ^ t % 18446744073709551616 + 2 ^ t ≤ 18446744073709551616
room v t h =
    let q : ℕ = v * 2 ^ t / 2 ^ t % 2 ^ (64 - t) in
    let e : 64 - t + t ≡ 64 = omega arith in
    let z : v * 2 ^ t % 2 ^ t ≡ 0 = ap (λ (n : ℕ). n % 2 ^ t) (sym (add-zero (v * 2 ^ t))) ∙ low v t (pow_pos t) in
    let p : v * 2 ^ t % 2 ^ 64 ≡ q * 2 ^ t + v * 2 ^ t % 2 ^ t = subst (λ (n : ℕ). v * 2 ^ t % 2 ^ n ≡ q * 2 ^ t + v * 2 ^ t % 2 ^ t) e (mod-pow-add (v * 2 ^ t) (64 - t) t) in
    let l : suc q * 2 ^ t ≤ 2 ^ (64 - t) * 2 ^ t = mul-le-mul_right (2 ^ t) (mod-lt (v * 2 ^ t / 2 ^ t) (pow_pos (64 - t))) in
    let w : 2 ^ (64 - t) * 2 ^ t ≡ 2 ^ 64 = sym (pow-add 2 (64 - t) t) ∙ ap (λ (n : ℕ). 2 ^ n) e in
    omega (arith, p, z, l, w, suc-mul q (2 ^ t))

pub overflow_add-result : goal.overflow_add-result
overflow_add-result c =
    let p = c.requires in
    let a = c.args in
    record { fits = omega (arith, ones a.times a.symbol p.1 p.0, room a.self.value a.times p.1, pow_pos a.times) }

pub returns : goal.returns
returns c =
    let a = c.args in
    let p = c.requires in
    let o = ones a.times a.symbol p.1 p.0 in
    let e : (1 * 2 ^ a.times % 18446744073709551616 - 1) * a.symbol ≡ (2 ^ a.times - 1) * a.symbol = ap (λ (y : ℕ). (y - 1) * a.symbol) (power a.times p.1).0 in
    (sums (a.self.value * 2 ^ a.times) _ _ e (omega (arith, o, room a.self.value a.times p.1, pow_pos a.times)), refl)
  where
    sums : (x y z : ℕ) → y ≡ z → x % 18446744073709551616 + y < 18446744073709551616 → x % 18446744073709551616 + y ≡ (x + z) % 18446744073709551616
    sums x y z e h = omega arith
