-- Laws of division: multiples are closed under sums and under x^k, a remainder is unique, and long division gives it.
-- Assumes nothing.
use Prim.Native.Nat.{ℕ, zero, suc, ◌+◌, ◌-◌, ◌*◌, ◌/◌, ◌%◌, ◌^◌, ◌≤◌, ◌<◌}
use mathlib.Core.Path.{◌≡◌, refl, sym, ap, ap₂, ◌∙◌, subst}
use mathlib.Core.List.{List, [], ◌∷◌}
use native.Mathlib.Nat.{zero-mul, one-mul, add-zero, zero-add, mul-one, mul_assoc, mul_comm, add-mul, add_assoc, pow-suc, suc-mul, mod-lt}
use native.Mathlib.Decide.{dec_lt}
use native.Mathlib.Omega.{arith}
use lib.Bits.{bit_xor, xor_zero_l, xor_zero_r, xor_comm, xor_self, xor_block, xor_lt}
use lib.Pow.{pow_pos, split}
use lib.ListN.{length}
use borrow.Author.Tests.{le-ltb, lt-ltb}
use Rattle.bits.specs.Lists.{num, Below}
use Rattle.bits.proofs.Lists.{num_lt}
use Rattle.bits.proofs.Sums.{xor_twice, xor_between, xor_swap, xor_zero, xor_scale, xor_front, xor_times}
use Rattle.parity.specs.Division.{times, Multiple, Remainder, reduce, divide}

-- the sum of two quotients
plus : List ℕ → List ℕ → List ℕ
plus [] q = q
plus (a ∷ p) [] = a ∷ p
plus (a ∷ p) (b ∷ q) = (a + b) ∷ plus p q

times_plus : (p q : List ℕ) (g : ℕ) → times (plus p q) g ≡ bit_xor (times p g) (times q g)
unfolding times plus
times_plus [] q g = sym (xor_zero_l (times q g))
times_plus (a ∷ p) [] g = sym (xor_zero_r (times (a ∷ p) g))
times_plus (a ∷ p) (b ∷ q) g =
    ap₂ (λ (x y : ℕ). bit_xor x (y * 2)) (xor_times a b g) (times_plus p q g)
    ∙ ap (bit_xor (bit_xor (a % 2 * g) (b % 2 * g))) (sym (xor_scale 1 (times p g) (times q g)))
    ∙ xor_swap (a % 2 * g) (b % 2 * g) (times p g * 2) (times q g * 2)

pub multiple_none : (g : ℕ) → Multiple g 0
unfolding times
multiple_none g = record { quotient = []; product = refl }

pub multiple_self : (g : ℕ) → Multiple g g
unfolding times
multiple_self g = record { quotient = 1 ∷ []; product = sym (ap₂ bit_xor (one-mul g) (zero-mul 2) ∙ xor_zero_r g) }

pub multiple_sum : {g a b : ℕ} → Multiple g a → Multiple g b → Multiple g (bit_xor a b)
multiple_sum {g} m n =
    record { quotient = plus m.quotient n.quotient; product = ap₂ bit_xor m.product n.product ∙ sym (times_plus m.quotient n.quotient g) }

pub multiple_is : {g a : ℕ} (b : ℕ) → Multiple g a → a ≡ b → Multiple g b
multiple_is b m e = record { quotient = m.quotient; product = sym e ∙ m.product }

multiple_double : {g a : ℕ} → Multiple g a → Multiple g (a * 2)
unfolding times
multiple_double {g} m =
    record {
      quotient = 0 ∷ m.quotient;
      product = ap (λ (x : ℕ). x * 2) m.product ∙ sym (ap (λ (x : ℕ). bit_xor x (times m.quotient g * 2)) (zero-mul g) ∙ xor_zero_l (times m.quotient g * 2));
    }

pub multiple_scale : {g a : ℕ} (k : ℕ) → Multiple g a → Multiple g (a * 2 ^ k)
multiple_scale {g} {a} zero m = multiple_is (a * 2 ^ 0) m (sym (mul-one a))
multiple_scale {g} {a} (suc k) m =
    multiple_is (a * 2 ^ suc k) (multiple_double (multiple_scale k m)) (mul_assoc a (2 ^ k) 2 ∙ ap (λ (x : ℕ). a * x) (sym (pow-suc 2 k)))

module _ (n g : ℕ) (least : 2 ^ n ≤ g) (most : g < 2 ^ suc n) where
  -- a multiple is 0, or has a degree of n at least
  data Either (p : ℕ) : Type 0 where
    none : p ≡ 0 → Either p
    large : 2 ^ n ≤ p → Either p

  degree : (q : List ℕ) → Either (times q g)
  unfolding times
  degree [] = none refl
  degree (b ∷ q) = elim (degree q) [ none e ↦ low_end (b % 2) e (omega arith) | large h ↦ large (high_end (b % 2) (times q g) h (omega arith)) ]
    where
      low_end : (c : ℕ) → times q g ≡ 0 → c < 2 → Either (bit_xor (c * g) (times q g * 2))
      low_end zero e h = none (ap₂ bit_xor (zero-mul g) (ap (λ (x : ℕ). x * 2) e) ∙ refl)
      low_end (suc zero) e h = large (subst (λ (x : ℕ). 2 ^ n ≤ x) (sym (ap₂ bit_xor (one-mul g) (ap (λ (x : ℕ). x * 2) e) ∙ xor_zero_r g)) least)
      low_end (suc (suc c)) e h = absurd (omega arith)

      small : (c : ℕ) → c < 2 → c * g < 2 ^ suc n
      small zero h = subst (λ (x : ℕ). x < 2 ^ suc n) (sym (zero-mul g)) (pow_pos (suc n))
      small (suc zero) h = subst (λ (x : ℕ). x < 2 ^ suc n) (sym (one-mul g)) most
      small (suc (suc c)) h = absurd (omega arith)

      high_end : (c t : ℕ) → 2 ^ n ≤ t → c < 2 → 2 ^ n ≤ bit_xor (c * g) (t * 2)
      high_end c t h k = go (t * 2 / 2 ^ suc n) (t * 2 % 2 ^ suc n) (sym (split (t * 2) (suc n))) (mod-lt (t * 2) (pow_pos (suc n)))
        where
          go : (q s : ℕ) → t * 2 ≡ q * 2 ^ suc n + s → s < 2 ^ suc n → 2 ^ n ≤ bit_xor (c * g) (t * 2)
          go zero s e l =
              let z : 0 * 2 ^ suc n ≡ 0 = zero-mul (2 ^ suc n) in
              absurd (omega (arith, e, pow-suc 2 n))
          go (suc q) s e l =
              let x : bit_xor (c * g) (t * 2) ≡ suc q * 2 ^ suc n + bit_xor (c * g) s =
              ap₂ bit_xor (sym (zero-add (c * g)) ∙ ap (λ (y : ℕ). y + c * g) (sym (zero-mul (2 ^ suc n)))) e
              ∙ xor_block (suc n) 0 (suc q) (c * g) s (small c k) l in
              let m : suc q * 2 ^ suc n ≡ q * 2 ^ suc n + 2 ^ suc n = suc-mul q (2 ^ suc n) in
              omega (arith, pow-suc 2 n)

  small_multiple : {p : ℕ} → Multiple g p → p < 2 ^ n → p ≡ 0
  small_multiple {p} m h =
      elim (degree m.quotient) [ none e ↦ m.product ∙ e | large k ↦ absurd (omega (arith, m.product)) ]

  -- a remainder is unique
  pub unique : {p r s : ℕ} → Remainder n g p r → Remainder n g p s → r ≡ s
  unique {p} {r} {s} a b =
      xor_zero r s
      (small_multiple
      (multiple_is (bit_xor r s) (multiple_sum a.multiple b.multiple) (ap (λ (x : ℕ). bit_xor x (bit_xor p s)) (xor_comm p r) ∙ xor_between r s p))
      (xor_lt n r s a.small b.small))

  reduce_lt : (p : ℕ) → p < 2 ^ suc n → reduce n g p < 2 ^ n
  unfolding reduce
  reduce_lt p h =
      elim (dec_lt p (2 ^ n)) [
        | yes l ↦ rw (lt-ltb p (2 ^ n) l) l
        | no l ↦ rw (le-ltb p (2 ^ n) (omega arith)) (less (omega arith))
      ]
    where
      less : 2 ^ n ≤ p → bit_xor p g < 2 ^ n
      less k =
          let a : p ≡ 1 * 2 ^ n + (p - 2 ^ n) = omega arith in
          let b : g ≡ 1 * 2 ^ n + (g - 2 ^ n) = omega arith in
          let t : 2 ^ suc n ≡ 2 ^ n * 2 = pow-suc 2 n in
          let s : p - 2 ^ n < 2 ^ n = omega arith in
          let u : g - 2 ^ n < 2 ^ n = omega arith in
          let e : bit_xor p g ≡ bit_xor (p - 2 ^ n) (g - 2 ^ n) =
          ap₂ bit_xor a b ∙ xor_block n 1 1 (p - 2 ^ n) (g - 2 ^ n) s u
          ∙ ap (λ (x : ℕ). x + bit_xor (p - 2 ^ n) (g - 2 ^ n)) (zero-mul (2 ^ n)) ∙ zero-add (bit_xor (p - 2 ^ n) (g - 2 ^ n)) in
          subst (λ (x : ℕ). x < 2 ^ n) (sym e) (xor_lt n (p - 2 ^ n) (g - 2 ^ n) s u)

  reduce_multiple : (p : ℕ) → Multiple g (bit_xor p (reduce n g p))
  unfolding reduce
  reduce_multiple p =
      elim (dec_lt p (2 ^ n)) [
        | yes l ↦ rw (lt-ltb p (2 ^ n) l) (multiple_is (bit_xor p p) (multiple_none g) (sym (xor_self p)))
        | no l ↦ rw (le-ltb p (2 ^ n) (omega arith)) (multiple_is (bit_xor p (bit_xor p g)) (multiple_self g) (sym (xor_twice p g)))
      ]

  -- long division gives the remainder
  pub divide_remainder : (r : ℕ) (l : List ℕ) → r < 2 ^ n → Below 2 l → Remainder n g (r * 2 ^ length l + num l) (divide n g r l)
  unfolding divide num
  divide_remainder r [] h w =
      record { small = h; multiple = multiple_is (bit_xor (r * 2 ^ 0 + 0) r) (multiple_none g) (sym (ap (λ (x : ℕ). bit_xor x r) (add-zero (r * 2 ^ 0) ∙ mul-one r) ∙ xor_self r)) }
  divide_remainder r (b ∷ l) h w =
      let k : ℕ = length l in
      let p : ℕ = r * 2 + b in
      let lt : p < 2 ^ suc n = rw (pow-suc 2 n) (omega (arith, w.0)) in
      let s : ℕ = reduce n g p in
      let ih : Remainder n g (s * 2 ^ k + num l) (divide n g s l) = divide_remainder s l (reduce_lt p lt) w.1 in
      let front : Multiple g (bit_xor (p * 2 ^ k + num l) (s * 2 ^ k + num l)) =
      multiple_is (bit_xor (p * 2 ^ k + num l) (s * 2 ^ k + num l)) (multiple_scale k (reduce_multiple p)) (sym (xor_front k p s (num l) (num_lt l w.1))) in
      let e : p * 2 ^ k + num l ≡ r * 2 ^ suc k + (b * 2 ^ k + num l) =
      ap (λ (x : ℕ). x + num l) (add-mul (r * 2) b (2 ^ k) ∙ ap (λ (x : ℕ). x + b * 2 ^ k) (mul_assoc r 2 (2 ^ k) ∙ ap (λ (x : ℕ). r * x) (mul_comm 2 (2 ^ k) ∙ sym (pow-suc 2 k))))
      ∙ add_assoc (r * 2 ^ suc k) (b * 2 ^ k) (num l) in
      record {
        small = ih.small;
        multiple = subst (λ (x : ℕ). Multiple g (bit_xor x (divide n g s l))) e
            (multiple_is (bit_xor (p * 2 ^ k + num l) (divide n g s l)) (multiple_sum front ih.multiple) (xor_between (p * 2 ^ k + num l) (divide n g s l) (s * 2 ^ k + num l)));
      }
