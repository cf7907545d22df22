-- Laws of places in a table of m rows of n, and of remainders.
-- Assumes nothing.
use Prim.Native.Nat.{ℕ, zero, suc, ◌+◌, ◌*◌, ◌/◌, ◌%◌, ◌≤◌, ◌<◌}
use mathlib.Core.Path.{◌≡◌, ap, ◌∙◌, subst}
use native.Mathlib.Nat.{mod-lt, mod-eq_of_lt, div-eq_of_lt, div-add-mod', mul-add-mod_self_right, mul-add-div_right, suc-mul, mul-zero, add-zero, mul-le-mul_right, not-suc-le-zero, mul_comm}
use native.Mathlib.Decide.{dec_lt}
use native.Mathlib.Omega.{arith}

pub col_of : (a b n : ℕ) → b < n → (a * n + b) % n ≡ b
col_of a b n h = mul-add-mod_self_right a n b ∙ mod-eq_of_lt h

pub row_of : (a b n : ℕ) → b < n → (a * n + b) / n ≡ a
row_of a b n h =
    let p : 0 < n = omega arith in
    mul-add-div_right p a b ∙ ap (λ (z : ℕ). a + z) (div-eq_of_lt h) ∙ add-zero a

pub in_table : (a b m n : ℕ) → a < m → b < n → a * n + b < m * n
in_table a b m n h k =
    let x : suc a * n ≤ m * n = mul-le-mul_right n h in
    let e : suc a * n ≡ a * n + n = suc-mul a n in
    omega arith

-- a table that has a place has columns
pub some : (j m n : ℕ) → j < m * n → 0 < n
some j m zero h = absurd (not-suc-le-zero (subst (λ (z : ℕ). j < z) (mul-zero m) h))
some j m (suc n) h = omega arith

pub col_in : (j m n : ℕ) → j < m * n → j % n < n
col_in j m n h = mod-lt j (some j m n h)

pub row_in : (j m n : ℕ) → j < m * n → j / n < m
row_in j m n h =
    elim (dec_lt (j / n) m) [
      | yes l ↦ l
      | no l ↦ (
          let g : m ≤ j / n = omega arith in
          let x : m * n ≤ j / n * n = mul-le-mul_right n g in
          let e : j / n * n + j % n ≡ j = div-add-mod' j n in
          absurd (omega arith))
    ]

-- m rows of n places are n rows of m
pub turn : (j m n : ℕ) → j < m * n → j < n * m
turn j m n h = subst (λ (z : ℕ). j < z) (mul_comm m n) h

-- and a place among these read as one of those
pub across : (j m n : ℕ) → j < m * n → (0 < m) × (j % m * n + j / m < m * n)
across j m n h =
    let t : j < n * m = turn j m n h in
    (some j n m t, in_table (j % m) (j / m) m n (col_in j n m t) (row_in j n m t))

-- two numbers less than d apart have different remainders
pub apart : (g f d : ℕ) → g < f → f < g + d → g % d ≡ f % d → ⊥
apart g f d h k e =
    let x : f / d * d + f % d ≡ f = div-add-mod' f d in
    let y : g / d * d + g % d ≡ g = div-add-mod' g d in
    elim (dec_lt (g / d) (f / d)) [
      | yes l ↦ (
          let m : suc (g / d) * d ≤ f / d * d = mul-le-mul_right d l in
          let n : suc (g / d) * d ≡ g / d * d + d = suc-mul (g / d) d in
          omega arith)
      | no l ↦ (
          let q : f / d ≤ g / d = omega arith in
          let m : f / d * d ≤ g / d * d = mul-le-mul_right d q in
          omega arith)
    ]
