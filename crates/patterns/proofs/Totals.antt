-- Sums below a number: over two parts, of a function that repeats.
-- Assumes nothing.
use Prim.Native.Nat.{ℕ, zero, suc, ◌+◌, ◌-◌, ◌*◌, ◌≤◌, ◌<◌}
use mathlib.Core.Path.{◌≡◌, refl, sym, ap, ap₂, ◌∙◌}
use native.Mathlib.Nat.{add-zero, add-suc, add_assoc, zero-add, suc-mul, zero-mul}
use native.Mathlib.Numerals.{add-one}
use native.Mathlib.Omega.{arith}
use Rattle.patterns.specs.Sent.{total}

pub total_zero : (c : ℕ → ℕ) → total c 0 ≡ 0
unfolding total
total_zero c = refl

-- one place more
pub total_more : (c : ℕ → ℕ) (n : ℕ) → total c (n + 1) ≡ total c n + c n
unfolding total
total_more c n = rw add-one

pub total_cong : (c c' : ℕ → ℕ) (n : ℕ) → ((k : ℕ) → k < n → c k ≡ c' k) → total c n ≡ total c' n
unfolding total
total_cong c c' zero h = refl
total_cong c c' (suc n) h = ap₂ ◌+◌ (total_cong c c' n (λ k l. h k (omega arith))) (h n (omega arith))

pub total_add : (c : ℕ → ℕ) (m n : ℕ) → total c (m + n) ≡ total c m + total (λ k. c (m + k)) n
unfolding total
total_add c m zero = rw add-zero (sym (add-zero (total c m)))
total_add c m (suc n) = rw add-suc (ap (λ (x : ℕ). x + c (m + n)) (total_add c m n) ∙ add_assoc (total c m) (total (λ k. c (m + k)) n) (c (m + n)))

pub total_mono : (c : ℕ → ℕ) (m n : ℕ) → m ≤ n → total c m ≤ total c n
total_mono c m n h =
    let e : total c n ≡ total c m + total (λ k. c (m + k)) (n - m) = ap (total c) (omega arith) ∙ total_add c m (n - m) in
    omega arith

-- what repeats after p places sums by whole periods and the last, cut short
pub total_period : (c : ℕ → ℕ) (p : ℕ) → ((k : ℕ) → c (p + k) ≡ c k) → (q r : ℕ) → total c (q * p + r) ≡ q * total c p + total c r
total_period c p per zero r = rw (zero-mul, zero-mul, zero-add, zero-add)
total_period c p per (suc q) r =
    let e1 : suc q * p + r ≡ p + (q * p + r) = rw suc-mul (omega arith) in
    let e2 : total c p + (q * total c p + total c r) ≡ suc q * total c p + total c r = rw suc-mul (omega arith) in
    ap (total c) e1
    ∙ total_add c p (q * p + r)
    ∙ ap (λ (x : ℕ). total c p + x) (total_cong (λ k. c (p + k)) c (q * p + r) (λ k l. per k) ∙ total_period c p per q r)
    ∙ e2
