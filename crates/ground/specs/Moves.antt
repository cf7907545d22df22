-- Moving each of n things exactly once.
-- Assumes nothing.
use Rattle.std.specs.Prelude.{ℕ, ◌<◌, ◌≡◌}

-- f takes the numbers below n to the numbers below n, each of them exactly once: back undoes it, either way round
pub record MovesOnce (n : ℕ) (f back : ℕ → ℕ) : Type 0 where
  pub inside : (i : ℕ) → i < n → f i < n
  pub back_inside : (i : ℕ) → i < n → back i < n
  pub there : (i : ℕ) → i < n → back (f i) ≡ i
  pub again : (i : ℕ) → i < n → f (back i) ≡ i
