-- The rates of the 28 puncturing patterns (tables 7, 8, 11 and 13; document 01's table decides where they are damaged), and what follows from a rate.
-- Assumes nothing.
use Rattle.std.specs.Prelude.{ℕ, ◌*◌, ◌/◌, List, [], ◌∷◌, get_or}

-- a rate's numerator and denominator
pub record Rate : Type 0 where
  pub num : ℕ
  pub den : ℕ

abbrev pub over : ℕ → ℕ → Rate
over n d = record { num = n; den = d }

-- the rates by pattern number
unfoldable pub rates : List Rate
rates =
    over 1 5 ∷
    over 2 9 ∷
    over 1 4 ∷
    over 2 7 ∷
    over 3 10 ∷
    over 1 3 ∷
    over 1 3 ∷
    over 3 8 ∷
    over 3 8 ∷
    over 2 5 ∷
    over 2 5 ∷
    over 3 7 ∷
    over 3 7 ∷
    over 1 2 ∷
    over 1 2 ∷
    over 1 2 ∷
    over 3 5 ∷
    over 3 5 ∷
    over 3 5 ∷
    over 2 3 ∷
    over 2 3 ∷
    over 2 3 ∷
    over 3 4 ∷
    over 3 4 ∷
    over 3 4 ∷
    over 6 7 ∷
    over 6 7 ∷
    over 6 7 ∷ []

-- the rate of a pattern; a number above 27 names none, and has the rate 0 / 0, by which a quotient is 0
unfoldable pub rate_of : ℕ → Rate
rate_of p = get_or rates p (over 0 0)

-- the capacity units of a codeword: 6 divided by the rate; 0 where there is no such pattern
unfoldable pub units_of : ℕ → ℕ
units_of p = 6 * (rate_of p).den / (rate_of p).num
