-- Choice on a test, refusals in their order, and what comes of them.
-- Assumes nothing.
use Rattle.std.specs.Prelude.{ℕ, Bool, true, false, List, [], ◌∷◌, eqb}
use Rattle.ground.specs.Outcome.{Outcome, Told}

-- x where the test holds, and y where it does not
abbrev pub choose : {A : Type 0} → Bool → A → A → A
choose true x y = x
choose false x y = y

-- both tests hold
abbrev pub both : Bool → Bool → Bool
both true b = b
both false b = false

-- either test holds
abbrev pub either : Bool → Bool → Bool
either true b = true
either false b = b

-- some entry of a list passes the test
unfoldable pub any : {A : Type 0} → (A → Bool) → List A → Bool
any t [] = false
any t (x ∷ l) = either (t x) (any t l)

-- a fault that is looked for, and the number of its refusal
pub record Fault : Type 0 where
  pub number : ℕ
  pub found : Bool

-- refuse with this number where this is found
abbrev pub refuse : ℕ → Bool → Fault
refuse n b = record { number = n; found = b }

-- the number of the first fault that is found, and 0 where none is
abbrev pub first_of : List Fault → ℕ
first_of [] = 0
first_of (f ∷ l) = choose f.found f.number (first_of l)

-- a call that has this refusal: 0 leaves the new contents, any other number what was there
abbrev pub refusing : {M : Type 0} → ℕ → M → M → Outcome ℕ M
refusing n new old = record { answer = n; memory = choose (eqb n 0) new old }

-- what is told where these faults are looked for: 0 and these values, or the number of the first that is found, alone
abbrev pub verdict : List Fault → List ℕ → Told
verdict l values = choose (eqb (first_of l) 0) (record { number = 0; values = values }) (record { number = first_of l; values = [] })
