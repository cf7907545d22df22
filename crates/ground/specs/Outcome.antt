-- The form of a public function's promise: the answer and the lent memory afterwards are those that a definition gives.
-- Assumes nothing.
use Rattle.std.specs.Prelude.{◌≡◌, List, ℕ}

-- what a call gives: its answer, and what the memory that was lent to it holds afterwards (of several buffers, the tuple of them)
pub record Outcome (A M : Type 0) : Type 0 where
  pub answer : A
  pub memory : M

-- a call that answered r and left m had just this outcome
pub record Is {A M : Type 0} (want : Outcome A M) (r : A) (m : M) : Type 0 where
  pub answer : r ≡ want.answer
  pub memory : m ≡ want.memory

-- what an answer that is an enum says: document 01's number, 0 for accepted, and the values that go with it
pub record Told : Type 0 where
  pub number : ℕ
  pub values : List ℕ

-- the same outcome with the number alone, as it is handed to C
abbrev pub number_of : {M : Type 0} → Outcome Told M → Outcome ℕ M
number_of o = record { answer = o.answer.number; memory = o.memory }
