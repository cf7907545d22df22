-- How large the counts of an accepted description can be (document 01, "Sheet" and "Signalling word").
-- Assumes nothing.
use Rattle.std.specs.Prelude.{ℕ, ◌≤◌}
use Rattle.description.specs.Sheet.{form1, sheet_end}

pub record Bounds (p s d : ℕ) : Type 0 where
  pub pipes : p ≤ 14
  pub streams : s ≤ 34
  pub sections : d ≤ 32
  pub bytes : sheet_end form1 p s d ≤ 121
