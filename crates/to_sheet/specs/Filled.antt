-- What filling a sheet asks: a word of 96 bytes, the counts of its lists, which are within 750 bits, and room. No public promise cites it.
-- Assumes nothing.
use Rattle.std.specs.Prelude.{ℕ, ◌≤◌, ◌≡◌, List, length}
use Rattle.bits.specs.Lists.{unpack}
use Rattle.description.specs.Rules.{size}
use Rattle.description.specs.Sheet.{form1, sheet_end}
use Rattle.description.specs.Word.{p_in, s_in, d_in}

pub record Fillable (w : List ℕ) (p s d : ℕ) (out : List ℕ) : Type 0 where
  pub word : length w ≡ 96
  pub pipes : p ≡ p_in (unpack w)
  pub streams : s ≡ s_in (unpack w)
  pub sections : d ≡ d_in (unpack w)
  pub fits : size p s d ≤ 750
  pub room : sheet_end form1 p s d ≤ length out
