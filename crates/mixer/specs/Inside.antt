-- What functions inside this crate ask; no public promise cites it.
-- Assumes nothing.
use Rattle.std.specs.Prelude.{ℕ, ◌≤◌, ◌<◌, List, length}

-- eight steps of an increment stay within one round of a codeword
pub record Round (inc : ℕ) (codeword : List ℕ) : Type 0 where
  pub some : 0 < length codeword
  pub within : inc ≤ length codeword
  pub most : length codeword ≤ 7680
