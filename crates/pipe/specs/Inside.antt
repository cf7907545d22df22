-- What functions inside this crate ask; no public promise cites it.
-- Assumes nothing.
use Rattle.std.specs.Prelude.{ℕ, ◌+◌, ◌*◌, ◌≤◌, ◌<◌, ◌≡◌, List, length}
use Rattle.mixer.specs.Mixing.{codeword_bytes}

-- what mixing a frame into the ring asks
pub record Takes (p slots : ℕ) (codewords ring : List ℕ) (at : ℕ) : Type 0 where
  pub pattern : p < 28
  pub few : slots < 1024
  pub frame : length codewords ≡ slots * codeword_bytes p
  pub room : at + slots * codeword_bytes p ≤ length ring
