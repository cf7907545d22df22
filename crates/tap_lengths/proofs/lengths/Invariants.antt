-- `tap_lengths::lengths` meets its contract: after k taps the walk stands at tap k. Assumes nothing.
use Prim.Native.Nat.{ℕ, ◌<◌}
use mathlib.Core.Path.{◌≡◌}
use lib.ListN.{get_or}
use Rattle.tap_lengths.specs.Lengths.{intermed_len}
use Rattle.tap_lengths.specs.Sections.{sections_at}
use Rattle.tap_lengths.proofs.Walking.{Walks}
use Rattle.tap_lengths.proofs.lengths.Given as goal

abbrev pub invariant-loop-len : goal.invariant-loop-len
invariant-loop-len l = ((j : ℕ) → j < l.len-index → get_or l.len-items j 0 ≡ intermed_len (sections_at l.n l.pipe) j) × Walks (sections_at l.n l.pipe) l.len-index l.t
