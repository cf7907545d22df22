-- `profile::made` meets its contract: after k places the lengths before them are those of the profile. Assumes nothing.
use Prim.Native.Nat.{ℕ, ◌<◌}
use mathlib.Core.Path.{◌≡◌}
use lib.ListN.{get_or}
use Rattle.tap_lengths.specs.Sections.{sections_at}
use Rattle.profile.specs.Lent.{lent_fields}
use Rattle.profile.proofs.Making.{tap_at}
use Rattle.profile.proofs.made.Given as goal

abbrev pub invariant-loop-k : goal.invariant-loop-k
invariant-loop-k l = (j : ℕ) → j < l.k → get_or l.tap-items j 0 ≡ tap_at (lent_fields l.pipe) (sections_at l.n l.pipe) j
