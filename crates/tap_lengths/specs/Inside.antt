-- What functions inside this crate ask; no public promise cites it.
-- Assumes nothing.
use Rattle.std.specs.Prelude.{ℕ, ◌+◌, ◌-◌, ◌≤◌, List, ltb, leb}
use Rattle.ground.specs.Choice.{choose}
use Rattle.tap_lengths.specs.declared.Tap.{Tap}
use Rattle.tap_lengths.specs.declared.Section.{Section}
use Rattle.tap_lengths.specs.Sections.{section_at}

-- a tap within what its numbers can hold
pub record Narrow (t : Tap) : Type 0 where
  pub short : t.len ≤ 4096
  pub near : t.next ≤ 64

-- the tap after it in its section, the first tap of the next section, and where there is none the same
abbrev pub within : Tap → Tap
within t = record { len = t.len + t.diff; left = t.left - 1; diff = t.diff; next = t.next }

abbrev pub over : Tap → Section → Tap
over t s = record { len = t.len + s.gap; left = s.taps; diff = s.diff; next = t.next + 1 }

unfoldable pub onward_of : List ℕ → ℕ → Tap → Tap
onward_of l n t = choose (ltb 1 t.left) (within t) (choose (leb n t.next) t (over t (section_at l t.next)))
