-- Our delay of a unit and the receiver's add up to the greatest.
-- Assumes nothing.
use Prim.Native.Nat.{ℕ, ◌+◌, ◌≤◌}
use mathlib.Core.Path.{◌≡◌}
use native.Mathlib.Omega.{arith}
use Rattle.slots.specs.declared.Profile.{Profile}
use Rattle.slots.specs.Disperser.{tap_delay_rec, tap_delay}

pub delays_add : (p : Profile) (k : ℕ) → tap_delay_rec p k ≤ p.greatest → tap_delay_rec p k + tap_delay p k ≡ p.greatest
unfolding tap_delay
delays_add p k h = omega arith
