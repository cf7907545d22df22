-- The collector moves each unit of a frame exactly once, in either mode.
-- Assumes nothing.
use Prim.Native.Nat.{ℕ, ◌+◌, ◌*◌, ◌/◌, ◌%◌, ◌<◌}
use mathlib.Core.Path.{◌≡◌}
use mathlib.Core.Bool.{Bool, true, false}
use native.Mathlib.Nat.{div-add-mod'}
use lib.Dec.{eqb}
use Rattle.ground.specs.Choice.{choose}
use Rattle.slots.specs.Collector.{place_of, slot_at, unit_at}
use Rattle.slots.specs.Wanted.{CollectedOnce}
use Rattle.slots.proofs.Places.{col_of, row_of, in_table, col_in, row_in, turn}

module _ (m n : ℕ) where
  place_in : (t : Bool) (w k : ℕ) → w < m → k < n → choose t (w * n + k) (k * m + w) < m * n
  place_in true w k h g = in_table w k m n h g
  place_in false w k h g = turn (k * m + w) n m (in_table k w n m g h)

  slot_in : (t : Bool) (j : ℕ) → j < m * n → choose t (j / n) (j % m) < m
  slot_in true j h = row_in j m n h
  slot_in false j h = col_in j n m (turn j m n h)

  unit_in : (t : Bool) (j : ℕ) → j < m * n → choose t (j % n) (j / m) < n
  unit_in true j h = col_in j m n h
  unit_in false j h = row_in j n m (turn j m n h)

  slot_of : (t : Bool) (w k : ℕ) → w < m → k < n → choose t (choose t (w * n + k) (k * m + w) / n) (choose t (w * n + k) (k * m + w) % m) ≡ w
  slot_of true w k h g = row_of w k n g
  slot_of false w k h g = col_of k w m h

  unit_of_lem : (t : Bool) (w k : ℕ) → w < m → k < n → choose t (choose t (w * n + k) (k * m + w) % n) (choose t (w * n + k) (k * m + w) / m) ≡ k
  unit_of_lem true w k h g = col_of w k n g
  unit_of_lem false w k h g = row_of k w m h

  place_again : (t : Bool) (j : ℕ) → choose t (choose t (j / n) (j % m) * n + choose t (j % n) (j / m)) (choose t (j % n) (j / m) * m + choose t (j / n) (j % m)) ≡ j
  place_again true j = div-add-mod' j n
  place_again false j = div-add-mod' j m

pub collected_once : CollectedOnce
unfolding place_of slot_at unit_at
collected_once y =
    let t : Bool = eqb y.regrouping 0 in
    record {
      inside = place_in y.slots y.units t;
      slot_inside = slot_in y.slots y.units t;
      unit_inside = unit_in y.slots y.units t;
      slot_back = slot_of y.slots y.units t;
      unit_back = unit_of_lem y.slots y.units t;
      again = λ j h. place_again y.slots y.units t j;
    }
