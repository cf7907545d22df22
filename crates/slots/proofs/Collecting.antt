-- The unit that the collector reads for a place, as one number.
-- Assumes nothing.
use Prim.Native.Nat.{ℕ, ◌+◌, ◌*◌, ◌/◌, ◌%◌, ◌<◌}
use mathlib.Core.Path.{◌≡◌, refl, sym, ◌∙◌, subst}
use mathlib.Core.Bool.{Bool, true, false}
use native.Mathlib.Nat.{div-add-mod'}
use native.Mathlib.Omega.{arith}
use borrow.Author.Tests.{ne_eqb}
use lib.Dec.{eqb}
use Rattle.ground.specs.Choice.{choose}
use Rattle.ground.proofs.Choice.{choose_true, choose_false, hit, skip}
use Rattle.slots.specs.declared.Way.{Way}
use Rattle.slots.specs.Slots.{frame_units}
use Rattle.slots.specs.Collector.{slot_at, unit_at, unit_for}
use Rattle.slots.proofs.Places.{in_table, across}
use Rattle.slots.proofs.Collector.{collected_once}

-- inside a frame it is the unit of the slot that the collector reads
module _ (y : Way) (j : ℕ) (h : j < frame_units y) where
  by_mode : (t : Bool) → eqb y.regrouping 0 ≡ t
      → unit_for y.regrouping y.slots y.units j ≡ choose t (j / y.units) (j % y.slots) * y.units + choose t (j % y.units) (j / y.slots)
  unfolding unit_for
  by_mode true e = choose_true _ _ (hit (eqb y.slots 0) e) ∙ sym (div-add-mod' j y.units)
  by_mode false e =
      let p : 0 < y.slots = (across j y.slots y.units h).0 in
      choose_false _ _ (skip e (ne_eqb y.slots 0 (λ z. omega arith)))

  pub unit_for_is : unit_for y.regrouping y.slots y.units j ≡ slot_at y j * y.units + unit_at y j
  unfolding slot_at unit_at
  unit_for_is = by_mode (eqb y.regrouping 0) refl

  pub unit_for_less : unit_for y.regrouping y.slots y.units j < frame_units y
  unit_for_less =
      subst (λ (z : ℕ). z < frame_units y) (sym unit_for_is)
      (in_table (slot_at y j) (unit_at y j) y.slots y.units ((collected_once y).slot_inside j h) ((collected_once y).unit_inside j h))
