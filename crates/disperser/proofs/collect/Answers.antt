-- `disperser::collect` meets its contract: after j units the frame's bytes before them are those of the ring. Assumes nothing.
use Prim.Native.Nat.{ℕ, ◌+◌, ◌-◌, ◌*◌, ◌%◌, ◌≤◌, ◌<◌}
use mathlib.Core.Path.{◌≡◌, sym, ap, ◌∙◌, subst}
use mathlib.Core.List.{List}
use native.Mathlib.Omega.{arith}
use lib.ListN.{length, get_or, take, drop}
use Rattle.ground.proofs.Table.{tab_ext}
use Rattle.slots.specs.Slots.{frame_units, frame_bytes}
use Rattle.slots.specs.Collector.{slot_at, unit_at, unit_for}
use Rattle.slots.specs.declared.Way.{Way}
use Rattle.disperser.specs.Inside.{Gathers}
use Rattle.slots.specs.Ring.{depth, byte_from}
use Rattle.slots.proofs.Collecting.{unit_for_is, unit_for_less}
use Rattle.disperser.proofs.Reading.{unit_room, stretch_length, stretch_byte, unit_more, ring_most, delay_less, byte_is}
use Rattle.disperser.proofs.collect.Goals as goal

-- a turn of the loop
module _ (y : Way) (delays : List ℕ) (f : ℕ) (ring out : List ℕ) (r : Gathers y delays f ring out) (j : ℕ) (inside : j < frame_units y) (at : ℕ) (is : at ≡ unit_for y.regrouping y.slots y.units j) where
  -- the unit that is read
  at_is : at ≡ slot_at y j * y.units + unit_at y j
  at_is = is ∙ unit_for_is y j inside

  -- its delay
  soon : get_or delays (at % y.units % 32) 0 < depth y
  soon = delay_less y delays f ring out r j inside at at_is

  -- where it stands is inside the ring, and no number on the way is too great
  inside_ring : (row : ℕ) → row < depth y → ((row * frame_units y + at) * 64 + 64 ≤ length ring) × (length ring ≤ 70368744177664)
  inside_ring row below =
      let less : at < frame_units y = subst (λ (z : ℕ). z < frame_units y) (sym is) (unit_for_less y j inside) in
      (unit_room y j inside at at_is ring row r.whole below less, ring_most y delays f ring out r)

pub row_back-row-requires : goal.row_back-row-requires
row_back-row-requires c =
    let a = c.args in
    (soon a.y.now a.delays.now a.f a.ring.now a.out.now c.requires c.loop-j.j c.loop-j-test.true c.unit_for-at.result c.unit_for-at.ensures, omega (arith, c.requires.shallow), c.requires.number)

pub overflow_add-from : goal.overflow_add-from
overflow_add-from c =
    let a = c.args in
    omega (arith, inside_ring a.y.now a.delays.now a.f a.ring.now a.out.now c.requires c.loop-j.j c.loop-j-test.true c.unit_for-at.result c.unit_for-at.ensures c.row_back-row.result c.row_back-row.ensures.1)

pub overflow_mul-from-in-loop-j : goal.overflow_mul-from-in-loop-j
overflow_mul-from-in-loop-j c =
    let a = c.args in
    omega (arith, inside_ring a.y.now a.delays.now a.f a.ring.now a.out.now c.requires c.loop-j.j c.loop-j-test.true c.unit_for-at.result c.unit_for-at.ensures c.row_back-row.result c.row_back-row.ensures.1)

pub overflow_add-from-in-loop-j : goal.overflow_add-from-in-loop-j
overflow_add-from-in-loop-j c =
    let a = c.args in
    omega (arith, inside_ring a.y.now a.delays.now a.f a.ring.now a.out.now c.requires c.loop-j.j c.loop-j-test.true c.unit_for-at.result c.unit_for-at.ensures c.row_back-row.result c.row_back-row.ensures.1)

pub slice_bounds-copy-end : goal.slice_bounds-copy-end
slice_bounds-copy-end c =
    let a = c.args in
    omega (arith, inside_ring a.y.now a.delays.now a.f a.ring.now a.out.now c.requires c.loop-j.j c.loop-j-test.true c.unit_for-at.result c.unit_for-at.ensures c.row_back-row.result c.row_back-row.ensures.1)

pub loop-j-preserved : goal.loop-j-preserved
loop-j-preserved c =
    let l = c.loop-j in
    let a = c.args in
    let y = a.y.now in
    let at = c.unit_for-at.result in
    let row = c.row_back-row.result in
    let from : ℕ = (row * frame_units y + at) * 64 in
    let run : List ℕ = take (from + 64 - from) (drop from a.ring.now) in
    let held = inside_ring y a.delays.now a.f a.ring.now a.out.now c.requires l.j c.loop-j-test.true at c.unit_for-at.ensures row c.row_back-row.ensures.1 in
    let is = at_is y a.delays.now a.f a.ring.now a.out.now c.requires l.j c.loop-j-test.true at c.unit_for-at.ensures in
    λ q h. ap (λ (x : List ℕ). get_or x q 0) c.copy.ensures
    ∙ unit_more (byte_from y a.f a.ring.now) l.out run l.j (stretch_length a.ring.now from held.0) (omega (arith, c.requires.room)) l.invariant
    (λ i h. stretch_byte a.ring.now from held.0 i h ∙ byte_is y a.delays.now a.f a.ring.now a.out.now c.requires l.j c.loop-j-test.true at is row c.row_back-row.ensures.0 i h) q h

pub returns : goal.returns
returns c =
    let a = c.args in
    tab_ext (byte_from a.y.now a.f a.ring.now) 0 (frame_bytes a.y.now) c.loop-j.out (omega (arith, c.requires.room)) (λ q h. c.loop-j.invariant q (omega arith))
