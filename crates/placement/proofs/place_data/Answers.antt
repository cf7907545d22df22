-- `placement::place_data` meets its contract. Assumes nothing.
use Prim.Native.Nat.{◌%◌}
use mathlib.Core.Path.{◌≡◌}
use native.Mathlib.Omega.{arith}
use lib.ListN.{get_or}
use Rattle.puncturing.specs.Entries.{entries}
use Rattle.placement.proofs.Groups.{placed_none, group_once, group_room, placed_group_lem}
use Rattle.placement.proofs.place_data.Goals as goal
use Rattle.placement.proofs.place_data.Goals.{then-j-eq-LAST_DATA, else-j-eq-LAST_DATA}

pub loop-i-init : goal.loop-i-init
loop-i-init c = (omega arith, placed_none c.args.pattern c.args.n c.args.values.now c.args.lane.now c.requires.room)

pub place_group-at-requires : goal.place_group-at-requires
place_group-at-requires c =
    let a = c.args in
    let l = c.loop-i in
    let counts : get_or c.entries-entries.result l.j 0 ≡ get_or (entries a.pattern) (l.i % 12) 0 = cc in (
      group_room a.pattern a.n a.values.now a.lane.now c.requires l.i _ c.loop-i-test.true counts l.lane l.at l.invariant.1,
      omega arith,
      group_once a.pattern a.n a.values.now a.lane.now c.requires l.i _ c.loop-i-test.true counts,
    )

pub loop-i-preserved : goal.loop-i-preserved
loop-i-preserved c =
    let a = c.args in
    let l = c.loop-i in
    let counts : get_or c.entries-entries.result l.j 0 ≡ get_or (entries a.pattern) (l.i % 12) 0 = cc in (
      elim c.if-j-eq-LAST_DATA.branch [ then-j-eq-LAST_DATA w ↦ omega arith | else-j-eq-LAST_DATA w ↦ omega arith ],
      placed_group_lem a.pattern a.n a.values.now a.lane.now c.requires l.i _ c.loop-i-test.true counts l.lane l.at _ _ l.invariant.1 c.place_group-at.ensures,
    )
