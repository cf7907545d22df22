-- `parts_put::put` meets its contract: after k numbers the sink holds just these. Assumes nothing.
use mathlib.Core.Path.{◌≡◌, sym, subst}
use native.Mathlib.Omega.{arith}
use Rattle.wide.proofs.Widens.{wide_put}
use Rattle.parts_put.proofs.Puts.{Done, done_none, done_more, done_all}
use Rattle.parts_put.proofs.put.Goals as goal

pub loop-part-init : goal.loop-part-init
loop-part-init c =
    subst (Done c.args.v.now 0 c.args.out.now) (sym c.new-s.ensures) (done_none c.args.v.now (omega arith) c.requires.1 c.args.out.now c.requires.0)

pub loop-part-preserved : goal.loop-part-preserved
loop-part-preserved c =
    done_more c.args.v.now (omega arith) c.requires.1 c.loop-part.part-index c.loop-part.out c.put49-s.new.out c.loop-part.s c.put49-s.result (omega arith) c.loop-part.invariant c.put49-s.ensures

pub returns : goal.returns
returns c =
    let d = c.loop-part.invariant in
    let e : c.loop-part.part-index ≡ 4 = omega (arith, d.most) in
    done_all c.args.v.now (omega arith) c.requires.1 c.loop-part.part-index c.loop-part.out c.put.new.out c.loop-part.s c.put.result (omega arith) d
    (wide_put 0 28 c.loop-part.out c.loop-part.s c.put.result c.put.new.out d.room (omega arith) (omega arith) (omega (arith, d.place, d.len, e)) c.put.ensures)
