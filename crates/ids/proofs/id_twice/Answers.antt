-- `ids::id_twice` meets its contract. Assumes nothing.
use Rattle.std.proofs.Common.{sym, ◌-◌, arith}
use Rattle.bits.specs.Places.{fields_at}
use Rattle.bits.proofs.Places.{fields_length}
use Rattle.ids.proofs.Seen.{id_read, seen_none, seen_found, seen_more, seen_all}
use Rattle.ids.proofs.id_twice.Goals as goal

pub loop-i-init : goal.loop-i-init
loop-i-init c =
    let a = c.args in
    seen_none (fields_at a.w.now a.at 16 8 a.s) a.s (omega (arith, fields_length a.w.now a.at 16 8 a.s))

pub bounds-seen-id : goal.bounds-seen-id
bounds-seen-id c = let a = c.args in (id_read a.w.now a.at a.s (c.loop-i.i - 1) (omega arith) c.field-id.ensures).0

pub returns-then-seen-id : goal.returns-then-seen-id
returns-then-seen-id c =
    let a = c.args in
    let id = id_read a.w.now a.at a.s (c.loop-i.i - 1) (omega arith) c.field-id.ensures in
    sym (seen_found c.loop-i.invariant c.loop-i-test.true (omega (arith, fields_length a.w.now a.at 16 8 a.s)) id.1 id.0 c.if-seen-id.true)

pub bounds-seen-id-in-loop-i : goal.bounds-seen-id-in-loop-i
bounds-seen-id-in-loop-i c = let a = c.args in (id_read a.w.now a.at a.s (c.loop-i.i - 1) (omega arith) c.field-id.ensures).0

pub loop-i-preserved : goal.loop-i-preserved
loop-i-preserved c =
    let a = c.args in
    let id = id_read a.w.now a.at a.s (c.loop-i.i - 1) (omega arith) c.field-id.ensures in
    seen_more c.loop-i.invariant c.loop-i-test.true (omega (arith, fields_length a.w.now a.at 16 8 a.s)) id.1 id.0 c.if-seen-id.false

pub returns : goal.returns
returns c = sym (seen_all c.loop-i.invariant (omega arith))
