-- `ip_write::lay::fill` meets its contract: what is left of the open packet first, and the rest behind it. Assumes nothing.
use Prim.Native.Nat.{◌+◌, ◌-◌}
use mathlib.Core.Path.{refl}
use native.Mathlib.Omega.{arith}
use borrow.Author.Rules.{rules}
use Rattle.ip_queue.proofs.First.{partly}
use Rattle.ip_write.proofs.Begins.{first_runs, first_laid, first_carries, none_carries}
use Rattle.ip_write.proofs.lay.fill.Goals as goal

pub returns-then-sent-eq0 : goal.returns-then-sent-eq0
returns-then-sent-eq0 c =
    none_carries c.args.queue.now c.args.payload.now c.put_rest.new.payload c.args.sent c.put_rest.result.done c.put_rest.result.sent
    c.if-sent-eq0.true c.put_rest.ensures

pub length_at-requires : goal.length_at-requires
length_at-requires c = omega (arith, (partly c.args.queue.now c.args.sent c.requires.0 (search rules)).ends)

pub overflow_sub-left : goal.overflow_sub-left
overflow_sub-left c = omega (arith, (partly c.args.queue.now c.args.sent c.requires.0 (search rules)).high, c.length_at.ensures.0)

pub put_part-requires : goal.put_part-requires
put_part-requires c =
    let k = partly c.args.queue.now c.args.sent c.requires.0 (search rules) in
    omega (arith, k.ends, k.low, k.high, c.length_at.ensures.0, c.min.ensures)

pub returns-then-left-gt-TRANSPORT_BYTES : goal.returns-then-left-gt-TRANSPORT_BYTES
returns-then-left-gt-TRANSPORT_BYTES c =
    first_runs c.args.queue.now c.args.sent (partly c.args.queue.now c.args.sent c.requires.0 (search rules)) c.args.payload.now c.put_part.new.payload _ _
    c.requires.1 (omega (arith, c.length_at.ensures.0, c.if-left-gt-TRANSPORT_BYTES.true)) (omega arith) (omega (arith, c.min.ensures, c.if-left-gt-TRANSPORT_BYTES.true)) c.put_part.ensures

pub put_rest-requires-2 : goal.put_rest-requires-2
put_rest-requires-2 c =
    let b = c.args.sent + 4 - 2 in
    let l = c.length_at.result + 2 - c.args.sent in
    first_laid c.args.queue.now c.args.sent (partly c.args.queue.now c.args.sent c.requires.0 (search rules)) c.args.payload.now c.put_part.new.payload b l (b + l) _
    c.requires.1 (omega (arith, c.length_at.ensures.0)) (omega (arith, c.if-left-gt-TRANSPORT_BYTES.false)) (omega arith) refl
    (omega (arith, c.min.ensures, c.if-left-gt-TRANSPORT_BYTES.false)) c.put_part.ensures

pub returns : goal.returns
returns c =
    let b = c.args.sent + 4 - 2 in
    let l = c.length_at.result + 2 - c.args.sent in
    first_carries c.args.queue.now c.args.sent (partly c.args.queue.now c.args.sent c.requires.0 (search rules)) c.args.payload.now c.put_part.new.payload b l (b + l) _
    c.requires.1 (omega (arith, c.length_at.ensures.0)) (omega (arith, c.if-left-gt-TRANSPORT_BYTES.false)) (omega arith) refl
    (omega (arith, c.min.ensures, c.if-left-gt-TRANSPORT_BYTES.false)) c.put_part.ensures
    c.put_rest-2.new.payload c.put_rest-2.result.done c.put_rest-2.result.sent c.put_rest-2.ensures
