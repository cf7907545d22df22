-- `ip_look::refusal` meets its contract. Assumes nothing.
use Rattle.std.proofs.lemmas.Result.{err_from_is_err_and}
use Rattle.ground.proofs.Refusals.{number_not_0}
use Rattle.ip_look.proofs.Faults.{word_wrong, packets_wrong}
use Rattle.ip_look.proofs.refusal.Goals as goal

pub returns-in_err-own : goal.returns-in_err-own
returns-in_err-own c =
    let a = c.args in
    let p = err_from_is_err_and c.from_residual.result c.from_residual.ensures.1 in
    rw (p.1, p.2) (word_wrong a.word.now a.memory.now a.room a.header c.if-memory-ne-ROOM.false c.if-room-lt-PACKETS.false c.if-header-ne-HEADER_BYTES.false _ c.in_err-own.ensures (number_not_0 _))

pub returns : goal.returns
returns c =
    let a = c.args in
    packets_wrong a.word.now a.memory.now a.room a.header c.if-memory-ne-ROOM.false c.if-room-lt-PACKETS.false c.if-header-ne-HEADER_BYTES.false
    c.in_ok-own.ensures _ c.packets_refusal-carried.ensures
