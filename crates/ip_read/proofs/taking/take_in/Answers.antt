-- `ip_read::taking::take_in` meets its contract. Assumes nothing.
use native.Mathlib.Omega.{arith}
use Rattle.ip_open.proofs.Means.{means_sound}
use Rattle.ip_read.proofs.Takes.{word_in, none_accepted, none_room, none_taken, runs_taken, ends_accepted, ends_room, ends_taken}
use Rattle.ip_read.proofs.taking.take_in.Goals as goal

pub follow-requires : goal.follow-requires
follow-requires c =
    let x = word_in c.told-memory c.told-payload c.requires.0 c.requires.1 in
    (none_accepted x c.in_default.ensures, none_room x c.in_default.ensures)

pub returns-in_default : goal.returns-in_default
returns-in_default c =
    none_taken (word_in c.told-memory c.told-payload c.requires.0 c.requires.1) c.in_default.ensures c.follow.new.memory c.follow.new.packets c.follow.result c.follow.ensures

pub overflow_sub-rest : goal.overflow_sub-rest
overflow_sub-rest c = omega (arith, (means_sound c.args.memory.now c.in-Ok.o c.told-memory c.in-Ok.ensures).1)

pub go_on-requires : goal.go_on-requires
go_on-requires c =
    let k = means_sound c.args.memory.now c.in-Ok.o c.told-memory c.in-Ok.ensures in
    (k.0, omega (arith, c.if-rest-gt1504.true))

pub returns-then-rest-gt1504 : goal.returns-then-rest-gt1504
returns-then-rest-gt1504 c =
    runs_taken (word_in c.told-memory c.told-payload c.requires.0 c.requires.1) c.in-Ok.ensures c.go_on.new.memory (omega (arith, c.if-rest-gt1504.true, c.told-payload)) c.go_on.ensures

pub hand_over-requires : goal.hand_over-requires
hand_over-requires c =
    let k = means_sound c.args.memory.now c.in-Ok.o c.told-memory c.in-Ok.ensures in
    (k.0, omega (arith, k.1), omega (arith, c.if-rest-gt1504.false), omega (arith, k.0, c.requires.0))

pub overflow_add-o : goal.overflow_add-o
overflow_add-o c = omega (arith, (means_sound c.args.memory.now c.in-Ok.o c.told-memory c.in-Ok.ensures).0)

pub follow-requires-2 : goal.follow-requires-2
follow-requires-2 c =
    let x = word_in c.told-memory c.told-payload c.requires.0 c.requires.1 in
    let j = c.if-rest-gt1504.false in
    (ends_accepted x c.in-Ok.ensures (omega (arith, j, c.told-payload)), ends_room x c.in-Ok.ensures (omega (arith, j, c.told-payload)) c.hand_over.new.packets c.hand_over.ensures)

pub returns : goal.returns
returns c =
    ends_taken (word_in c.told-memory c.told-payload c.requires.0 c.requires.1) c.in-Ok.ensures (omega (arith, c.if-rest-gt1504.false, c.told-payload))
    c.follow-2.new.memory c.hand_over.new.packets c.follow-2.new.packets c.follow-2.result c.hand_over.ensures c.follow-2.ensures
