-- `ip_open::lost` meets its contract. Assumes nothing.
use Rattle.ip_open.proofs.Drops.{lost_refused, lost_done}
use Rattle.ip_open.proofs.lost.Goals as goal

pub returns-then-memory-ne-ROOM : goal.returns-then-memory-ne-ROOM
returns-then-memory-ne-ROOM c = lost_refused c.args.memory.now c.if-memory-ne-ROOM.true

pub returns : goal.returns
returns c = lost_done c.args.memory.now c.fill.new.self c.if-memory-ne-ROOM.false (c.fill.ensures.after (λ y e. e))
