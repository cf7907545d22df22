-- The packets of a queue by their places in it: type, error, length (two bytes), data.
-- Assumes nothing.
use Rattle.std.specs.Prelude.{ℕ, ◌+◌, ◌*◌, List, eqb, get_or, take, drop}
use Rattle.ground.specs.Choice.{choose}
use Rattle.ip.specs.Packet.{Packet}
use Rattle.ip.specs.Memory.{Queue, queue_in}

-- what the queue holds from a place on
abbrev pub queue_at : List ℕ → ℕ → Queue
queue_at q at = queue_in 0 (drop at q)

-- the packet at a place: how long it is, and all of it
abbrev pub length_at : List ℕ → ℕ → ℕ
length_at q at = get_or q (at + 2) 0 * 256 + get_or q (at + 3) 0

abbrev pub packet_at : List ℕ → ℕ → Packet
packet_at q at = record { kind = get_or q at 0; error = choose (eqb (get_or q (at + 1) 0) 0) 0 1; bytes = take (length_at q at) (drop (at + 4) q) }
