-- What is read of the header of a packet in an IP stream (table 6).
-- Assumes nothing.
use Rattle.std.specs.Prelude.{ℕ}
use Rattle.ip.specs.Packet.{kind_in, error_in, length_in}
use Rattle.ip_head.specs.declared.Head.{Head}

-- what its two bytes show
unfoldable pub head_in : ℕ → ℕ → Head
head_in a b = record { kind = kind_in a b; error = error_in a b; length = length_in a b }
