-- What the private steps of both passes walk over and answer. No public promise cites it.
-- Assumes nothing.
use Rattle.std.specs.Prelude.{ℕ, List, eqb, length, drop}
use Rattle.ground.specs.Choice.{choose, both}
use Rattle.infoword.specs.Suffix.{kind_of}
use Rattle.ip.specs.Packet.{Packet}
use Rattle.ip.specs.Read.{Got, walk}
use Rattle.ip_look.specs.Looking.{got_of}

abbrev pub packet_of : ℕ → ℕ → List ℕ → Packet
packet_of t e s = record { kind = t; error = e; bytes = s }

-- what the headers from a place on give
abbrev pub walk_from : ℕ → List ℕ → Got
walk_from at l = walk 0 (drop at l)

-- the refusal of a word's packets: 19 where those of a word of type 3 are refused, by a memory and a word of their lengths
abbrev pub packets_refusal : List ℕ → List ℕ → ℕ
packets_refusal w m = choose (both (eqb (kind_of w) 3) (both (eqb (length w) 1536) (both (eqb (length m) 4104) (got_of w m).refused))) 19 0
