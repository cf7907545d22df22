-- What the reader of a word of an IP stream answers and leaves.
-- Assumes nothing.
use Rattle.std.specs.Prelude.{ℕ, List, ◌++◌, eqb, length, drop}
use Rattle.ground.specs.Outcome.{Outcome}
use Rattle.ground.specs.Choice.{choose, first_of, refusing}
use Rattle.infoword.specs.Suffix.{kind_of}
use Rattle.fields.specs.Report.{header_of}
use Rattle.header_bytes.specs.Bytes.{header_with, header_bytes}
use Rattle.ip.specs.Packet.{Packet}
use Rattle.ip.specs.Memory.{queue, open_bytes}
use Rattle.ip_look.specs.Looking.{got_of, ip_faults}

-- packets handed out to the front of lent memory
unfoldable pub handed_to : List ℕ → List Packet → List ℕ
handed_to out ps = queue ps ++ drop (length (queue ps)) out

-- the open packet, the packets and the header: a word of type 0, 1 or 2 leaves the first two
unfoldable pub read_into : List ℕ → List ℕ → List ℕ → List ℕ → Outcome ℕ (List ℕ × List ℕ × List ℕ)
read_into w m out header =
    let g = got_of w m in
    refusing (first_of (ip_faults w m (length out) (length header)))
    (choose (eqb (kind_of w) 3)
    (open_bytes g.after, handed_to out g.packets, header_with (header_of w) (length (queue g.packets)))
    (m, out, header_bytes (header_of w)))
    (m, out, header)
