-- What is looked at of a word of an IP stream: what it gives to the packet that is open, and the documents' refusals in their order.
-- Assumes nothing.
use Rattle.std.specs.Prelude.{ℕ, not, List, [], ◌∷◌, ◌++◌, eqb, ltb, length, take}
use Rattle.ground.specs.Choice.{both, Fault, refuse}
use Rattle.infoword.specs.Suffix.{address_of, kind_of}
use Rattle.fields.specs.Report.{read_faults}
use Rattle.ip.specs.Read.{Got, reading}
use Rattle.ip.specs.Memory.{open_in}

-- what a word of type 3 gives to the packet that is open in the lent memory
unfoldable pub got_of : List ℕ → List ℕ → Got
got_of w m = reading (open_in m) (address_of w) (take 1504 w)

-- 1 of the other lengths; "Payload read"; 19
abbrev pub ip_faults : List ℕ → List ℕ → ℕ → ℕ → List Fault
ip_faults w m room header =
    refuse 1 (not (eqb (length m) 4104)) ∷
    refuse 1 (ltb room 6604) ∷
    refuse 1 (not (eqb header 16)) ∷
    (read_faults w ++ (refuse 19 (both (eqb (kind_of w) 3) (got_of w m).refused) ∷ []))
