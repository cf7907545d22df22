-- `tables::look::double` meets its contract: y of the entries behind are there. Assumes nothing.
use mathlib.Core.Path.{◌≡◌}
use mathlib.Core.List.{map}
use lib.Bits.{bit_xor}
use lib.ListN.{take}
use lib.Seq.{paste}
use Rattle.tables.proofs.look.double.Given as goal

abbrev pub invariant-loop-y : goal.invariant-loop-y
invariant-loop-y l = l.t ≡ paste l.initial.t l.n (map (λ x. bit_xor x l.g) (take l.n l.initial.t)) l.y
