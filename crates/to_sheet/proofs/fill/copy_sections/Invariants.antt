-- `to_sheet::fill::copy_sections` meets its contract: after k turns the two bytes of each of k sections are copied. Assumes nothing.
use Prim.Native.Nat.{◌*◌}
use mathlib.Core.Path.{◌≡◌}
use lib.ListN.{drop}
use lib.Seq.{paste}
use Rattle.bits.specs.Lists.{unpack}
use Rattle.to_sheet.proofs.Copies.{sheet_sections}
use Rattle.to_sheet.proofs.fill.copy_sections.Given as goal

abbrev pub invariant-loop-k : goal.invariant-loop-k
invariant-loop-k l = l.out ≡ paste l.initial.out l.to (sheet_sections l.d (drop l.at (unpack l.w))) (2 * l.k)
