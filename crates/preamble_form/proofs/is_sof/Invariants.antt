-- `preamble_form::is_sof` meets its contract: after i bytes it is known whether the first i are the preamble's. Assumes nothing.
use mathlib.Core.Path.{◌≡◌}
use lib.ListN.{take}
use Rattle.preamble.specs.Preamble.{due}
use Rattle.ground.specs.Table.{same}
use Rattle.preamble_form.proofs.is_sof.Given as goal

abbrev pub invariant-loop-i : goal.invariant-loop-i
invariant-loop-i l = l.is ≡ same (take l.i l.bytes) (take l.i (due l.inverted))
