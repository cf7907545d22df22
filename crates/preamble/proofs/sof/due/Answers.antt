-- `preamble::sof::due` meets its contract: the bytes in the code are those of the definition, by computing. Assumes nothing.
use mathlib.Core.Path.{sym, ap}
use Rattle.bits.specs.Lists.{bits, num, unpack, pack}
use Rattle.preamble.specs.Preamble.{sof, inverse, sof_inverted, due}
use Rattle.preamble.proofs.sof.due.Goals as goal

pub returns-then-inverted : goal.returns-then-inverted
unfolding due sof sof_inverted inverse pack unpack bits num
returns-then-inverted c = ap due (sym c.if-inverted.true)

pub returns : goal.returns
unfolding due sof
returns c = ap due (sym c.if-inverted.false)
