-- `pairs::unpack` meets its contract. Assumes nothing.
use mathlib.Core.Path.{sym, ◌∙◌}
use Rattle.pairs.proofs.Copying.{unpacked_long, unpacked_short, unpacked_none}
use Rattle.pairs.proofs.unpack.Goals as goal

pub returns-then-d-eq-PAYLOAD_PAIRS : goal.returns-then-d-eq-PAYLOAD_PAIRS
returns-then-d-eq-PAYLOAD_PAIRS c = let a = c.args in c.unpack_by.ensures ∙ sym (unpacked_long a.word.now a.d.now c.if-d-eq-PAYLOAD_PAIRS.true)

pub returns-then-d-eq-SIGNALLING_PAIRS : goal.returns-then-d-eq-SIGNALLING_PAIRS
returns-then-d-eq-SIGNALLING_PAIRS c =
    let a = c.args in c.unpack_by-then-d-eq-SIGNALLING_PAIRS.ensures ∙ sym (unpacked_short a.word.now a.d.now c.if-d-eq-SIGNALLING_PAIRS.true)

pub returns-else-d-eq-SIGNALLING_PAIRS : goal.returns-else-d-eq-SIGNALLING_PAIRS
returns-else-d-eq-SIGNALLING_PAIRS c = let a = c.args in sym (unpacked_none a.word.now a.d.now c.if-d-eq-PAYLOAD_PAIRS.false c.if-d-eq-SIGNALLING_PAIRS.false)
