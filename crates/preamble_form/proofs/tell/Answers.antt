-- `preamble_form::tell` meets its contract. Assumes nothing.
use mathlib.Core.Path.{sym, ◌∙◌}
use native.Mathlib.Omega.{arith}
use Rattle.preamble_form.proofs.Telling.{upright, inverted, neither, tells_form, tells_refusal}
use Rattle.preamble_form.proofs.tell.Goals as goal

pub returns-then-bytes-ne-PREAMBLE : goal.returns-then-bytes-ne-PREAMBLE
returns-then-bytes-ne-PREAMBLE c = tells_refusal c.args.bytes.now (λ e. omega (arith, c.if-bytes-ne-PREAMBLE.true))

pub returns-then-is_sof : goal.returns-then-is_sof
returns-then-is_sof c =
    let w = c.args.bytes.now in
    tells_form w 1 (omega (arith, c.if-bytes-ne-PREAMBLE.false)) (upright w (sym c.is_sof.ensures ∙ c.if-is_sof.true))

pub returns-then-is_sof-2 : goal.returns-then-is_sof-2
returns-then-is_sof-2 c =
    let w = c.args.bytes.now in
    tells_form w 2 (omega (arith, c.if-bytes-ne-PREAMBLE.false))
    (inverted w (sym c.is_sof.ensures ∙ c.if-is_sof.false) (sym c.is_sof-2.ensures ∙ c.if-is_sof-2.true))

pub returns : goal.returns
returns c =
    let w = c.args.bytes.now in
    tells_form w 0 (omega (arith, c.if-bytes-ne-PREAMBLE.false))
    (neither w (sym c.is_sof.ensures ∙ c.if-is_sof.false) (sym c.is_sof-2.ensures ∙ c.if-is_sof-2.false))
