-- `tap_lengths::section_at` meets its contract. Assumes nothing.
use mathlib.Core.Path.{◌∙◌}
use native.Mathlib.Omega.{arith}
use Rattle.tap_lengths.proofs.Sections.{section_read}
use Rattle.tap_lengths.proofs.section_at.Goals as goal

pub returns : goal.returns
returns c =
    let gap = c.from.ensures ∙ c.small_field-3.ensures.0 in
    (section_read c.args.pipe.now c.args.i c.small_field.ensures.0 c.small_field-2.ensures.0 gap, omega arith, omega arith, omega arith)
