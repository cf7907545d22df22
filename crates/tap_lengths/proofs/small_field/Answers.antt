-- `tap_lengths::small_field` meets its contract. Assumes nothing.
use native.Mathlib.Omega.{arith}
use lib.Pow.{pow_mono}
use Rattle.bits.proofs.Places.{field_lt}
use Rattle.tap_lengths.proofs.small_field.Goals as goal

pub overflow_cast-result : goal.overflow_cast-result
overflow_cast-result c =
    let a = c.args in
    omega (arith, c.field.ensures, field_lt a.pipe.now a.at a.width (omega arith), pow_mono {i = a.width} {j = 8} c.requires)

pub returns : goal.returns
returns c =
    let a = c.args in
    (c.field.ensures, omega (arith, c.field.ensures, field_lt a.pipe.now a.at a.width (omega arith)))
