-- `puncturing::digit` meets its contract. Assumes nothing.
use native.Mathlib.Omega.{arith}
use Rattle.patterns.proofs.Groups.{digit_lt}
use Rattle.puncturing.proofs.digit.Goals as goal

pub overflow_cast-result : goal.overflow_cast-result
overflow_cast-result c = record { fits = omega (arith, c.wide_digit.ensures, digit_lt c.args.group c.args.s) }
