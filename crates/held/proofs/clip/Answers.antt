-- `held::clip` meets its contract. Assumes nothing.
use native.Mathlib.Omega.{arith}
use Rattle.std.proofs.lemmas.Int.{ints, to_z-of_z}
use Rattle.held.proofs.Clipping.{clamp_is}
use Rattle.held.proofs.clip.Goals as goal

pub returns : goal.returns
returns c = grind (arith, ints, to_z-of_z, clamp_is)
