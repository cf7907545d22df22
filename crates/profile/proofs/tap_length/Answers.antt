-- `profile::tap_length` meets its contract. Assumes nothing.
use mathlib.Core.Path.{refl}
use Rattle.profile.specs.Profile.{tap_length_by}
use Rattle.profile.proofs.tap_length.Goals as goal

pub returns : goal.returns
unfolding tap_length_by
returns c = refl
