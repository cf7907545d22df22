-- `profile::of` meets its contract. Assumes nothing.
use mathlib.Core.Path.{◌≡◌}
use native.Mathlib.Omega.{arith}
use Rattle.description.specs.Description.{own_sections}
use Rattle.profile.specs.Lent.{lent_fields, profiled, profile_fault}
use Rattle.profile.proofs.Giving.{own_is, own_small}
use Rattle.profile.proofs.of.Goals as goal

pub overflow_cast-n : goal.overflow_cast-n
overflow_cast-n c = let l = c.args.pipe.now in omega (arith, own_is l c.pipe_at-n.result c.pipe_at-n.ensures, own_small l)

pub returns-then-pipe-n : goal.returns-then-pipe-n
unfolding profiled profile_fault
returns-then-pipe-n c =
    let own : c.pipe_at-n.result.d ≡ own_sections (lent_fields c.args.pipe.now) = own_is c.args.pipe.now c.pipe_at-n.result c.pipe_at-n.ensures in grind arith

pub returns : goal.returns
unfolding profiled profile_fault
returns c =
    let own : c.pipe_at-n.result.d ≡ own_sections (lent_fields c.args.pipe.now) = own_is c.args.pipe.now c.pipe_at-n.result c.pipe_at-n.ensures in grind arith
