-- `profile::write` meets its contract. Assumes nothing.
use borrow.Author.Rules.{rules}
use Rattle.std.proofs.lemmas.Result.{err_from_is_err_and}
use Rattle.ground.proofs.Refusals.{number_not_0}
use Rattle.profile.specs.Lent.{profiled, profile_faults, profiling}
use Rattle.profile.proofs.write.Goals as goal

pub returns-in_err-p : goal.returns-in_err-p
unfolding profiling profiled profile_faults
returns-in_err-p c =
    let p = err_from_is_err_and c.from_residual.result c.from_residual.ensures.1 in
    let some = number_not_0 c.in_err-p.field-0.0 in
    rw (p.1, p.2) (search rules)

pub returns-then-out-ne-NUMBERS : goal.returns-then-out-ne-NUMBERS
unfolding profiling profiled profile_faults
returns-then-out-ne-NUMBERS c = search rules

pub returns : goal.returns
unfolding profiling profiled profile_faults
returns c = search rules
