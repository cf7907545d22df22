-- `opl::opl_signalling_read` meets its contract: the number of what is told is the answer's. Assumes nothing.
use mathlib.Core.Path.{◌≡◌, refl, sym, ◌∙◌}
use Rattle.std.specs.Prelude.{Result, Ok, Err}
use Rattle.ground.specs.declared.refusal.Refusal.{Refusal}
use Rattle.ground.specs.Refusals.{status}
use Rattle.ground.proofs.Outcome.{number_is}
use Rattle.views.specs.declared.Counts.{Counts}
use Rattle.sheets.specs.Answers.{told}
use Rattle.opl.proofs.opl_signalling_read.Goals as goal

told_status : (r : Result Counts Refusal) → (told r).number ≡ status r
told_status (Ok c) = refl
told_status (Err e) = refl

pub returns : goal.returns
returns c = let p = c.read.ensures in (number_is p.0 (told_status _ ∙ sym c.status.ensures), p.1)
