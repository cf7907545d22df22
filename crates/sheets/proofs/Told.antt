-- What an answer tells is one_to_one: the number and the values determine the answer.
-- Assumes nothing.
use Rattle.std.proofs.Common.{◌≡◌, ap, Result, Ok, Err, get_or, arith}
use Rattle.ground.specs.declared.refusal.Refusal.{Refusal}
use Rattle.ground.proofs.Outcome.{values_length}
use Rattle.ground.proofs.Refusals.{number_same}
use Rattle.views.specs.declared.Counts.{Counts}
use Rattle.sheets.specs.Answers.{told}

pub told_one : (r r' : Result Counts Refusal) → told r ≡ told r' → r ≡ r'
told_one (Ok c) (Ok c') e =
    λ i. Ok (record { p = ap (λ t. get_or t.values 0 0) e i; s = ap (λ t. get_or t.values 1 0) e i; d = ap (λ t. get_or t.values 2 0) e i })
told_one (Ok c) (Err f) e = absurd (omega (arith, values_length e))
told_one (Err f) (Ok c) e = absurd (omega (arith, values_length e))
told_one (Err f) (Err g) e = ap (λ (x : Refusal). Err x) (number_same (ap (λ t. t.number) e))
