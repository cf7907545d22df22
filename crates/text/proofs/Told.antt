-- What an answer tells is one_to_one: the number and the values determine the answer.
-- Assumes nothing.
use Rattle.std.proofs.Common.{ℕ, ◌≡◌, refl, ap, Result, Ok, Err, get_or, arith}
use Rattle.ground.proofs.Outcome.{values_length}
use Rattle.ground.proofs.Refusals.{number_same}
use Rattle.text.specs.Answers.{told}
use Rattle.text.specs.declared.Unlisted.{Unlisted}
use Rattle.text.specs.declared.Unlisted.TheVariants.{Refused, NoRoom}

pub told_one : (r r' : Result ℕ Unlisted) → told r ≡ told r' → r ≡ r'
told_one (Ok n) (Ok n') e = ap (λ t. Ok (get_or t.values 0 0)) e
told_one (Ok n) (Err (Refused m' n')) e = absurd (omega (arith, values_length e))
told_one (Ok n) (Err NoRoom) e = absurd (omega (arith, values_length e))
told_one (Err (Refused m n)) (Ok n') e = absurd (omega (arith, values_length e))
told_one (Err (Refused m n)) (Err (Refused m' n')) e =
    let same : m ≡ m' = number_same (ap (λ t. t.number) e) in
    λ i. Err (Refused (same i) (ap (λ t. get_or t.values 1 0) e i))
told_one (Err (Refused m n)) (Err NoRoom) e = absurd (omega (arith, values_length e))
told_one (Err NoRoom) (Ok n') e = absurd (omega (arith, values_length e))
told_one (Err NoRoom) (Err (Refused m' n')) e = absurd (omega (arith, values_length e))
told_one (Err NoRoom) (Err NoRoom) e = refl
