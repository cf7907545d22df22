-- The profile of a pipe as it is lent, and what a call gives.
-- Assumes nothing.
use Rattle.std.specs.Prelude.{ℕ, ◌+◌, ◌*◌, Bool, not, List, [], ◌∷◌, ◌++◌, eqb, length, replicate, Result, Ok, Err}
use Rattle.ground.specs.declared.refusal.Refusal.{Refusal}
use Rattle.ground.specs.Outcome.{Outcome}
use Rattle.ground.specs.Refusals.{number}
use Rattle.ground.specs.Choice.{choose, either, Fault, refuse, first_of, refusing}
use Rattle.description.specs.Fields.{table16}
use Rattle.description.specs.Description.{own_sections}
use Rattle.views.specs.Rows.{row_at}
use Rattle.slots.specs.declared.Profile.{Profile}
use Rattle.tap_lengths.specs.Lengths.{tap_total}
use Rattle.tap_lengths.specs.Sections.{sections_at}
use Rattle.profile.specs.Profile.{profile_of}

-- the record, and the sections that the pipe owns
unfoldable pub lent_fields : List ℕ → List ℕ
lent_fields l = row_at table16 l 0

abbrev pub lent_sections : List ℕ → List (List ℕ)
lent_sections l = sections_at (own_sections (lent_fields l)) l

-- 20: not the record and just the sections that the pipe owns, or not 32 taps
unfoldable pub profile_fault : List ℕ → Bool
profile_fault l = either (not (eqb (length l) (6 + 2 * own_sections (lent_fields l)))) (not (eqb (tap_total (lent_sections l)) 32))

-- what is told of a pipe: 0 and its profile, or the number of its refusal and zeros
pub record Profiled : Type 0 where
  pub refusal : ℕ
  pub profile : Profile

abbrev pub no_profile : Profile
no_profile = record { taps = replicate 32 0; greatest = 0 }

abbrev pub told : Result Profile Refusal → Profiled
told (Ok p) = record { refusal = 0; profile = p }
told (Err e) = record { refusal = number e; profile = no_profile }

-- the profile, or 20 alone
unfoldable pub profiled : List ℕ → Profiled
profiled l = choose (profile_fault l) (record { refusal = 20; profile = no_profile }) (record { refusal = 0; profile = profile_of (lent_fields l) (lent_sections l) })

-- handed out as 33 numbers: 20; 1, where the numbers lent are not 33
unfoldable pub numbers_of : Profile → List ℕ
numbers_of p = p.taps ++ (p.greatest ∷ [])

unfoldable pub profile_faults : List ℕ → List ℕ → List Fault
profile_faults l out = refuse 20 (profile_fault l) ∷ refuse 1 (not (eqb (length out) 33)) ∷ []

unfoldable pub profiling : List ℕ → List ℕ → Outcome ℕ (List ℕ)
profiling l out = refusing (first_of (profile_faults l out)) (numbers_of (profile_of (lent_fields l) (lent_sections l))) out
