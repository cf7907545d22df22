-- Laws of the rates and the capacity units.
-- Assumes nothing.
use Prim.Native.Nat.{ℕ, ◌+◌, ◌*◌, ◌/◌, ◌<◌}
use mathlib.Core.Path.{◌≡◌, sym, ap, ap₂, ◌∙◌}
use mathlib.Core.Bool.{Bool}
use native.Mathlib.Nat.{mul_assoc, mul_comm, mul-zero, zero-div, mul-div-mul_right}
use native.Mathlib.Decide.{dec_lt}
use native.Mathlib.Omega.{arith}
use lib.Dec.{T, eqb, ltb, eqb→eq, ltb→lt}
use lib.ListN.{get_or, get_or-eq_default}
use Rattle.ground.specs.Choice.{both}
use Rattle.ground.specs.Table.{all_below}
use Rattle.ground.proofs.Choice.{both_left, both_right}
use Rattle.ground.proofs.Table.{at_all}
use Rattle.patterns.specs.Rates.{Rate, over, rates, rate_of, units_of}
use Rattle.patterns.specs.Sent.{code_length}

-- a number above 27 names no pattern
pub units_none : (p : ℕ) → 27 < p → units_of p ≡ 0
unfolding units_of rate_of rates
units_none p h =
    let e : get_or rates p (over 0 0) ≡ over 0 0 = get_or-eq_default rates (over 0 0) h in
    ap (λ (r : Rate). 6 * r.den / r.num) e

-- six times the inverse of a rate is a whole number, above 0
whole : ℕ → Bool
whole p = both (ltb 0 (units_of p)) (both (eqb ((rate_of p).den * 6) (units_of p * (rate_of p).num)) (ltb 0 (rate_of p).num))

all_whole : T (all_below whole 28)
unfolding whole units_of rate_of rates
all_whole = tt

pub units_some : (p : ℕ) → p < 28 → 0 < units_of p
unfolding whole
units_some p h =
    ltb→lt 0 (units_of p)
    (both_left (ltb 0 (units_of p)) (both (eqb ((rate_of p).den * 6) (units_of p * (rate_of p).num)) (ltb 0 (rate_of p).num)) (at_all whole 28 all_whole p h))

no_rate : (p : ℕ) → 27 < p → rate_of p ≡ over 0 0
unfolding rate_of rates
no_rate p h = get_or-eq_default rates (over 0 0) h

-- the length of a codeword by its capacity units
pub length_units : (p n : ℕ) → code_length p n ≡ (n + 6) * units_of p / 6
unfolding code_length whole
length_units p n =
    elim (dec_lt p 28) [
      | yes h ↦ (
          let num : ℕ = (rate_of p).num in
          let den : ℕ = (rate_of p).den in
          let t : T (both (eqb (den * 6) (units_of p * num)) (ltb 0 num)) = both_right (ltb 0 (units_of p)) (both (eqb (den * 6) (units_of p * num)) (ltb 0 num)) (at_all whole 28 all_whole p h) in
          let u : den * 6 ≡ units_of p * num = eqb→eq (den * 6) (units_of p * num) (both_left (eqb (den * 6) (units_of p * num)) (ltb 0 num) t) in
          let z : 0 < num = ltb→lt 0 num (both_right (eqb (den * 6) (units_of p * num)) (ltb 0 num) t) in
          let six : 0 < 6 = omega arith in
          sym (mul-div-mul_right ((n + 6) * den) num six) ∙ ap₂ ◌/◌ (mul_assoc (n + 6) den 6 ∙ ap (λ (x : ℕ). (n + 6) * x) u ∙ sym (mul_assoc (n + 6) (units_of p) num)) (mul_comm num 6)
          ∙ mul-div-mul_right ((n + 6) * units_of p) 6 z)
      | no h ↦ ap (λ (r : Rate). (n + 6) * r.den / r.num) (no_rate p (omega arith)) ∙ ap (λ (x : ℕ). x / 0) (mul-zero (n + 6)) ∙ zero-div 0
          ∙ sym (ap (λ (x : ℕ). (n + 6) * x / 6) (units_none p (omega arith)) ∙ ap (λ (x : ℕ). x / 6) (mul-zero (n + 6)) ∙ zero-div 6)
    ]
