-- The mixer moves each bit of a codeword exactly once.
-- Assumes nothing.
use Prim.Native.Nat.{ℕ, ◌+◌, ◌*◌, ◌/◌, ◌%◌, ◌<◌}
use mathlib.Core.Path.{◌≡◌, sym, ap, ◌∙◌, subst}
use mathlib.Core.Bool.{Bool}
use mathlib.Core.Logic.{⊎_elim}
use native.Mathlib.Nat.{mod-lt, mod-eq_of_lt, div-add-mod', mul-add-mod_self_right, mul-add, mul_assoc, mul_comm, mul-one}
use lib.Dec.{T, eqb, ltb, eqb→eq, ltb→lt}
use Rattle.ground.specs.Choice.{both}
use Rattle.ground.specs.Table.{all_below}
use Rattle.ground.proofs.Choice.{both_left, both_right}
use Rattle.ground.proofs.Table.{at_all}
use Rattle.patterns.specs.Rates.{rates, rate_of}
use Rattle.patterns.specs.Sent.{code_length}
use Rattle.ground.specs.Moves.{MovesOnce}
use Rattle.mixer.specs.Mixer.{table12, column_of, increment, mixed_from}
use Rattle.mixer.specs.Unmixer.{inverses, inverse}
use Rattle.mixer.specs.Wanted.{MixedOnce}

-- ---- the law: two increments whose product leaves 1 undo each other

-- a factor of a remainder
pub mul_mod : (c x n : ℕ) → c * (x % n) % n ≡ c * x % n
mul_mod c x n =
    sym (ap (λ (z : ℕ). c * z % n) (sym (div-add-mod' x n))
    ∙ ap (λ (z : ℕ). z % n) (mul-add c (x / n * n) (x % n) ∙ ap (λ (z : ℕ). z + c * (x % n)) (sym (mul_assoc c (x / n) n)))
    ∙ mul-add-mod_self_right (c * (x / n)) n (c * (x % n)))

pub undone : (inc inv n i : ℕ) → inv * inc % n ≡ 1 → i < n → inv * (inc * i % n) % n ≡ i
undone inc inv n i e h =
    mul_mod inv (inc * i) n
    ∙ ap (λ (z : ℕ). z % n) (sym (mul_assoc inv inc i) ∙ mul_comm (inv * inc) i)
    ∙ sym (mul_mod i (inv * inc) n)
    ∙ ap (λ (z : ℕ). i * z % n) e
    ∙ ap (λ (z : ℕ). z % n) (mul-one i)
    ∙ mod-eq_of_lt h

pub once : (inc inv n : ℕ) → 0 < n → inv * inc % n ≡ 1 → MovesOnce n (mixed_from inc n) (mixed_from inv n)
once inc inv n p e = record {
  inside = λ i h. mod-lt (inc * i) p;
  back_inside = λ i h. mod-lt (inv * i) p;
  there = λ i h. undone inc inv n i e h;
  again = λ i h. undone inv inc n i (ap (λ (z : ℕ). z % n) (mul_comm inc inv) ∙ e) h;
}

-- ---- one test over the table

undoes : ℕ → ℕ → Bool
undoes n p = both (ltb 0 (code_length p n)) (eqb (inverse p n * increment p n % code_length p n) 1)

all_undone : T (all_below (undoes 12282) 28)
unfolding undoes code_length rate_of rates increment inverse column_of table12 inverses
all_undone = tt

signalling_undone : T (undoes 762 0)
unfolding undoes code_length rate_of rates increment inverse column_of table12 inverses
signalling_undone = tt

at_one : (p n : ℕ) → T (undoes n p) → MovesOnce (code_length p n) (mixed_from (increment p n) (code_length p n)) (mixed_from (inverse p n) (code_length p n))
unfolding undoes
at_one p n t =
    let l : ℕ = code_length p n in
    let a : Bool = ltb 0 l in
    let b : Bool = eqb (inverse p n * increment p n % l) 1 in
    once (increment p n) (inverse p n) l (ltb→lt 0 l (both_left a b t)) (eqb→eq (inverse p n * increment p n % l) 1 (both_right a b t))

pub mixed_once : MixedOnce
mixed_once p n =
    ⊎_elim
    (λ w. subst (λ (m : ℕ). MovesOnce (code_length p m) (mixed_from (increment p m) (code_length p m)) (mixed_from (inverse p m) (code_length p m))) (sym w.1) (at_one p 12282 (at_all (undoes 12282) 28 all_undone p w.0)))
    (λ w. subst (λ (m : ℕ). MovesOnce (code_length p m) (mixed_from (increment p m) (code_length p m)) (mixed_from (inverse p m) (code_length p m))) (sym w.1)
    (subst (λ (q : ℕ). MovesOnce (code_length q 762) (mixed_from (increment q 762) (code_length q 762)) (mixed_from (inverse q 762) (code_length q 762))) (sym w.0) (at_one 0 762 signalling_undone)))

-- ---- table 12 has the lengths of the codewords

table_length : ℕ → Bool
table_length p = eqb (column_of table12 (rate_of p)).codeword_len (code_length p 12282)

table_lengths : T (all_below table_length 28)
unfolding table_length code_length rate_of rates column_of table12
table_lengths = tt

pub table_length_lem : (p : ℕ) → p < 28 → (column_of table12 (rate_of p)).codeword_len ≡ code_length p 12282
unfolding table_length
table_length_lem p h = eqb→eq (column_of table12 (rate_of p)).codeword_len (code_length p 12282) (at_all table_length 28 table_lengths p h)
