-- Laws of choice: which side was chosen, and what an answer of 0 says of the tests before it.
-- Assumes nothing.
use mathlib.Core.Path.{◌≡◌, refl, sym, ap, ◌∙◌}
use mathlib.Core.Bool.{Bool, true, false, not}
use mathlib.Core.List.{List, [], ◌∷◌}
use Prim.Native.Nat.{ℕ, zero, suc, ◌+◌, ◌≤◌, ◌<◌}
use native.Mathlib.Numerals.{add-one}
use native.Mathlib.Omega.{arith}
use lib.Dec.{T, eqb, leb, ltb, leb→le, ltb→lt}
use lib.ListN.{length, get_or, take, drop, drop_of_length-le}
use lib.Seq.{drop-cons}
use borrow.Author.Tests.{eqb-true, not-false}
use Rattle.ground.specs.Choice.{choose, both, either, any, Fault, refuse, first_of}

pub choose_true : {A : Type 0} {b : Bool} (x y : A) → b ≡ true → choose b x y ≡ x
choose_true x y e = ap (λ (t : Bool). choose t x y) e

pub choose_false : {A : Type 0} {b : Bool} (x y : A) → b ≡ false → choose b x y ≡ y
choose_false x y e = ap (λ (t : Bool). choose t x y) e

pub choose_same : {A : Type 0} (b : Bool) (x : A) → choose b x x ≡ x
choose_same true x = refl
choose_same false x = refl

-- a function of a choice is the choice of its values
pub choose_ap : {A B : Type 0} (f : A → B) (b : Bool) (x y : A) → f (choose b x y) ≡ choose b (f x) (f y)
choose_ap f true x y = refl
choose_ap f false x y = refl

-- what holds of both sides holds of the choice: at most m
pub choose_most : {A : Type 0} (f : A → ℕ) (m : ℕ) (b : Bool) (x y : A) → f x ≤ m → f y ≤ m → f (choose b x y) ≤ m
choose_most f m true x y h k = h
choose_most f m false x y h k = k

-- where a choice between a refusal and the rest is 0, the test failed and the rest is 0
pub past : (b : Bool) (n rest : ℕ) → 0 < n → choose b n rest ≡ 0 → (b ≡ false) × (rest ≡ 0)
past true n rest h e = absurd (omega arith)
past false n rest h e = (refl, e)

-- a test for a difference found none
pub no_difference : (x y : ℕ) → not (eqb x y) ≡ false → x ≡ y
no_difference x y e = eqb-true x y (not-false (eqb x y) e)

pub both_left : (a b : Bool) → T (both a b) → T a
both_left true b t = tt
both_left false b t = t

pub both_right : (a b : Bool) → T (both a b) → T b
both_right true b t = t
both_right false b t = absurd t

-- both of two tests hold
pub both_true : (a b : Bool) → both a b ≡ true → (a ≡ true) × (b ≡ true)
both_true true b e = (refl, e)
both_true false b e = let z : ◌≡◌ {A = ℕ} 0 1 = cc in absurd (omega arith)

-- tests of which each holds where the other does are one test
pub same_test : (a b : Bool) → (a ≡ true → b ≡ true) → (b ≡ true → a ≡ true) → a ≡ b
same_test true b p q = sym (p refl)
same_test false true p q = q refl
same_test false false p q = refl

-- neither of two tests holds
pub either_false : (a b : Bool) → either a b ≡ false → (a ≡ false) × (b ≡ false)
either_false true b e = let z : ◌≡◌ {A = ℕ} 0 1 = cc in absurd (omega arith)
either_false false b e = (refl, e)

-- a chain of tests: one that fails is passed, one that holds answers
pub skip : {a b r : Bool} → a ≡ false → b ≡ r → either a b ≡ r
skip {a} {b} {r} e f = ap (λ (t : Bool). either t b) e ∙ f

pub hit : {a : Bool} (b : Bool) → a ≡ true → either a b ≡ true
hit b e = ap (λ (t : Bool). either t b) e

-- the second test fails wherever the first holds
pub both_false : (a b : Bool) → both a b ≡ false → a ≡ true → b ≡ false
both_false true b e h = e
both_false false b e h = let z : ◌≡◌ {A = ℕ} 0 1 = cc in absurd (omega arith)

pub both_first : {a : Bool} (b : Bool) → a ≡ false → both a b ≡ false
both_first b e = ap (λ (t : Bool). both t b) e

pub both_second : (a : Bool) {b : Bool} → b ≡ false → both a b ≡ false
both_second true e = e
both_second false e = refl

-- a fault that is not found is passed, one that is found answers, and an answer of 0 has passed it
pub first_clear : (f : Fault) (l : List Fault) → f.found ≡ false → first_of (f ∷ l) ≡ first_of l
first_clear f l e = choose_false f.number (first_of l) e

pub first_found : (f : Fault) (l : List Fault) → f.found ≡ true → first_of (f ∷ l) ≡ f.number
first_found f l e = choose_true f.number (first_of l) e

pub first_past : (f : Fault) (l : List Fault) → 0 < f.number → first_of (f ∷ l) ≡ 0 → (f.found ≡ false) × (first_of l ≡ 0)
first_past f l h e = past f.found f.number (first_of l) h e

-- no fault of a list is found
abbrev pub AllClear : List Fault → Type 0
AllClear [] = Unit
AllClear (f ∷ l) = (f.found ≡ false) × AllClear l

-- every number of a list is a refusal's: above 0
abbrev pub numbered : List Fault → Bool
numbered [] = true
numbered (f ∷ l) = both (ltb 0 f.number) (numbered l)

-- the answer is 0 exactly where no fault is found
pub all_clear : (l : List Fault) → T (numbered l) → first_of l ≡ 0 → AllClear l
all_clear [] t e = tt
all_clear (f ∷ l) t e =
    let a = first_past f l (ltb→lt 0 f.number (both_left (ltb 0 f.number) (numbered l) t)) e in
    (a.0, all_clear l (both_right (ltb 0 f.number) (numbered l) t) a.1)

pub clear_all : (l : List Fault) → AllClear l → first_of l ≡ 0
clear_all [] c = refl
clear_all (f ∷ l) c = first_clear f l c.0 ∙ clear_all l c.1

-- faults that are not found are passed
pub first_drop : (k : ℕ) (l : List Fault) → AllClear (take k l) → first_of l ≡ first_of (drop k l)
first_drop zero l c = refl
first_drop (suc k) [] c = refl
first_drop (suc k) (f ∷ l) c = first_clear f l c.0 ∙ first_drop k l c.1

-- fault k of a list, and behind its end one that is not found
abbrev pub fault_at : ℕ → List Fault → Fault
fault_at k l = get_or l k (refuse 0 false)

-- fault k, where those before it are passed: it is passed, or it answers
pub next_clear : (k : ℕ) (l : List Fault) → (fault_at k l).found ≡ false → first_of (drop k l) ≡ first_of (drop (suc k) l)
next_clear zero [] e = refl
next_clear zero (f ∷ l) e = first_clear f l e
next_clear (suc k) [] e = refl
next_clear (suc k) (f ∷ l) e = next_clear k l e

pub next_found : (k : ℕ) (l : List Fault) → (fault_at k l).found ≡ true → first_of (drop k l) ≡ (fault_at k l).number
next_found k [] e = let z : ◌≡◌ {A = ℕ} 0 1 = cc in absurd (omega arith)
next_found zero (f ∷ l) e = first_found f l e
next_found (suc k) (f ∷ l) e = next_found k l e

-- the first k faults are not found, and the next is: the answer is its number
pub first_at : (k : ℕ) (l : List Fault) → AllClear (take k l) → (fault_at k l).found ≡ true → first_of l ≡ (fault_at k l).number
first_at k l c e = first_drop k l c ∙ next_found k l e

-- and it is a refusal's
pub found_above : (k : ℕ) (l : List Fault) → T (numbered l) → (fault_at k l).found ≡ true → 0 < (fault_at k l).number
found_above k [] t e = let z : ◌≡◌ {A = ℕ} 0 1 = cc in absurd (omega arith)
found_above zero (f ∷ l) t e = ltb→lt 0 f.number (both_left (ltb 0 f.number) (numbered l) t)
found_above (suc k) (f ∷ l) t e = found_above k l (both_right (ltb 0 f.number) (numbered l) t) e

-- every number of a list is at most m, and so is the answer
abbrev pub within : ℕ → List Fault → Bool
within m [] = true
within m (f ∷ l) = both (leb f.number m) (within m l)

pub first_most : (m : ℕ) (l : List Fault) → T (within m l) → first_of l ≤ m
first_most m [] t = omega arith
first_most m (f ∷ l) t =
    choose_most (λ (n : ℕ). n) m f.found f.number (first_of l)
    (leb→le f.number m (both_left (leb f.number m) (within m l) t)) (first_most m l (both_right (leb f.number m) (within m l) t))

-- ---- a search: what is asked of the whole is asked of what is left from i on
module _ {A : Type 0} (t : A → Bool) (l : List A) (z : A) (whole : Bool) (i : ℕ) (left : whole ≡ any t (drop i l)) where
  step : i < length l → whole ≡ either (t (get_or l i z)) (any t (drop (i + 1) l))
  unfolding any
  step h = left ∙ ap (any t) (drop-cons l i z h) ∙ ap (λ (k : ℕ). either (t (get_or l i z)) (any t (drop k l))) (sym (add-one i))

  pub any_found : i < length l → t (get_or l i z) ≡ true → whole ≡ true
  any_found h e = step h ∙ ap (λ (b : Bool). either b (any t (drop (i + 1) l))) e

  pub any_more : i < length l → t (get_or l i z) ≡ false → whole ≡ any t (drop (i + 1) l)
  any_more h e = step h ∙ ap (λ (b : Bool). either b (any t (drop (i + 1) l))) e

  pub any_done : length l ≤ i → whole ≡ false
  unfolding any
  any_done h = left ∙ ap (any t) (drop_of_length-le l h)
