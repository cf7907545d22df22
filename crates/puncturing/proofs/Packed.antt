-- The rows as the numbers that the code keeps: what each is, and that the entries taken from them are the pattern's groups.
-- Assumes nothing.
use Prim.Native.Nat.{ℕ, zero, suc, ◌+◌, ◌-◌, ◌*◌, ◌/◌, ◌%◌, ◌^◌, ◌<◌}
use mathlib.Core.Path.{◌≡◌, refl, sym, ap, ap₂, ◌∙◌, subst}
use mathlib.Core.Bool.{Bool}
use mathlib.Core.List.{List, []}
use native.Mathlib.Nat.{pow-suc}
use native.Mathlib.Omega.{arith}
use lib.Dec.{T, eqb, ltb, eqb→eq}
use lib.ListN.{length, get_or, get_or-eq_default}
use lib.Pow.{pow-add}
use Rattle.ground.specs.Choice.{choose}
use Rattle.ground.specs.Table.{all_below}
use Rattle.ground.proofs.Choice.{choose_same}
use Rattle.ground.proofs.Table.{at_all}
use Rattle.patterns.specs.Rows.{data_rows, tail_rows, data_group, tail_group, group_at, digit}
use Rattle.puncturing.specs.Inside.{spaced, entry_from}

-- the number of the n digits f 0, f 1, .. to a base
unfoldable pub digits : ℕ → (ℕ → ℕ) → ℕ → ℕ
digits base f zero = 0
digits base f (suc n) = digits base f n * base + f n

-- a data row as sixty bits, and a tail row as eighteen octal digits
unfoldable pub data_number : ℕ → ℕ
data_number p = digits 2 (λ k. digit (data_group p (k / 5)) (k % 5)) 60

unfoldable pub tail_number : ℕ → ℕ
tail_number p = digits 512 (λ t. get_or (get_or tail_rows p []) t 0) 6

-- the entry x % 18 of the pattern x / 18
right : ℕ → Bool
right x = eqb (entry_from (data_number (x / 18)) (tail_number (x / 18)) (x % 18)) (group_at (x / 18) 12 (x % 18))

all_right : T (all_below right 504)
unfolding right entry_from spaced data_number tail_number digits group_at data_group tail_group digit data_rows tail_rows
all_right = tt

pub entry_is : (p j : ℕ) → p < 28 → j < 18 → entry_from (data_number p) (tail_number p) j ≡ group_at p 12 j
unfolding right
entry_is p j h l =
    let ep : (p * 18 + j) / 18 ≡ p = omega arith in
    let ej : (p * 18 + j) % 18 ≡ j = omega arith in
    let t = eqb→eq _ _ (at_all right 504 all_right (p * 18 + j) (omega arith)) in
    subst (λ (y : ℕ). entry_from (data_number p) (tail_number p) y ≡ group_at p 12 y) ej
    (subst (λ (q : ℕ). entry_from (data_number q) (tail_number q) ((p * 18 + j) % 18) ≡ group_at q 12 ((p * 18 + j) % 18)) ep t)

no_data : (p : ℕ) → 27 < p → get_or data_rows p [] ≡ []
unfolding data_rows
no_data p h = get_or-eq_default data_rows [] h

no_tail : (p : ℕ) → 27 < p → get_or tail_rows p [] ≡ []
unfolding tail_rows
no_tail p h = get_or-eq_default tail_rows [] h

-- a number above 27 names no pattern, and nothing is sent under it
pub group_none : (p n i : ℕ) → 27 < p → group_at p n i ≡ 0
unfolding group_at data_group tail_group
group_none p n i h =
    let d : data_group p i ≡ 0 = ap (λ (row : List ℕ). get_or row (i % length row) 0) (no_data p h) in
    let t : tail_group p (i - n) ≡ 0 = tail_zero (i - n) in
    ap₂ (choose (ltb i n)) d t ∙ choose_same (ltb i n) 0
  where
    tail_zero : (t : ℕ) → tail_group p t ≡ 0
    tail_zero t =
        ap (λ (row : List ℕ). choose (ltb t 3) (get_or row t 0 * 0o100) (get_or row t 0 / 0o100 * 0o10000 + get_or row t 0 % 0o100)) (no_tail p h)
        ∙ choose_same (ltb t 3) 0

-- three bits to an octal digit
pub eights : (m : ℕ) → 2 ^ (3 * m) ≡ 8 ^ m
eights zero = refl
eights (suc m) =
    let e : 3 * suc m ≡ 3 * m + 3 = omega arith in
    ap (λ (x : ℕ). 2 ^ x) e ∙ pow-add 2 (3 * m) 3 ∙ ap (λ (x : ℕ). x * 8) (eights m) ∙ sym (pow-suc 8 m)
