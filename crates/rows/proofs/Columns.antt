-- Laws of a row's columns: where a place reads, six places, and a row by its sixes.
-- Assumes nothing.
use Prim.Native.Nat.{ℕ, zero, suc, ◌+◌, ◌*◌, ◌/◌, ◌%◌, ◌^◌, ◌≤◌, ◌<◌}
use mathlib.Core.Path.{◌≡◌, refl, sym, ap, subst, ap₂, ◌∙◌}
use mathlib.Core.Bool.{Bool, true}
use mathlib.Core.List.{List, [], ◌∷◌}
use native.Mathlib.Nat.{mod-lt, mul-le-mul, mul-le-mul_right}
use native.Mathlib.Omega.{arith}
use lib.Dec.{T, eqb, leb, leb→le, ltb, ltb→lt}
use lib.ListN.{length, get_or}
use borrow.Author.Tests.{eq-eqb, ne_eqb, lt-ltb, le-ltb}
use Rattle.ground.specs.Choice.{choose, both}
use Rattle.ground.specs.Table.{all_below}
use Rattle.ground.proofs.Choice.{both_true, choose_true, choose_false}
use Rattle.ground.proofs.Table.{at_all}
use Rattle.bits.specs.Places.{number}
use Rattle.bits.proofs.Places.{number_lt, number_append}
use Rattle.order.specs.Order.{parameter, reversed}
use Rattle.order.specs.Rows.{row_address, column}
use Rattle.pairs.specs.Pairs.{Paired}
use Rattle.rows.specs.Spelt.{row_pair, digits, twice, both_of, rows_of}
use Rattle.rows.specs.Inside.{small}

-- the columns that are read lie in the 24 segments
inside : ℕ → Bool
inside t = leb (reversed (column t)) 23

all_inside : T (all_below inside 24)
unfolding inside reversed
all_inside = tt

pub segment_most : (t : ℕ) → t < 24 → reversed (column t) ≤ 23
unfolding inside
segment_most t h = leb→le (reversed (column t)) 23 (at_all inside 24 all_inside t h)

module _ (size t r : ℕ) (some : 0 < size) (most : size ≤ 512) (h : t < 24) (e : r ≡ reversed (column t)) where
  segment_lt : r ≤ 23
  segment_lt = omega (arith, e, segment_most t h)

  pub segment_fits : r * size ≤ 11776
  segment_fits = mul-le-mul segment_lt most

  pub column_fits : (x : ℕ) → r * size + x % size < 18446744073709551616
  column_fits x = omega (arith, segment_fits, mod-lt x some)

  pub place_in : (x : ℕ) → r * size + x % size < 24 * size
  place_in x = omega (arith, mul-le-mul_right size segment_lt, mod-lt x some)

-- ---- six places
-- the entries are below 512
pub small_at : (es : List ℕ) → small es ≡ true → (i : ℕ) → get_or es i 0 < 512
small_at [] h i = omega arith
small_at (e ∷ es) h zero = ltb→lt e 512 (subst T (sym (both_true (ltb e 512) (small es) h).0) tt)
small_at (e ∷ es) h (suc i) = small_at es (both_true (ltb e 512) (small es) h).1 i

-- the number of six places, by their pairs
pub six_is : (f : ℕ → ℕ) (a b c d e g : ℕ) → a ≡ f 0 → b ≡ f 1 → c ≡ f 2 → d ≡ f 3 → e ≡ f 4 → g ≡ f 5
    → ((((a * 2 + b) * 2 + c) * 2 + d) * 2 + e) * 2 + g ≡ number f 0 6
unfolding number
six_is f a b c d e g ea eb ec ed ee eg = omega arith

-- what pairs spell is what their first bits spell and 64 times what their second bits spell
number_couple : (f : ℕ → ℕ) (i n : ℕ) → number f i n ≡ number (λ t. f t % 64) i n + 64 * number (λ t. f t / 64) i n
unfolding number
number_couple f i zero = refl
number_couple f i (suc n) = omega (arith, number_couple f i n)

module _ (f : ℕ → ℕ) (first : (k : ℕ) → f k % 64 < 2) (second : (k : ℕ) → f k / 64 < 2) where
  six_parts : (i q : ℕ) → q ≡ number f i 6 → (q % 64 ≡ number (λ t. f t % 64) i 6) × (q / 64 ≡ number (λ t. f t / 64) i 6)
  six_parts i q e =
      let a : number (λ t. f t % 64) i 6 < 64 = number_lt (λ t. f t % 64) first i 6 in
      let s = number_couple f i 6 in
      (omega arith, omega arith)

-- 24 bits by their sixes
digits_are : (f : ℕ → ℕ) (a b c d : ℕ) → a ≡ number f 0 6 → b ≡ number f 6 6 → c ≡ number f 12 6 → d ≡ number f 18 6 → digits a b c d ≡ number f 0 24
digits_are f a b c d ea eb ec ed =
    let e1 : number f 0 24 ≡ number f 0 18 * 64 + number f 18 6 = number_append f 0 18 6 in
    let e2 : number f 0 18 ≡ number f 0 12 * 64 + number f 12 6 = number_append f 0 12 6 in
    let e3 : number f 0 12 ≡ number f 0 6 * 64 + number f 6 6 = number_append f 0 6 6 in
    omega arith

module _ (n size : ℕ) (d : List ℕ) (p : Paired size d) (j t : ℕ) where
  pub pair_first : row_pair n d j t % 64 < 2
  unfolding row_pair
  pair_first = p.first (row_address n j (column t))

  pair_second : row_pair n d j t / 64 < 2
  unfolding row_pair
  pair_second = p.second (row_address n j (column t))

-- two numbers of 32 bits in one
two_parts : (a b : ℕ) → b < 16777216 → ((a * 4294967296 + b) % 4294967296 ≡ b) × ((a * 4294967296 + b) / 4294967296 ≡ a)
two_parts a b h = (omega arith, omega arith)

digits_lt : (a b c d : ℕ) → a < 64 → b < 64 → c < 64 → d < 64 → digits a b c d < 16777216
digits_lt a b c d ha hb hc hd = omega arith

-- what the pairs of the row j spell: their first bits, and above 32 bits their second bits
pub record Both (n : ℕ) (d : List ℕ) (j r : ℕ) : Type 0 where
  pub first : r % 4294967296 ≡ number (λ t. row_pair n d j t % 64) 0 24
  pub second : r / 4294967296 ≡ number (λ t. row_pair n d j t / 64) 0 24

pub row_of : (n size : ℕ) (w : List ℕ) (j : ℕ) → Paired size w → Both n w j (both_of n w j)
unfolding both_of
row_of n size w j p =
    let f : ℕ → ℕ = row_pair n w j in
    let a : ℕ = number f 0 6 in
    let b : ℕ = number f 6 6 in
    let c : ℕ = number f 12 6 in
    let d : ℕ = number f 18 6 in
    let sa = six_parts f (pair_first n size w p j) (pair_second n size w p j) 0 a refl in
    let sb = six_parts f (pair_first n size w p j) (pair_second n size w p j) 6 b refl in
    let sc = six_parts f (pair_first n size w p j) (pair_second n size w p j) 12 c refl in
    let sd = six_parts f (pair_first n size w p j) (pair_second n size w p j) 18 d refl in
    let t = two_parts (digits (a / 64) (b / 64) (c / 64) (d / 64)) (digits (a % 64) (b % 64) (c % 64) (d % 64)) (digits_lt (a % 64) (b % 64) (c % 64) (d % 64) (omega arith) (omega arith) (omega arith) (omega arith)) in
    record {
      first = t.0 ∙ digits_are (λ k. f k % 64) (a % 64) (b % 64) (c % 64) (d % 64) sa.0 sb.0 sc.0 sd.0;
      second = t.1 ∙ digits_are (λ k. f k / 64) (a / 64) (b / 64) (c / 64) (d / 64) sa.1 sb.1 sc.1 sd.1;
    }

-- a row by its sixes
pub both_by : (n : ℕ) (w : List ℕ) (j a b c d : ℕ) → a ≡ number (row_pair n w j) 0 6 → b ≡ number (row_pair n w j) 6 6 → c ≡ number (row_pair n w j) 12 6 → d ≡ number (row_pair n w j) 18 6
    → twice a b c d ≡ both_of n w j
unfolding both_of
both_by n w j a b c d ea eb ec ed =
    ap₂ (λ (x y : ℕ). twice x y c d) ea eb ∙ ap₂ (twice (number (row_pair n w j) 0 6) (number (row_pair n w j) 6 6)) ec ed

-- ---- which block it is
pub parameter_long : (N : ℕ) → N ≡ 12282 → parameter N ≡ 9
unfolding parameter
parameter_long N e = choose_true 9 5 (eq-eqb N 12282 e)

pub parameter_short : (N : ℕ) → (N ≡ 12282 → ⊥) → parameter N ≡ 5
unfolding parameter
parameter_short N h = choose_false 9 5 (ne_eqb N 12282 h)

-- ---- the rows of a block
module _ (N : ℕ) (d : List ℕ) (j : ℕ) where
  pub rows_behind : 512 ≤ j → rows_of N d j ≡ 0
  unfolding rows_of
  rows_behind h = ap (λ (t : Bool). choose (both t (eqb (length d) (24 * 2 ^ parameter N))) (both_of (parameter N) d j) 0) (le-ltb j 512 h)

  module _ (l : j < 512) (n : ℕ) (e : parameter N ≡ n) where
    at : rows_of N d j ≡ choose (eqb (length d) (24 * 2 ^ n)) (both_of n d j) 0
    unfolding rows_of
    at = ap₂ (λ (t : Bool) (m : ℕ). choose (both t (eqb (length d) (24 * 2 ^ m))) (both_of m d j) 0) (lt-ltb j 512 l) e

    pub rows_are : length d ≡ 24 * 2 ^ n → rows_of N d j ≡ both_of n d j
    rows_are h = at ∙ choose_true (both_of n d j) 0 (eq-eqb (length d) (24 * 2 ^ n) h)

    pub rows_none : (length d ≡ 24 * 2 ^ n → ⊥) → rows_of N d j ≡ 0
    rows_none h = at ∙ choose_false (both_of n d j) 0 (ne_eqb (length d) (24 * 2 ^ n) h)
