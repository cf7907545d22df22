-- Laws of the rows: where the data end and the tail begins, and that twelve data groups and six tail groups stand for all.
-- Assumes nothing.
use Prim.Native.Nat.{ℕ, ◌+◌, ◌-◌, ◌*◌, ◌/◌, ◌%◌, ◌≤◌, ◌<◌}
use mathlib.Core.Path.{◌≡◌, sym, ap, ap₂, ◌∙◌, subst, subst₂}
use mathlib.Core.Bool.{Bool, true, false}
use mathlib.Core.List.{[]}
use native.Mathlib.Nat.{mod-mod_of_dvd, dvd_of_mod-eq-zero, add-zero}
use native.Mathlib.Decide.{dec_lt}
use native.Mathlib.Omega.{arith}
use lib.Dec.{T, eqb, ltb, leb, eqb→eq, leb→le, ltb→lt}
use lib.ListN.{length, get_or}
use borrow.Author.Tests.{lt-ltb, le-ltb}
use Rattle.ground.specs.Choice.{choose}
use Rattle.ground.specs.Table.{all_below}
use Rattle.ground.proofs.Choice.{choose_true, choose_false}
use Rattle.ground.proofs.Table.{at_all}
use Rattle.patterns.specs.Rows.{data_rows, tail_rows, data_group, tail_group, group_at, digit, copies}

pub digit_lt : (x s : ℕ) → digit x s < 8
unfolding digit
digit_lt x s = omega arith

module _ (p n : ℕ) where
  pub group_data : (i : ℕ) → i < n → group_at p n i ≡ data_group p i
  unfolding group_at
  group_data i h = choose_true _ _ (lt-ltb i n h)

  pub group_tail : (i : ℕ) → n ≤ i → group_at p n i ≡ tail_group p (i - n)
  unfolding group_at
  group_tail i h = choose_false _ _ (le-ltb i n h)

  pub copies_data : (k : ℕ) → k < 5 * n → copies p n k ≡ digit (data_group p (k / 5)) (k % 5)
  unfolding copies
  copies_data k h = ap (λ (x : ℕ). digit x (k % 5)) (group_data (k / 5) (omega arith))

  pub copies_tail : (k : ℕ) → copies p n (5 * n + k) ≡ digit (tail_group p (k / 5)) (k % 5)
  unfolding copies
  copies_tail k =
      let i : (5 * n + k) / 5 - n ≡ k / 5 = omega arith in
      let s : (5 * n + k) % 5 ≡ k % 5 = omega arith in
      ap₂ digit (group_tail ((5 * n + k) / 5) (omega arith) ∙ ap (tail_group p) i) s

  -- the symbol s of the group i stands at the place 5 i + s
  pub copies_symbol : (i s : ℕ) → s < 5 → copies p n (5 * i + s) ≡ digit (group_at p n i) s
  unfolding copies
  copies_symbol i s h =
      let e1 : (5 * i + s) / 5 ≡ i = omega arith in
      let e2 : (5 * i + s) % 5 ≡ s = omega arith in
      ap₂ (λ (x y : ℕ). digit (group_at p n x) y) e1 e2

-- every row's length divides 12
row_length : ℕ → ℕ
row_length p = length (get_or data_rows p [])

divides_twelve : ℕ → Bool
unfolding row_length
divides_twelve p = eqb (12 % row_length p) 0

all_divide : T (all_below divides_twelve 28)
unfolding divides_twelve row_length data_rows
all_divide = tt

-- so the group i is the group i % 12
pub data_twelve : (p i : ℕ) → p < 28 → data_group p (i % 12) ≡ data_group p i
unfolding data_group divides_twelve row_length
data_twelve p i h =
    let L : ℕ = row_length p in
    ap (λ (x : ℕ). get_or (get_or data_rows p []) x 0) (mod-mod_of_dvd L i (dvd_of_mod-eq-zero L (eqb→eq (12 % L) 0 (at_all divides_twelve 28 all_divide p h))))

-- the group of a lane of twelve data groups that the group i of a lane of n is
unfoldable pub entry_of : ℕ → ℕ → ℕ
entry_of n i = choose (ltb i n) (i % 12) (12 + (i - n))

module _ (n i : ℕ) where
  pub entry_data : i < n → entry_of n i ≡ i % 12
  unfolding entry_of
  entry_data h = choose_true (i % 12) (12 + (i - n)) (lt-ltb i n h)

  pub entry_tail : n ≤ i → entry_of n i ≡ 12 + (i - n)
  unfolding entry_of
  entry_tail h = choose_false (i % 12) (12 + (i - n)) (le-ltb i n h)

  -- there are eighteen entries
  pub entry_lt : i < n + 6 → entry_of n i < 18
  entry_lt h =
      elim (dec_lt i n) [
        | yes l ↦ omega (arith, entry_data l)
        | no l ↦ omega (arith, entry_tail (omega arith))
      ]

  pub entry_group : (p : ℕ) → p < 28 → group_at p 12 (entry_of n i) ≡ group_at p n i
  entry_group p h =
      elim (dec_lt i n) [
        | yes l ↦ ap (group_at p 12) (entry_data l) ∙ group_data p 12 (i % 12) (omega arith) ∙ data_twelve p i h ∙ sym (group_data p n i l)
        | no l ↦ (
            let e : 12 + (i - n) - 12 ≡ i - n = omega arith in
            ap (group_at p 12) (entry_tail (omega arith))
            ∙ group_tail p 12 (12 + (i - n)) (omega arith) ∙ ap (tail_group p) e ∙ sym (group_tail p n i (omega arith)))
      ]

-- no symbol of a data group is sent twice, and none of the tail more than three times: the symbol x % 5 of the entry x / 5 % 18 of the pattern x / 90
most : ℕ → ℕ
most j = choose (ltb j 12) 1 3

few : ℕ → Bool
few x = leb (digit (group_at (x / 90) 12 (x / 5 % 18)) (x % 5)) (most (x / 5 % 18))

all_few : T (all_below few 2520)
unfolding few most group_at data_group tail_group digit data_rows tail_rows
all_few = tt

copies_most : (p n k : ℕ) → p < 28 → k < 5 * (n + 6) → copies p n k ≤ most (entry_of n (k / 5))
unfolding few copies
copies_most p n k h l =
    let j : ℕ = entry_of n (k / 5) in
    let i : j < 18 = entry_lt n (k / 5) (omega arith) in
    let x : ℕ = p * 90 + j * 5 + k % 5 in
    let ep : x / 90 ≡ p = omega arith in
    let ej : x / 5 % 18 ≡ j = omega arith in
    let es : x % 5 ≡ k % 5 = omega arith in
    let t : digit (group_at (x / 90) 12 (x / 5 % 18)) (x % 5) ≤ most (x / 5 % 18) = leb→le (digit (group_at (x / 90) 12 (x / 5 % 18)) (x % 5)) (most (x / 5 % 18)) (at_all few 2520 all_few x (omega arith)) in
    let e : digit (group_at (x / 90) 12 (x / 5 % 18)) (x % 5) ≡ digit (group_at p n (k / 5)) (k % 5) =
    ap₂ digit (ap₂ (λ (q r : ℕ). group_at q 12 r) ep ej ∙ entry_group n (k / 5) p h) es in
    subst₂ ◌≤◌ e (ap most ej) t

pub copies_le : (p n k : ℕ) → p < 28 → k < 5 * (n + 6) → copies p n k ≤ 3
unfolding most
copies_le p n k h l = omega (arith, copies_most p n k h l, least (ltb (entry_of n (k / 5)) 12))
  where
    least : (t : Bool) → choose t 1 3 ≤ 3
    least true = omega arith
    least false = omega arith

pub data_once : (p n k : ℕ) → p < 28 → k < 5 * n → copies p n k < 2
unfolding most
data_once p n k h l =
    let d : entry_of n (k / 5) < 12 = omega (arith, entry_data n (k / 5) (omega arith)) in
    omega (arith, copies_most p n k h (omega arith), choose_true {A = ℕ} 1 3 (lt-ltb (entry_of n (k / 5)) 12 d))

-- the tail's first symbol is sent under every pattern
begun : ℕ → Bool
begun p = ltb 0 (digit (tail_group p 0) 0)

all_begun : T (all_below begun 28)
unfolding begun tail_group digit tail_rows
all_begun = tt

pub tail_sent : (p n : ℕ) → p < 28 → 0 < copies p n (5 * n)
unfolding begun
tail_sent p n h =
    let e : copies p n (5 * n + 0) ≡ digit (tail_group p 0) 0 = copies_tail p n 0 in
    let t : 0 < digit (tail_group p 0) 0 = ltb→lt 0 (digit (tail_group p 0) 0) (at_all begun 28 all_begun p h) in
    subst (λ (x : ℕ). 0 < x) (sym (ap (copies p n) (sym (add-zero (5 * n))) ∙ e)) t
