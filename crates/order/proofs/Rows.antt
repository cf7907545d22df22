-- The order by rows: 32 counter values with the same top bits give a row. Of its 32 addresses those whose five low bits end in two ones are dropped, one is kept
-- where it is below the block's length, and the other 23 are always kept. So encoder 2 reads a row by 24 columns, of which the last but one is at times left out.
-- Assumes nothing.
use Prim.Native.Nat.{ℕ, zero, suc, ◌+◌, ◌-◌, ◌*◌, ◌/◌, ◌%◌, ◌^◌, ◌≤◌, ◌<◌}
use mathlib.Core.Path.{◌≡◌, sym, ap, ap₂, ◌∙◌, subst}
use mathlib.Core.Bool.{Bool, false}
use native.Mathlib.Nat.{add-zero, mod-lt, mul-le-mul_right}
use native.Mathlib.Decide.{ℕ_discrete}
use native.Mathlib.Omega.{arith}
use lib.ListN.{get_or}
use lib.Pow.{pow_pos}
use lib.Dec.{T, ltb, leb, eqb, leb→le}
use borrow.Author.Tests.{le-ltb, lt-leb, ne_eqb}
use Rattle.ground.specs.Choice.{either}
use Rattle.ground.specs.Table.{all_below}
use Rattle.ground.proofs.Table.{at_all}
use Rattle.order.specs.Order.{entry, reversed, address, kept}
use Rattle.order.specs.Rows.{row_address, column}
use Rattle.order.proofs.Kept.{count, count_keep, count_drop}
use Rattle.order.proofs.Once.{kept_at}

address_row : (n i low : ℕ) → low < 32 → address n (32 * i + low) ≡ row_address n (i + 1) low
unfolding address row_address
address_row n i low h =
    let e1 : (32 * i + low) % 32 ≡ low = omega arith in
    let e2 : (32 * i + low) / 32 ≡ i = omega arith in
    ap₂ (λ (x y : ℕ). reversed x * 2 ^ n + (y + 1) * entry n x % 2 ^ n) e1 e2

right_of : (a b : Bool) → T (either a b) → a ≡ false → T b
right_of a b t e = subst (λ (x : Bool). T (either x b)) e t

dropped : ℕ → Bool
dropped low = either (ltb (low % 4) 3) (leb 24 (reversed low))

kept_always : ℕ → Bool
kept_always low = either (leb 3 (low % 4)) (either (eqb low 29) (leb (reversed low) 22))

all_dropped : T (all_below dropped 32)
unfolding dropped reversed
all_dropped = tt

all_kept : T (all_below kept_always 32)
unfolding kept_always reversed
all_kept = tt

reversed_drop : (low : ℕ) → low < 32 → low % 4 ≡ 3 → 24 ≤ reversed low
unfolding dropped
reversed_drop low h k = leb→le 24 (reversed low) (right_of (ltb (low % 4) 3) (leb 24 (reversed low)) (at_all dropped 32 all_dropped low h) (le-ltb (low % 4) 3 (omega arith)))

reversed_keep : (low : ℕ) → low < 32 → low % 4 < 3 → (low ≡ 29 → ⊥) → reversed low ≤ 22
unfolding kept_always
reversed_keep low h k d =
    leb→le (reversed low) 22
    (right_of (eqb low 29) (leb (reversed low) 22)
    (right_of (leb 3 (low % 4)) (either (eqb low 29) (leb (reversed low) 22)) (at_all kept_always 32 all_kept low h) (lt-leb 3 (low % 4) k))
    (ne_eqb low 29 d))

module _ (n N : ℕ) (eN : N + 6 ≡ 24 * 2 ^ n) (big : 6 ≤ 2 ^ n) where
  low_drop : (i low : ℕ) → low < 32 → low % 4 ≡ 3 → N ≤ address n (32 * i + low)
  unfolding row_address
  low_drop i low h k =
      let p : 24 * 2 ^ n ≤ reversed low * 2 ^ n = mul-le-mul_right (2 ^ n) (reversed_drop low h k) in
      omega (arith, p, address_row n i low h, eN)

  low_keep : (i low : ℕ) → low < 32 → low % 4 < 3 → (low ≡ 29 → ⊥) → address n (32 * i + low) < N
  unfolding row_address
  low_keep i low h k d =
      let p : reversed low * 2 ^ n ≤ 22 * 2 ^ n = mul-le-mul_right (2 ^ n) (reversed_keep low h k d) in
      let q : (i + 1) * entry n low % 2 ^ n < 2 ^ n = mod-lt ((i + 1) * entry n low) (pow_pos n) in
      omega (arith, p, q, address_row n i low h, eN, big)

  -- how many are kept before a column of a row
  count_row : (i low : ℕ) → low ≤ 29 → count (address n) N (32 * i + low) ≡ count (address n) N (32 * i) + (low - low / 4)
  count_row i zero h = ap (count (address n) N) (add-zero (32 * i)) ∙ omega arith
  count_row i (suc low) h =
      let e : count (address n) N (32 * i + suc low) ≡ count (address n) N (32 * i + low + 1) = ap (count (address n) N) (omega arith) in
      elim (ℕ_discrete (low % 4) 3) [
        | yes k ↦ omega (arith, e, count_drop (address n) N (32 * i + low) (low_drop i low (omega arith) k), count_row i low (omega arith))
        | no k ↦ omega (arith, e, count_keep (address n) N (32 * i + low) (low_keep i low (omega arith) (omega arith) (omega arith)), count_row i low (omega arith))
      ]

  -- where the 22 places before the last two of a row read
  pub row_at_lem : (i t d : ℕ) → t < 22 → 32 * i + 32 ≤ d → get_or (kept (address n) N d) (count (address n) N (32 * i) + t) 0 ≡ row_address n (i + 1) (column t)
  row_at_lem i t d h room =
      let c : ℕ = 32 * i + column t in
      let e : count (address n) N (32 * i) + t ≡ count (address n) N c = omega (arith, count_row i (column t) (omega arith)) in
      ap (λ (x : ℕ). get_or (kept (address n) N d) x 0) e
      ∙ kept_at (address n) N c d (omega arith) (low_keep i (column t) (omega arith) (omega arith) (omega arith))
      ∙ address_row n i (column t) (omega arith)

  -- a row whose column 29 is kept
  pub row_whole : (i d : ℕ) → 32 * i + 32 ≤ d → row_address n (i + 1) 29 < N
      → (get_or (kept (address n) N d) (count (address n) N (32 * i) + 22) 0 ≡ row_address n (i + 1) 29)
      × (get_or (kept (address n) N d) (count (address n) N (32 * i) + 23) 0 ≡ row_address n (i + 1) 30)
      × (count (address n) N (32 * (i + 1)) ≡ count (address n) N (32 * i) + 24)
  row_whole i d room k =
      let k29 : address n (32 * i + 29) < N = subst (λ (x : ℕ). x < N) (sym (address_row n i 29 (omega arith))) k in
      let k30 : address n (32 * i + 30) < N = low_keep i 30 (omega arith) (omega arith) (omega arith) in
      let c29 : count (address n) N (32 * i) + 22 ≡ count (address n) N (32 * i + 29) = omega (arith, count_row i 29 (omega arith)) in
      let m30 : 32 * i + 29 + 1 ≡ 32 * i + 30 = omega arith in
      let m31 : 32 * i + 30 + 1 ≡ 32 * i + 31 = omega arith in
      let m32 : 32 * i + 31 + 1 ≡ 32 * (i + 1) = omega arith in
      let c30 : count (address n) N (32 * i + 30) ≡ count (address n) N (32 * i) + 23 = ap (count (address n) N) (sym m30) ∙ omega (arith, c29, count_keep (address n) N (32 * i + 29) k29) in
      let c31 : count (address n) N (32 * i + 31) ≡ count (address n) N (32 * i) + 24 = ap (count (address n) N) (sym m31) ∙ omega (arith, c30, count_keep (address n) N (32 * i + 30) k30) in (
        ap (λ (x : ℕ). get_or (kept (address n) N d) x 0) c29 ∙ kept_at (address n) N (32 * i + 29) d (omega arith) k29 ∙ address_row n i 29 (omega arith),
        ap (λ (x : ℕ). get_or (kept (address n) N d) x 0) (sym c30) ∙ kept_at (address n) N (32 * i + 30) d (omega arith) k30 ∙ address_row n i 30 (omega arith),
        ap (count (address n) N) (sym m32) ∙ count_drop (address n) N (32 * i + 31) (low_drop i 31 (omega arith) (omega arith)) ∙ c31,
      )

  -- a row whose column 29 is left out
  pub row_short : (i d : ℕ) → 32 * i + 32 ≤ d → N ≤ row_address n (i + 1) 29
      → (get_or (kept (address n) N d) (count (address n) N (32 * i) + 22) 0 ≡ row_address n (i + 1) 30)
      × (count (address n) N (32 * (i + 1)) ≡ count (address n) N (32 * i) + 23)
  row_short i d room k =
      let k29 : N ≤ address n (32 * i + 29) = subst (λ (x : ℕ). N ≤ x) (sym (address_row n i 29 (omega arith))) k in
      let k30 : address n (32 * i + 30) < N = low_keep i 30 (omega arith) (omega arith) (omega arith) in
      let c29 : count (address n) N (32 * i) + 22 ≡ count (address n) N (32 * i + 29) = omega (arith, count_row i 29 (omega arith)) in
      let m30 : 32 * i + 29 + 1 ≡ 32 * i + 30 = omega arith in
      let m31 : 32 * i + 30 + 1 ≡ 32 * i + 31 = omega arith in
      let m32 : 32 * i + 31 + 1 ≡ 32 * (i + 1) = omega arith in
      let c30 : count (address n) N (32 * i + 30) ≡ count (address n) N (32 * i) + 22 = ap (count (address n) N) (sym m30) ∙ omega (arith, c29, count_drop (address n) N (32 * i + 29) k29) in
      let c31 : count (address n) N (32 * i + 31) ≡ count (address n) N (32 * i) + 23 = ap (count (address n) N) (sym m31) ∙ omega (arith, c30, count_keep (address n) N (32 * i + 30) k30) in (
        ap (λ (x : ℕ). get_or (kept (address n) N d) x 0) (sym c30) ∙ kept_at (address n) N (32 * i + 30) d (omega arith) k30 ∙ address_row n i 30 (omega arith),
        ap (count (address n) N) (sym m32) ∙ count_drop (address n) N (32 * i + 31) (low_drop i 31 (omega arith) (omega arith)) ∙ c31,
      )
