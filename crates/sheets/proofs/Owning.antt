-- What a pipe owns is small, the loop that adds up what pipes own, and what the tail owns.
-- Assumes nothing.
use Prim.Native.Nat.{ℕ, zero, suc, ◌+◌, ◌*◌, ◌≤◌, ◌<◌}
use mathlib.Core.Path.{◌≡◌, refl, sym, ap, ap₂, ◌∙◌, subst}
use mathlib.Core.List.{List, [], ◌∷◌, ◌++◌}
use native.Mathlib.Nat.{mul-le-mul_left, mul-le-mul_right}
use native.Mathlib.Numerals.{add-one}
use native.Mathlib.Omega.{arith}
use Rattle.ground.specs.Table.{tab}
use Rattle.bits.proofs.Places.{field_lt}
use Rattle.description.specs.Rows.{Row, total}
use Rattle.description.specs.Fields.{table16, table16b}
use Rattle.description.specs.Description.{own_streams, own_sections}
use Rattle.description.proofs.Bounds.{own_bounds, tail_bound}
use Rattle.views.specs.Rows.{row_from, row_at, rows_at}
use Rattle.views.specs.declared.View.{View}
use Rattle.views.proofs.Rows.{Narrow, rows_more}
use Rattle.views.proofs.Lists.{table16_narrow}
use Rattle.records.specs.Records.{pipe_of, pipe_at}
use Rattle.records.specs.declared.Pipe.{Pipe}
use Rattle.sheets.specs.Owned.{owned_at, tail_owned_at, places_at}
use Rattle.sheets.specs.declared.owned.Share.{Share}
use Rattle.sheets.specs.declared.owned.Places.{Places}

-- ---- what one pipe owns
row_fits : (t w : List ℕ) (at o : ℕ) → Narrow t → Row t (row_from t w at o)
unfolding Row row_from
row_fits [] w at o h = tt
row_fits (k ∷ t) w at o h = (field_lt w (at + o) k h.0, row_fits t w at (o + k) h.1)

pipe_bounds : (w : List ℕ) (at : ℕ) → (own_streams (row_at table16 w at) ≤ 32) × (own_sections (row_at table16 w at) ≤ 8)
unfolding row_at
pipe_bounds w at = let b = own_bounds (row_from table16 w at 0) (row_fits table16 w at 0 table16_narrow) in (b.0, b.1)

-- ---- what the first pipes own
total_append : {A : Type 0} (f : A → ℕ) (a b : List A) → total f (a ++ b) ≡ total f a + total f b
unfolding total
total_append f [] b = omega arith
total_append f (x ∷ a) b = omega (arith, total_append f a b)

pub total_more : (f : List ℕ → ℕ) (t : List ℕ) (apart : ℕ) (w : List ℕ) (at n : ℕ)
    → total f (rows_at t apart (n + 1) w at) ≡ total f (rows_at t apart n w at) + f (row_at t w (at + apart * n))
unfolding total
total_more f t apart w at n =
    ap (total f) (rows_more t apart w at n) ∙ total_append f (rows_at t apart n w at) (row_at t w (at + apart * n) ∷ [])
    ∙ omega arith

abbrev pub share : ℕ → ℕ → Share
share s d = record { s = s; d = d }

-- s and d are what the first i pipes own
pub record Sum (w : List ℕ) (at i s d : ℕ) : Type 0 where
  pub is : share s d ≡ owned_at w at i
  pub streams : s ≤ 32 * i
  pub sections : d ≤ 8 * i

module _ (w : List ℕ) (at : ℕ) where
  pub sum_none : Sum w at 0 0 0
  unfolding owned_at total rows_at tab
  sum_none = record { is = refl; streams = omega arith; sections = omega arith }

  pub pipe_owns : (k : ℕ) → ((pipe_at w at k).s ≤ 32) × ((pipe_at w at k).d ≤ 8)
  unfolding pipe_at pipe_of
  pipe_owns k = pipe_bounds w (at + 48 * k)

  pub sum_more : {i s d : ℕ} → Sum w at i s d → (q : Pipe) → q ≡ pipe_at w at i → Sum w at (i + 1) (s + q.s) (d + q.d)
  unfolding owned_at pipe_at pipe_of
  sum_more {i} {s} {d} h q e =
      let b = pipe_owns i in
      let x : q.s ≡ (pipe_at w at i).s = ap (λ (z : Pipe). z.s) e in
      let y : q.d ≡ (pipe_at w at i).d = ap (λ (z : Pipe). z.d) e in
      record {
        is = λ j. share
            ((ap₂ ◌+◌ (ap (λ (z : Share). z.s) h.is) x ∙ sym (total_more own_streams table16 48 w at i)) j)
            ((ap₂ ◌+◌ (ap (λ (z : Share). z.d) h.is) y ∙ sym (total_more own_sections table16 48 w at i)) j);
        streams = omega (arith, b.0, x, h.streams);
        sections = omega (arith, b.1, y, h.sections);
      }

  -- the bounds alone, of what was read
  pub pipe_small : (k : ℕ) (q : Pipe) → q ≡ pipe_at w at k → (q.s ≤ 32) × (q.d ≤ 8)
  pipe_small k q e = subst (λ (z : Pipe). (z.s ≤ 32) × (z.d ≤ 8)) (sym e) (pipe_owns k)

-- ---- how much it can be
sums : (w : List ℕ) (at p : ℕ) → ((owned_at w at p).s ≤ 32 * p) × ((owned_at w at p).d ≤ 8 * p)
unfolding owned_at total rows_at tab
sums w at zero = (omega arith, omega arith)
sums w at (suc p) =
    let h = sums w at p in
    let b = pipe_bounds w (at + 48 * p) in
    (omega (arith, h.0, b.0, step own_streams), omega (arith, h.1, b.1, step own_sections))
  where
    step : (f : List ℕ → ℕ) → total f (rows_at table16 48 (suc p) w at) ≡ total f (rows_at table16 48 p w at) + f (row_at table16 w (at + 48 * p))
    step f = ap (λ (n : ℕ). total f (rows_at table16 48 n w at)) (sym (add-one p)) ∙ total_more f table16 48 w at p

pub owned_small : (w : List ℕ) (at p : ℕ) (o : Share) → o ≡ owned_at w at p → (o.s ≤ 32 * p) × (o.d ≤ 8 * p)
owned_small w at p o e = subst (λ (x : Share). (x.s ≤ 32 * p) × (x.d ≤ 8 * p)) (sym e) (sums w at p)

pub tail_small : (w : List ℕ) (at : ℕ) {t : ℕ} → t ≡ tail_owned_at w at → t ≤ 1
unfolding tail_owned_at
tail_small w at e = subst (λ (x : ℕ). x ≤ 1) (sym e) (tail_bound (row_at table16b w at))

-- ---- where a pipe's own streams and sections stand

-- so many sections of any distance keep within a number of 64 bits
pub apart_small : (a d : ℕ) → a < 4294967296 → d < 65536 → a * d ≤ 4294967295 * 65535
apart_small a d h k =
    let x : d ≤ 65535 = omega arith in
    let y : a ≤ 4294967295 = omega arith in
    let p : a * d ≤ a * 65535 = mul-le-mul_left a x in
    let q : a * 65535 ≤ 4294967295 * 65535 = mul-le-mul_right 65535 y in
    omega (arith, p, q)

abbrev pub places : ℕ → ℕ → ℕ → Places
places p s d = record { pipe = p; streams = s; sections = d }

pub places_are : (w : List ℕ) (v : View) (k : ℕ) (o : Share) → o ≡ owned_at w v.pipes k
    → places (v.pipes + 48 * k) (v.streams + 16 * o.s) (v.sections + v.apart * o.d) ≡ places_at w v k
unfolding places_at
places_are w v k o e = ap (λ (x : Share). places (v.pipes + 48 * k) (v.streams + 16 * x.s) (v.sections + v.apart * x.d)) e
