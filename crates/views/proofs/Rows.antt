-- Laws of rows by their places: how many they are and which, and within the bytes they are the rows that are cut of the bits.
-- Assumes nothing.
use Prim.Native.Nat.{ℕ, zero, suc, ◌+◌, ◌*◌, ◌≤◌, ◌<◌}
use mathlib.Core.Path.{◌≡◌, refl, sym, ap, ap₂, ◌∙◌}
use mathlib.Core.Bool.{Bool, true, false, ◌||◌}
use mathlib.Core.List.{List, [], ◌∷◌, ◌++◌, map}
use native.Mathlib.Nat.{add-zero, add_assoc, zero-add, mul_comm}
use native.Mathlib.Numerals.{add-one}
use native.Mathlib.Omega.{arith}
use lib.ListN.{length, get_or, take, drop}
use lib.Seq.{drop-drop}
use Rattle.std.specs.List.{list_any, range_with_len}
use Rattle.ground.specs.Choice.{either, any}
use Rattle.ground.specs.Table.{tab}
use Rattle.ground.proofs.Table.{length_tab, get_or_tab, tab_snoc, map_tab, tab_ext, tab_cong, take_tab}
use Rattle.bits.specs.Lists.{unpack}
use Rattle.bits.specs.Places.{field_at, fields_at}
use Rattle.bits.proofs.Joined.{field_num}
use Rattle.description.specs.Rows.{Each, width, cut, cuts}
use Rattle.description.proofs.Rows.{cuts_length, cuts_at}
use Rattle.views.specs.Rows.{row_from, row_at, rows_at}

-- no field is wider than a read gives
abbrev pub Narrow : List ℕ → Type 0
Narrow t = Each (λ (k : ℕ). k ≤ 32) t

-- ---- n rows
module _ (t : List ℕ) (apart : ℕ) (w : List ℕ) (at : ℕ) where
  pub rows_length : (n : ℕ) → length (rows_at t apart n w at) ≡ n
  unfolding rows_at
  rows_length n = length_tab (λ i. row_at t w (at + apart * i)) 0 n

  pub rows_get : (n i : ℕ) → i < n → get_or (rows_at t apart n w at) i [] ≡ row_at t w (at + apart * i)
  unfolding rows_at
  rows_get n i h = get_or_tab (λ i. row_at t w (at + apart * i)) [] 0 n i h ∙ ap (λ (j : ℕ). row_at t w (at + apart * j)) (zero-add i)

  -- the first m of them
  pub rows_take : (n m : ℕ) → m ≤ n → take m (rows_at t apart n w at) ≡ rows_at t apart m w at
  unfolding rows_at
  rows_take n m h = take_tab (λ i. row_at t w (at + apart * i)) 0 n m h

  -- one row more
  pub rows_more : (n : ℕ) → rows_at t apart (n + 1) w at ≡ rows_at t apart n w at ++ (row_at t w (at + apart * n) ∷ [])
  unfolding rows_at
  rows_more n =
      ap (tab (λ i. row_at t w (at + apart * i)) 0) (add-one n) ∙ tab_snoc (λ i. row_at t w (at + apart * i)) 0 n
      ∙ ap (λ (j : ℕ). tab (λ i. row_at t w (at + apart * i)) 0 n ++ (row_at t w (at + apart * j) ∷ [])) (zero-add n)

-- ---- the same as rows that are cut of the bits
pub row_cut : (t w : List ℕ) (at o : ℕ) → Narrow t → at + o + width t ≤ 8 * length w → row_from t w at o ≡ cut t (drop (at + o) (unpack w))
unfolding row_from cut width
row_cut [] w at o h r = refl
row_cut (k ∷ t) w at o h r =
    ap₂ (λ (x : ℕ) (l : List ℕ). x ∷ l) (field_num w (at + o) k h.0 (omega arith))
    (row_cut t w at (o + k) h.1 (omega arith) ∙ ap (cut t) (ap (λ (i : ℕ). drop i (unpack w)) (sym (add_assoc at o k)) ∙ sym (drop-drop k (at + o) (unpack w))))

pub row_is : (t w : List ℕ) (at : ℕ) → Narrow t → at + width t ≤ 8 * length w → row_at t w at ≡ cut t (drop at (unpack w))
unfolding row_at
row_is t w at h r = row_cut t w at 0 h (omega arith) ∙ ap (λ (i : ℕ). cut t (drop i (unpack w))) (add-zero at)

pub rows_are : (t w : List ℕ) (at n : ℕ) → Narrow t → at + width t * n ≤ 8 * length w → rows_at t (width t) n w at ≡ cuts t n (drop at (unpack w))
unfolding rows_at
rows_are t w at n h r =
    sym
    (tab_ext (λ i. row_at t w (at + width t * i)) [] n (cuts t n (drop at (unpack w))) (cuts_length t n (drop at (unpack w)))
    (λ i l. cuts_at t n i (drop at (unpack w)) l
    ∙ ap (cut t) (drop-drop (i * width t) at (unpack w) ∙ ap (λ (m : ℕ). drop (at + m) (unpack w)) (mul_comm i (width t)))
    ∙ sym (row_is t w (at + width t * i) h (within i l))))
  where
    within : (i : ℕ) → i < n → at + width t * i + width t ≤ 8 * length w
    within i l = let e : width t * suc i ≤ width t * n = native.Mathlib.Nat.mul-le-mul_left (width t) l in omega (arith, native.Mathlib.Nat.mul-suc (width t) i)

-- ---- the first field of each row
pub first_fields : (k : ℕ) (t : List ℕ) (apart n : ℕ) (w : List ℕ) (at : ℕ) → map (λ r. get_or r 0 0) (rows_at (k ∷ t) apart n w at) ≡ fields_at w at apart k n
unfolding rows_at row_at row_from fields_at
first_fields k t apart n w at =
    map_tab (λ r. get_or r 0 0) (λ i. row_from (k ∷ t) w (at + apart * i) 0) 0 n
    ∙ tab_cong (λ i. field_at w (at + apart * i + 0) k) (λ i. field_at w (at + apart * i) k) 0 n (λ i h. ap (λ (x : ℕ). field_at w x k) (add-zero (at + apart * (0 + i))))

-- ---- a search over places is one over what stands there
or_either : (a : Bool) {b c : Bool} → b ≡ c → (a || b) ≡ either a c
or_either true e = refl
or_either false e = e

pub any_tab : {A : Type 0} (t : A → Bool) (f : ℕ → A) (i n : ℕ) → list_any (λ k. t (f k)) (range_with_len i n) ≡ any t (tab f i n)
unfolding any tab
any_tab t f i zero = refl
any_tab t f i (suc n) = or_either (t (f i)) (ap (λ (k : ℕ). list_any (λ x. t (f x)) (range_with_len k n)) (add-one i) ∙ any_tab t f (suc i) n)
