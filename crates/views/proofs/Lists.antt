-- The lists that stand where a view says are those that are cut of the bits, in a word and in a sheet.
-- Assumes nothing.
use Prim.Native.Nat.{ℕ, zero, suc, ◌+◌, ◌*◌, ◌≤◌}
use mathlib.Core.Path.{◌≡◌, refl, sym, ap, ap₂, ◌∙◌}
use mathlib.Core.List.{List, [], ◌∷◌, map}
use native.Mathlib.Nat.{add_assoc}
use native.Mathlib.Omega.{arith}
use lib.ListN.{length, get_or, drop}
use Rattle.ground.specs.Table.{tab}
use Rattle.ground.proofs.Table.{tab_cong}
use Rattle.bits.specs.Lists.{unpack}
use Rattle.bits.specs.Places.{field_at, fields_at}
use Rattle.description.specs.Rows.{width, cut, cuts}
use Rattle.description.specs.Fields.{table15, table16, table16b, table18, table19}
use Rattle.description.specs.Rules.{size}
use Rattle.description.specs.Sheet.{tail_from, pipes_from, streams_from, sections_from, sheet_end}
use Rattle.description.specs.Word.{multiplex_in, p_in, pipes_in, tail_in, s_in, d_in, streams_in, sections_in, lists_in}
use Rattle.description.specs.Form1.{bare, sheet_sections, sheet_lists}
use Rattle.views.specs.Rows.{row_from, row_at, rows_at}
use Rattle.views.specs.View.{word_view, sheet_view, lists_at}
use Rattle.views.proofs.Rows.{Narrow, row_is, rows_are, first_fields}

-- ---- the tables have narrow fields alone
pub table15_narrow : Narrow table15
table15_narrow =
    (omega arith, (omega arith, (omega arith, (omega arith, (omega arith, (omega arith, (omega arith, (omega arith, (omega arith, (omega arith, tt))))))))))

pub table16_narrow : Narrow table16
table16_narrow =
    (omega arith, (omega arith, (omega arith, (omega arith, (omega arith, (omega arith, (omega arith, (omega arith, (omega arith, (omega arith, tt))))))))))

pub table16b_narrow : Narrow table16b
table16b_narrow = (omega arith, (omega arith, (omega arith, tt)))

pub table18_narrow : Narrow table18
table18_narrow = (omega arith, (omega arith, tt))

pub table19_narrow : Narrow table19
table19_narrow = (omega arith, (omega arith, (omega arith, tt)))

-- ---- a row behind other bits
row_behind : (t w : List ℕ) (at k o : ℕ) → row_from t w (at + k) o ≡ row_from t w at (k + o)
unfolding row_from
row_behind [] w at k o = refl
row_behind (n ∷ t) w at k o =
    ap₂ (λ (x : ℕ) (l : List ℕ). x ∷ l) (ap (λ (i : ℕ). field_at w i n) (add_assoc at k o))
    (row_behind t w at k (o + n) ∙ ap (row_from t w at) (sym (add_assoc k o n)))

bare_tab : (f : ℕ → List ℕ) (i n : ℕ) → bare (tab f i n) ≡ tab (λ k. drop 1 (f k)) i n
unfolding tab
bare_tab f i zero = refl
bare_tab f i (suc n) = ap (λ (l : List (List ℕ)). drop 1 (f i) ∷ l) (bare_tab f (suc i) n)

rows_bare : (k : ℕ) (t : List ℕ) (apart n : ℕ) (w : List ℕ) (at : ℕ) → bare (rows_at (k ∷ t) apart n w at) ≡ rows_at t apart n w (at + k)
unfolding rows_at row_at row_from
rows_bare k t apart n w at =
    bare_tab (λ i. row_from (k ∷ t) w (at + apart * i) 0) 0 n
    ∙ tab_cong (λ i. row_from t w (at + apart * i) (0 + k)) (λ i. row_from t w (at + k + apart * i) 0) 0 n
    (λ i h.
    let e : at + k + apart * (0 + i) ≡ at + apart * (0 + i) + k = omega arith in
    let z : k + 0 ≡ 0 + k = omega arith in
    sym (ap (λ (j : ℕ). row_from t w j 0) e ∙ row_behind t w (at + apart * (0 + i)) k 0 ∙ ap (row_from t w (at + apart * (0 + i))) z))

-- ---- a sheet as long as its counts say
module _ (h p s d : ℕ) (w : List ℕ) (long : length w ≡ sheet_end h p s d) where
  tops : rows_at (4 ∷ table19) 16 d w (8 * sections_from h p s) ≡ sheet_sections h p s d (unpack w)
  unfolding sheet_sections width
  tops = rows_are (4 ∷ table19) w (8 * sections_from h p s) d (omega arith, table19_narrow) (omega (arith, long))

  pub tops_are : fields_at w (8 * sections_from h p s) 16 4 d ≡ map (λ r. get_or r 0 0) (sheet_sections h p s d (unpack w))
  tops_are = sym (first_fields 4 table19 16 d w (8 * sections_from h p s)) ∙ ap (map (λ r. get_or r 0 0)) tops

  pub sheet_lists_lem : lists_at (sheet_view h p s) p s d w ≡ sheet_lists h p s d (unpack w)
  unfolding lists_at sheet_view sheet_lists width
  sheet_lists_lem =
      let m : row_at table15 w (8 * h) ≡ cut table15 (drop (8 * h) (unpack w)) = row_is table15 w (8 * h) table15_narrow (omega (arith, long)) in
      let ps = rows_are table16 w (8 * pipes_from h) p table16_narrow (omega (arith, long)) in
      let t = row_is table16b w (8 * tail_from h) table16b_narrow (omega (arith, long)) in
      let ss = rows_are table18 w (8 * streams_from h p) s table18_narrow (omega (arith, long)) in
      let ds = sym (rows_bare 4 table19 16 d w (8 * sections_from h p s)) ∙ ap bare tops in
      λ i. record { multiplex = m i; pipes = ps i; tail = t i; streams = ss i; sections = ds i }

-- ---- a word in which the lists keep within the bits
module _ (w : List ℕ) (p s d : ℕ) (fits : size p s d ≤ 8 * length w) where
  word_lists : lists_at (word_view p s) p s d w
      ≡ record { multiplex = cut table15 (unpack w); pipes = cuts table16 p (drop 56 (unpack w)); tail = cut table16b (drop (56 + 48 * p) (unpack w)); streams = cuts table18 s (drop (72 + 48 * p) (unpack w)); sections = cuts table19 d (drop (72 + 48 * p + 16 * s) (unpack w)) }
  unfolding lists_at word_view width
  word_lists =
      let m : row_at table15 w 0 ≡ cut table15 (unpack w) = row_is table15 w 0 table15_narrow (omega arith) in
      let ps = rows_are table16 w 56 p table16_narrow (omega arith) in
      let t = row_is table16b w (56 + 48 * p) table16b_narrow (omega arith) in
      let ss = rows_are table18 w (72 + 48 * p) s table18_narrow (omega arith) in
      let ds = rows_are table19 w (72 + 48 * p + 16 * s) d table19_narrow (omega arith) in
      λ i. record { multiplex = m i; pipes = ps i; tail = t i; streams = ss i; sections = ds i }

  pub lists_in_lem : p ≡ p_in (unpack w) → s ≡ s_in (unpack w) → d ≡ d_in (unpack w) → lists_at (word_view p s) p s d w ≡ lists_in (unpack w)
  unfolding lists_in multiplex_in pipes_in tail_in streams_in sections_in
  lists_in_lem e f g =
      word_lists
      ∙ (λ i. record { multiplex = cut table15 (unpack w); pipes = cuts table16 (e i) (drop 56 (unpack w)); tail = cut table16b (drop (56 + 48 * e i) (unpack w)); streams = cuts table18 (f i) (drop (72 + 48 * e i) (unpack w)); sections = cuts table19 (g i) (drop (72 + 48 * e i + 16 * f i) (unpack w)) })
