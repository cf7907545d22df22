-- The sheet of lists: what is written is read back, and where the tests find nothing in the lists the sheet is accepted.
-- Assumes nothing.
use Prim.Native.Nat.{ℕ, suc, ◌+◌, ◌*◌, ◌/◌, ◌%◌}
use mathlib.Core.Path.{◌≡◌, refl, sym, ap, ap₂, ◌∙◌}
use mathlib.Core.Bool.{false, not}
use mathlib.Core.List.{List, [], ◌∷◌, ◌++◌, append-nil, map}
use native.Mathlib.Nat.{div-add-mod'}
use native.Mathlib.Omega.{arith}
use lib.Dec.{eqb}
use lib.ListN.{length, get_or, drop, replicate, length-append}
use lib.Seq.{drop_at, drop-drop}
use borrow.Author.Tests.{eq-eqb, le-ltb}
use Rattle.ground.specs.Choice.{any, first_of}
use Rattle.ground.proofs.Choice.{no_difference, either_false, skip, clear_all}
use Rattle.bits.specs.Lists.{unpack}
use Rattle.bits.proofs.Lists.{unpack_length, unpack_append, unpack_pack, unpack_part, pack_length}
use Rattle.description.specs.Rows.{Each, width, Row, join, cut, joins, cuts}
use Rattle.description.specs.Fields.{table15, table16, table16b, table18, table19, sts_id, num_taps_div2}
use Rattle.description.specs.Description.{Lists}
use Rattle.description.specs.Sheet.{in_sheet, form1, streams_from, sections_from, sheet_end, header, records, sheet_of}
use Rattle.description.specs.Tests.{version_fault, any_set, width_fault, tap_fault, id_fault}
use Rattle.description.specs.Header.{p_stated, s_stated, d_stated, header_fault}
use Rattle.description.specs.Form1.{bare, sheet_sections, sheet_lists, lists_stated, top_fault, count_fault, record_faults, sheet_faults}
use Rattle.description.proofs.Rows.{join_length, join_below, cut_join, joins_length, joins_below, cuts_joins}
use Rattle.description.proofs.Deal.{Counted}
use Rattle.description.proofs.Sound.{Sound}
use Rattle.description.proofs.Tests.{set_none}
use Rattle.description.proofs.Keeps.{Clean}

-- ---- sections under four bits that are zero
module _ (t : List ℕ) where
  rows_in : (rs : List (List ℕ)) → Each (Row t) rs → Each (Row (4 ∷ t)) (in_sheet rs)
  unfolding Row
  rows_in [] h = tt
  rows_in (r ∷ rs) h = ((omega arith, h.0), rows_in rs h.1)

  pub rows_bare : (rs : List (List ℕ)) → Each (Row (4 ∷ t)) rs → Each (Row t) (bare rs)
  unfolding Row
  rows_bare [] h = tt
  rows_bare ([] ∷ rs) h = absurd h.0
  rows_bare ((x ∷ r) ∷ rs) h = (h.0.1, rows_bare rs h.1)

  pub in_bare : (rs : List (List ℕ)) → Each (Row (4 ∷ t)) rs → any_set (map (λ r. get_or r 0 0) rs) ≡ false → in_sheet (bare rs) ≡ rs
  unfolding Row any_set any
  in_bare [] h e = refl
  in_bare ([] ∷ rs) h e = absurd h.0
  in_bare ((x ∷ r) ∷ rs) h e =
      let a = either_false (not (eqb x 0)) (any_set (map (λ r. get_or r 0 0) rs)) e in
      ap₂ (λ (y : ℕ) (l : List (List ℕ)). (y ∷ r) ∷ l) (sym (no_difference x 0 a.0)) (in_bare rs h.1 a.1)

bare_in : (rs : List (List ℕ)) → bare (in_sheet rs) ≡ rs
bare_in [] = refl
bare_in (r ∷ rs) = ap (λ (l : List (List ℕ)). r ∷ l) (bare_in rs)

pub bare_length : (rs : List (List ℕ)) → length (bare rs) ≡ length rs
bare_length [] = refl
bare_length (r ∷ rs) = ap suc (bare_length rs)

pub in_length : (rs : List (List ℕ)) → length (in_sheet rs) ≡ length rs
in_length [] = refl
in_length (r ∷ rs) = ap suc (in_length rs)

tops_zero : (rs : List (List ℕ)) → map (λ r. get_or r 0 0) (in_sheet rs) ≡ replicate (length rs) 0
tops_zero [] = refl
tops_zero (r ∷ rs) = ap (λ (l : List ℕ). 0 ∷ l) (tops_zero rs)

-- ---- the bits of what stands behind a header, from each of its parts on
abbrev pub from5 : Lists → List ℕ
from5 l = joins (4 ∷ table19) (in_sheet l.sections)

abbrev pub from4 : Lists → List ℕ
from4 l = joins table18 l.streams ++ from5 l

abbrev pub from3 : Lists → List ℕ
from3 l = joins table16 l.pipes ++ from4 l

abbrev pub from2 : Lists → List ℕ
from2 l = join table16b l.tail ++ from3 l

abbrev pub from1 : Lists → List ℕ
from1 l = join table15 l.multiplex ++ from2 l

pub unpack_records : (l : Lists) → unpack (records l) ≡ from1 l
unfolding records width
unpack_records l =
    unpack_part 7 (join table15 l.multiplex) _ (join_below table15 l.multiplex) (join_length table15 l.multiplex)
    (unpack_part 2 (join table16b l.tail) _ (join_below table16b l.tail) (join_length table16b l.tail)
    (unpack_part (6 * length l.pipes) (joins table16 l.pipes) _ (joins_below table16 l.pipes) (joins_length table16 l.pipes ∙ omega arith)
    (unpack_part (2 * length l.streams) (joins table18 l.streams) _ (joins_below table18 l.streams) (joins_length table18 l.streams ∙ omega arith)
    (unpack_pack (2 * length l.sections) (from5 l) (joins_below (4 ∷ table19) (in_sheet l.sections)) (joins_length (4 ∷ table19) (in_sheet l.sections) ∙ omega (arith, in_length l.sections))))))

behind_length : (l : Lists) → length (records l) ≡ 9 + 6 * length l.pipes + 2 * length l.streams + 2 * length l.sections
unfolding records
behind_length l = simp (length-append, pack_length) (omega arith)

pub sheet_length : (l : Lists) → length (sheet_of l) ≡ sheet_end form1 (length l.pipes) (length l.streams) (length l.sections)
unfolding sheet_of header
sheet_length l = omega (arith, behind_length l)

-- from a place on, past a part
past_part : (b x y : List ℕ) (i n j : ℕ) → drop i b ≡ x ++ y → length x ≡ n → i + n ≡ j → drop j b ≡ y
past_part b x y i n j e f g =
    ap (λ (k : ℕ). drop k b) (sym g) ∙ sym (drop-drop n i b) ∙ ap (drop n) e ∙ drop_at x y n f

-- ---- written, then read
module _ (l : Lists) where
  abbrev b : List ℕ
  b = unpack (sheet_of l)

  abbrev p : ℕ
  p = length l.pipes

  abbrev s : ℕ
  s = length l.streams

  abbrev d : ℕ
  d = length l.sections

  d1 : drop 96 b ≡ from1 l
  unfolding sheet_of header
  d1 =
      let h : List ℕ = header form1 p s d in
      ap (drop 96) (unpack_append h (records l)) ∙ drop_at (unpack h) (unpack (records l)) 96 (unpack_length h) ∙ unpack_records l

  d2 : drop 152 b ≡ from2 l
  unfolding width
  d2 = past_part b (join table15 l.multiplex) (from2 l) 96 56 152 d1 (join_length table15 l.multiplex) refl

  d3 : drop 168 b ≡ from3 l
  unfolding width
  d3 = past_part b (join table16b l.tail) (from3 l) 152 16 168 d2 (join_length table16b l.tail) refl

  d4 : drop (8 * streams_from form1 p) b ≡ from4 l
  unfolding width
  d4 = past_part b (joins table16 l.pipes) (from4 l) 168 (length l.pipes * 48) (8 * streams_from form1 p) d3 (joins_length table16 l.pipes) (omega arith)

  d5 : drop (8 * sections_from form1 p s) b ≡ from5 l
  unfolding width
  d5 = past_part b (joins table18 l.streams) (from5 l) (8 * streams_from form1 p) (length l.streams * 16) (8 * sections_from form1 p s) d4 (joins_length table18 l.streams) (omega arith)

  -- the header states the counts
  pub p_sheet : p_stated (sheet_of l) ≡ length l.pipes
  unfolding sheet_of header
  p_sheet = refl

  pub s_sheet : s_stated (sheet_of l) ≡ length l.streams
  unfolding sheet_of header
  s_sheet = refl

  pub d_sheet : d_stated (sheet_of l) ≡ length l.sections
  unfolding sheet_of header
  d_sheet = refl

  two_right : (n : ℕ) → not (eqb (n / 256 * 256 + n % 256) n) ≡ false
  two_right n = ap not (eq-eqb (n / 256 * 256 + n % 256) n (div-add-mod' n 256))

  pub header_sheet : header_fault form1 (sheet_of l) ≡ false
  unfolding header_fault sheet_of header
  header_sheet =
      skip (le-ltb (length (sheet_of l)) 21 (omega (arith, sheet_length l)))
      (skip refl
      (skip refl
      (skip (two_right (streams_from form1 p))
      (skip (two_right (sections_from form1 p s))
      (skip (two_right (sheet_end form1 p s d)) (ap not (eq-eqb (length (sheet_of l)) (sheet_end form1 p s d) (sheet_length l))))))))

  module _ (sound : Sound l) where
    sections_sheet : sheet_sections form1 p s d b ≡ in_sheet l.sections
    unfolding sheet_sections
    sections_sheet =
        let rs : List (List ℕ) = in_sheet l.sections in
        ap (cuts (4 ∷ table19) (length l.sections)) (d5 ∙ sym (append-nil (joins (4 ∷ table19) rs)))
        ∙ ap (λ (n : ℕ). cuts (4 ∷ table19) n (joins (4 ∷ table19) rs ++ [])) (sym (in_length l.sections))
        ∙ cuts_joins (4 ∷ table19) rs [] (rows_in table19 l.sections sound.sections)

    pub lists_sheet : lists_stated (sheet_of l) ≡ l
    unfolding lists_stated sheet_lists sheet_of header
    lists_sheet = λ i. record {
      multiplex = (ap (cut table15) d1 ∙ cut_join table15 l.multiplex (from2 l) sound.multiplex) i;
      pipes = (ap (cuts table16 p) d3 ∙ cuts_joins table16 l.pipes (from4 l) sound.pipes) i;
      tail = (ap (cut table16b) d2 ∙ cut_join table16b l.tail (from3 l) sound.tail) i;
      streams = (ap (cuts table18 s) d4 ∙ cuts_joins table18 l.streams (from5 l) sound.streams) i;
      sections = (ap bare sections_sheet ∙ bare_in l.sections) i;
    }

    -- and the sheet of lists that are as long as their records say, in which the tests find nothing, is accepted
    pub accepted_sheet : Counted l → Clean l → first_of (sheet_faults (sheet_of l)) ≡ 0
    unfolding sheet_faults record_faults top_fault count_fault lists_stated sheet_of header
    accepted_sheet c k =
        let top = ap (λ (rs : List (List ℕ)). any_set (map (λ r. get_or r 0 0) rs)) sections_sheet ∙ ap any_set (tops_zero l.sections) ∙ set_none d in
        let version = ap (λ (x : Lists). version_fault x.multiplex) lists_sheet ∙ k.version in
        let count =
        ap (count_fault p s d) lists_sheet
        ∙ skip (ap not (eq-eqb p _ c.pipes)) (skip (ap not (eq-eqb s _ c.streams)) (ap not (eq-eqb d _ c.sections))) in
        let widths = ap (λ (x : Lists). width_fault x.pipes) lists_sheet ∙ k.widths in
        let tapped = ap (λ (x : Lists). tap_fault x.pipes (map num_taps_div2 x.sections)) lists_sheet ∙ k.tapped in
        let unique = ap (λ (x : Lists). id_fault (map sts_id x.streams)) lists_sheet ∙ k.unique in
        clear_all (sheet_faults (sheet_of l)) (header_sheet, (top, (version, (count, (k.fits, (widths, (tapped, (unique, tt))))))))
