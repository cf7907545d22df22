-- What an accepted sheet states: its lists are as long as their records say, the tests find nothing in them, and their sheet is that sheet.
-- Assumes nothing.
use Prim.Native.Nat.{ℕ, ◌+◌, ◌*◌, ◌/◌, ◌%◌, ◌≤◌, ◌<◌}
use mathlib.Core.Path.{◌≡◌, refl, sym, ap, ap₂, ◌∙◌}
use mathlib.Core.Bool.{false, not}
use mathlib.Core.List.{List, [], ◌∷◌, ◌++◌}
use native.Mathlib.Omega.{arith}
use lib.Dec.{eqb, ltb}
use lib.ListN.{length, get_or, take, drop, length-drop, take-append-drop}
use lib.Seq.{drop-drop, take_all, get_or-take, length-take-le}
use borrow.Author.Tests.{ltb-false}
use Rattle.ground.specs.Choice.{first_of}
use Rattle.ground.proofs.Choice.{no_difference, either_false, all_clear}
use Rattle.ground.specs.Table.{tab}
use Rattle.ground.proofs.Table.{tab_ext}
use Rattle.bits.specs.Lists.{Below, unpack, pack}
use Rattle.bits.proofs.Below.{below_drop, below_append, below_get}
use Rattle.bits.proofs.Lists.{unpack_length, unpack_below, unpack_drop, unpack_inj, pack_below}
use Rattle.description.specs.Rows.{Each, width, Row, join, joins, cuts}
use Rattle.description.specs.Fields.{table15, table16, table16b, table18, table19, num_pipes1}
use Rattle.description.specs.Description.{Lists, stream_count}
use Rattle.description.specs.Sheet.{in_sheet, form1, pipes_from, streams_from, sections_from, sheet_end, header, records, sheet_of}
use Rattle.description.specs.Tests.{lists_fault}
use Rattle.description.specs.Header.{p_stated, s_stated, d_stated, two_at, header_fault}
use Rattle.description.specs.Form1.{sheet_sections, sheet_lists, lists_stated, top_fault, count_fault, record_faults, sheet_faults}
use Rattle.description.proofs.Rows.{join_below, cut_row, join_cut, joins_below, joins_cuts, cuts_length, cuts_rows}
use Rattle.description.proofs.Deal.{Counted}
use Rattle.description.proofs.Sound.{Sound}
use Rattle.description.proofs.Keeps.{Clean}
use Rattle.description.proofs.Form1.{rows_bare, in_bare, bare_length, from1, from2, from3, from4, from5, unpack_records}

-- ---- a right header
pub record RightHeader (sh : List ℕ) : Type 0 where
  pub long : 21 ≤ length sh
  pub fourth : get_or sh 3 0 ≡ 0
  pub pipes : two_at sh 4 ≡ pipes_from form1
  pub streams : two_at sh 6 ≡ streams_from form1 (p_stated sh)
  pub sections : two_at sh 8 ≡ sections_from form1 (p_stated sh) (s_stated sh)
  pub end : two_at sh 10 ≡ sheet_end form1 (p_stated sh) (s_stated sh) (d_stated sh)
  pub whole : length sh ≡ sheet_end form1 (p_stated sh) (s_stated sh) (d_stated sh)

pub right_header : (sh : List ℕ) → header_fault form1 sh ≡ false → RightHeader sh
unfolding header_fault
right_header sh e =
    let a1 = either_false (ltb (length sh) 21) _ e in
    let a2 = either_false (not (eqb (get_or sh 3 0) 0)) _ a1.1 in
    let a3 = either_false (not (eqb (two_at sh 4) (pipes_from form1))) _ a2.1 in
    let a4 = either_false (not (eqb (two_at sh 6) (streams_from form1 (p_stated sh)))) _ a3.1 in
    let a5 = either_false (not (eqb (two_at sh 8) (sections_from form1 (p_stated sh) (s_stated sh)))) _ a4.1 in
    let a6 = either_false (not (eqb (two_at sh 10) (sheet_end form1 (p_stated sh) (s_stated sh) (d_stated sh)))) _ a5.1 in
    record {
      long = ltb-false (length sh) 21 a1.0;
      fourth = no_difference _ _ a2.0;
      pipes = no_difference _ _ a3.0;
      streams = no_difference _ _ a4.0;
      sections = no_difference _ _ a5.0;
      end = no_difference _ _ a6.0;
      whole = no_difference _ _ a6.1;
    }

two_parts : (x y n : ℕ) → y < 256 → x * 256 + y ≡ n → (x ≡ n / 256) × (y ≡ n % 256)
two_parts x y n h e = (omega arith, omega arith)

header_back : (sh : List ℕ) → Below 256 sh → RightHeader sh → take 12 sh ≡ header form1 (p_stated sh) (s_stated sh) (d_stated sh)
unfolding header tab
header_back sh bytes h =
    let byte : (i : ℕ) → get_or sh i 0 < 256 = λ i. below_get 256 sh i (omega arith) bytes in
    let a = two_parts (get_or sh 4 0) (get_or sh 5 0) _ (byte 5) h.pipes in
    let b = two_parts (get_or sh 6 0) (get_or sh 7 0) _ (byte 7) h.streams in
    let c = two_parts (get_or sh 8 0) (get_or sh 9 0) _ (byte 9) h.sections in
    let e = two_parts (get_or sh 10 0) (get_or sh 11 0) _ (byte 11) h.end in
    tab_ext (λ i. get_or sh i 0) 0 12 (take 12 sh) (length-take-le 12 sh (omega arith)) (λ i k. get_or-take 12 sh i 0 k)
    ∙ (λ i. p_stated sh ∷ s_stated sh ∷ d_stated sh ∷ h.fourth i ∷ a.0 i ∷ a.1 i ∷ b.0 i ∷ b.1 i ∷ c.0 i ∷ c.1 i ∷ e.0 i ∷ e.1 i ∷ [])

-- a part at a place, and what follows it
part_at : (b x y : List ℕ) (i n j : ℕ) → x ≡ take n (drop i b) → y ≡ drop j b → i + n ≡ j → x ++ y ≡ drop i b
part_at b x y i n j e f g =
    ap₂ (λ (u v : List ℕ). u ++ v) e (f ∙ ap (λ (k : ℕ). drop k b) (sym g) ∙ sym (drop-drop n i b)) ∙ take-append-drop n (drop i b)

records_below : (l : Lists) → Below 256 (records l)
unfolding records
records_below l =
    below_append 256 (pack 7 (join table15 l.multiplex)) _ (pack_below 7 _ (join_below table15 l.multiplex))
    (below_append 256 (pack 2 (join table16b l.tail)) _ (pack_below 2 _ (join_below table16b l.tail))
    (below_append 256 (pack (6 * length l.pipes) (joins table16 l.pipes)) _ (pack_below _ _ (joins_below table16 l.pipes))
    (below_append 256 (pack (2 * length l.streams) (joins table18 l.streams)) _ (pack_below _ _ (joins_below table18 l.streams))
    (pack_below _ _ (joins_below (4 ∷ table19) (in_sheet l.sections))))))

-- ---- read, then written
module _ (sh : List ℕ) where
  abbrev b : List ℕ
  b = unpack sh

  abbrev p : ℕ
  p = p_stated sh

  abbrev s : ℕ
  s = s_stated sh

  abbrev d : ℕ
  d = d_stated sh

  -- the bits from a place on
  abbrev at : ℕ → List ℕ
  at i = drop i b

  from : (i : ℕ) → Below 2 (at i)
  from i = below_drop 2 i b (unpack_below sh)

  -- the sections' rows, with the four bits above them
  abbrev rows : List (List ℕ)
  rows = cuts (4 ∷ table19) d (at (8 * sections_from form1 p s))

  rows_fit : Each (Row (4 ∷ table19)) rows
  rows_fit = cuts_rows (4 ∷ table19) d (at (8 * sections_from form1 p s)) (from (8 * sections_from form1 p s))

  pub sound_stated : Sound (lists_stated sh)
  unfolding lists_stated sheet_lists sheet_sections
  sound_stated = record {
    multiplex = cut_row table15 (at 96) (from 96);
    pipes = cuts_rows table16 p (at 168) (from 168);
    tail = cut_row table16b (at 152) (from 152);
    streams = cuts_rows table18 s (at (8 * streams_from form1 p)) (from (8 * streams_from form1 p));
    sections = rows_bare table19 rows rows_fit;
  }

  -- the lists are as long as the header states
  pipes_long : length (lists_stated sh).pipes ≡ p
  unfolding lists_stated sheet_lists
  pipes_long = cuts_length table16 p (at 168)

  streams_long : length (lists_stated sh).streams ≡ s
  unfolding lists_stated sheet_lists
  streams_long = cuts_length table18 s (at (8 * streams_from form1 p))

  sections_long : length (lists_stated sh).sections ≡ d
  unfolding lists_stated sheet_lists sheet_sections
  sections_long = bare_length rows ∙ cuts_length (4 ∷ table19) d (at (8 * sections_from form1 p s))

  counts_stated : {A : Type 0} (f : ℕ → ℕ → ℕ → A)
      → f (length (lists_stated sh).pipes) (length (lists_stated sh).streams) (length (lists_stated sh).sections) ≡ f p s d
  counts_stated f = λ i. f (pipes_long i) (streams_long i) (sections_long i)

  module _ (h : first_of (sheet_faults sh) ≡ 0) where
    right : RightHeader sh
    unfolding sheet_faults record_faults
    right = right_header sh (all_clear (sheet_faults sh) tt h).0

    pub counted_stated : Counted (lists_stated sh)
    unfolding sheet_faults record_faults count_fault lists_stated
    counted_stated =
        let l : Lists = lists_stated sh in
        let e = (all_clear (sheet_faults sh) tt h).1.1.1.0 in
        let a1 = either_false (not (eqb p (num_pipes1 l.multiplex))) _ e in
        let a2 = either_false (not (eqb s (stream_count l.pipes l.tail))) _ a1.1 in
        record {
          pipes = pipes_long ∙ no_difference _ _ a1.0;
          streams = streams_long ∙ no_difference _ _ a2.0;
          sections = sections_long ∙ no_difference _ _ a2.1;
        }

    pub clean_stated : Clean (lists_stated sh)
    unfolding sheet_faults record_faults lists_stated
    clean_stated =
        let a = all_clear (sheet_faults sh) tt h in
        let c = a.1.1.1.1 in
        record {
          version = a.1.1.0;
          fits = counts_stated lists_fault ∙ c.0;
          widths = c.1.0;
          tapped = c.1.1.0;
          unique = c.1.1.1.0;
        }

    -- what is read of each part is written as it stands
    long : length b ≡ 8 * sheet_end form1 p s d
    long = unpack_length sh ∙ ap (λ (k : ℕ). 8 * k) right.whole

    e5 : from5 (lists_stated sh) ≡ at (8 * sections_from form1 p s)
    unfolding lists_stated sheet_lists sheet_sections sheet_faults record_faults top_fault width
    e5 =
        let n : length (at (8 * sections_from form1 p s)) ≡ d * 16 = length-drop (8 * sections_from form1 p s) b ∙ omega (arith, long) in
        ap (joins (4 ∷ table19)) (in_bare table19 rows rows_fit (all_clear (sheet_faults sh) tt h).1.0)
        ∙ joins_cuts (4 ∷ table19) d (at (8 * sections_from form1 p s)) (from (8 * sections_from form1 p s)) (omega arith)
        ∙ take_all (d * 16) (at (8 * sections_from form1 p s)) (omega arith)

    e4 : from4 (lists_stated sh) ≡ at (8 * streams_from form1 p)
    unfolding lists_stated sheet_lists width
    e4 =
        part_at b (joins table18 (lists_stated sh).streams) (from5 (lists_stated sh)) (8 * streams_from form1 p) (s * 16) (8 * sections_from form1 p s)
        (joins_cuts table18 s (at (8 * streams_from form1 p)) (from (8 * streams_from form1 p)) (rw length-drop (omega (arith, long)))) e5 (omega arith)

    e3 : from3 (lists_stated sh) ≡ at 168
    unfolding lists_stated sheet_lists width
    e3 =
        part_at b (joins table16 (lists_stated sh).pipes) (from4 (lists_stated sh)) 168 (p * 48) (8 * streams_from form1 p)
        (joins_cuts table16 p (at 168) (from 168) (rw length-drop (omega (arith, long)))) e4 (omega arith)

    e2 : from2 (lists_stated sh) ≡ at 152
    unfolding lists_stated sheet_lists width
    e2 =
        part_at b (join table16b (lists_stated sh).tail) (from3 (lists_stated sh)) 152 16 168
        (join_cut table16b (at 152) (from 152) (rw length-drop (omega (arith, long)))) e3 refl

    e1 : from1 (lists_stated sh) ≡ at 96
    unfolding lists_stated sheet_lists width
    e1 =
        part_at b (join table15 (lists_stated sh).multiplex) (from2 (lists_stated sh)) 96 56 152
        (join_cut table15 (at 96) (from 96) (rw length-drop (omega (arith, long)))) e2 refl

    pub sheet_stated : Below 256 sh → sheet_of (lists_stated sh) ≡ sh
    unfolding sheet_of
    sheet_stated bytes =
        let l : Lists = lists_stated sh in
        let r : records l ≡ drop 12 sh =
        unpack_inj (records l) (drop 12 sh) (records_below l) (below_drop 256 12 sh bytes) (unpack_records l ∙ e1 ∙ unpack_drop 12 sh (omega (arith, right.long))) in
        ap₂ (λ (x y : List ℕ). x ++ y) (counts_stated (header form1) ∙ sym (header_back sh bytes right)) r ∙ take-append-drop 12 sh
