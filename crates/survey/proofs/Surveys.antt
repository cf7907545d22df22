-- What each test of a word finds, as it is read, and what the tests up to it say together.
-- Assumes nothing.
use Prim.Native.Nat.{ℕ, suc, ◌+◌, ◌-◌, ◌*◌, ◌≤◌, ◌<◌}
use mathlib.Core.Path.{◌≡◌, refl, sym, ap, ap₂, ◌∙◌}
use mathlib.Core.Bool.{Bool, true, false, not}
use mathlib.Core.List.{List, [], ◌∷◌}
use native.Mathlib.Decide.{dec_lt}
use native.Mathlib.Omega.{arith}
use lib.Dec.{eqb, ltb}
use lib.ListN.{length, take, drop}
use lib.Seq.{slice, take_all}
use borrow.Author.Tests.{eq-eqb, ne_eqb, lt-ltb, ltb-false}
use Rattle.ground.specs.Choice.{choose, Fault, refuse, first_of, verdict}
use Rattle.ground.specs.Outcome.{Told}
use Rattle.ground.proofs.Choice.{choose_false, no_difference, first_clear, first_found}
use Rattle.ground.proofs.Answers.{refused_by, accepted_with, verdict_refused}
use Rattle.sheets.proofs.Found.{counted, behind}
use Rattle.bits.specs.Lists.{num, unpack}
use Rattle.bits.specs.Places.{bit_at, field_at}
use Rattle.ground.specs.Table.{tab}
use Rattle.std.proofs.lemmas.List.{drop-take}
use Rattle.bits.proofs.Lists.{unpack_length}
use Rattle.bits.proofs.Joined.{field_num, run_unpack}
use Rattle.crc.specs.Crc.{crc_of, crc12_of}
use Rattle.description.specs.Rows.{width, total, cut, cuts}
use Rattle.description.specs.Fields.{table15, table16, table16b, num_pipes1}
use Rattle.description.specs.Description.{own_streams, own_sections, tail_owns, stream_count, section_count}
use Rattle.description.specs.Rules.{size}
use Rattle.description.specs.Tests.{version_fault, lists_fault, any_set, list_faults}
use Rattle.description.specs.Word.{multiplex_in, p_in, pipes_in, tail_in, s_in, d_in, spare_fault, crc_fault, padding_fault, word_faults, lists_in, surveyed}
use Rattle.views.specs.Rows.{row_at, rows_at}
use Rattle.views.specs.View.{word_view}
use Rattle.views.specs.declared.View.{View}
use Rattle.views.proofs.Rows.{row_is, rows_are}
use Rattle.views.proofs.Lists.{table15_narrow, table16_narrow, table16b_narrow, lists_in_lem}
use Rattle.sheets.specs.Owned.{owned_at, tail_owned_at}
use Rattle.faults.specs.Faults.{own_lists, list_fault}
use Rattle.walk.specs.Tour.{p_of, s_of, d_of, tour_of}
use Rattle.walk.specs.declared.Toured.{Toured}
use Rattle.survey.specs.Survey.{surveyed_word}

-- the bits from one place up to another
pub bits_between : (w : List ℕ) (from to : ℕ) → from ≤ to → to ≤ 8 * length w → tab (bit_at w) from (to - from) ≡ slice from to (unpack w)
bits_between w from to h k =
    let e : from + (to - from) ≡ to = omega arith in
    run_unpack w from (to - from) (omega arith) ∙ sym (drop-take from (to - from) (unpack w)) ∙ ap (λ (i : ℕ). drop from (take i (unpack w))) e

module _ (w : List ℕ) (n : length w ≡ 96) where
  long : length (unpack w) ≡ 768
  long = unpack_length w ∙ omega arith

  spare_is : spare_fault (unpack w) ≡ any_set (slice 762 768 (unpack w))
  unfolding spare_fault
  spare_is = sym (ap (λ (b : List ℕ). any_set (drop 762 b)) (take_all 768 (unpack w) (omega (arith, long))))

  sent_is : field_at w 750 12 ≡ num (take 12 (drop 750 (unpack w)))
  sent_is = field_num w 750 12 (omega arith) (omega arith)

  sum_is : crc12_of w 0 750 ≡ crc_of 12 0x80F (take 750 (unpack w))
  unfolding crc12_of
  sum_is = ap (crc_of 12 0x80F) (run_unpack w 0 750 (omega arith))

  crc_is : crc_fault (unpack w) ≡ not (eqb (field_at w 750 12) (crc12_of w 0 750))
  unfolding crc_fault
  crc_is = ap₂ (λ (a b : ℕ). not (eqb a b)) (sym sent_is) (sym sum_is)

  -- ---- what the walk finds
  multiplex_is : row_at table15 w 0 ≡ multiplex_in (unpack w)
  unfolding multiplex_in width
  multiplex_is = row_is table15 w 0 table15_narrow (omega arith)

  p_is : p_of w ≡ p_in (unpack w)
  unfolding p_of p_in
  p_is = ap num_pipes1 multiplex_is

  -- up to 14 payload pipes stand in the word, and their tail behind them
  module _ (few : p_of w ≤ 14) where
    pipes_are : rows_at table16 48 (p_of w) w 56 ≡ pipes_in (unpack w)
    unfolding pipes_in width
    pipes_are = rows_are table16 w 56 (p_of w) table16_narrow (omega arith) ∙ ap (λ (i : ℕ). cuts table16 i (drop 56 (unpack w))) p_is

    tail_is : row_at table16b w (56 + 48 * p_of w) ≡ tail_in (unpack w)
    unfolding tail_in width
    tail_is =
        row_is table16b w (56 + 48 * p_of w) table16b_narrow (omega arith) ∙ ap (λ (i : ℕ). cut table16b (drop (56 + 48 * i) (unpack w))) p_is

    s_is : s_of w ≡ s_in (unpack w)
    unfolding s_of s_in stream_count owned_at tail_owned_at
    s_is = ap₂ ◌+◌ (ap (total own_streams) pipes_are) (ap tail_owns tail_is)

    d_is : d_of w ≡ d_in (unpack w)
    unfolding d_of d_in section_count owned_at
    d_is = ap (total own_sections) pipes_are

  fifteen : (s d : ℕ) → 14 < p_of w → 750 < size (p_of w) s d
  fifteen s d h = omega arith

  version_is : version_fault (multiplex_in (unpack w)) ≡ not (eqb (tour_of w).version 0)
  unfolding version_fault tour_of
  version_is = ap version_fault (sym multiplex_is)

  -- 15 payload pipes alone are too many, whatever stands behind them
  lists_are : lists_fault (p_in (unpack w)) (s_in (unpack w)) (d_in (unpack w)) ≡ ltb 750 (tour_of w).end
  unfolding lists_fault tour_of
  lists_are =
      elim (dec_lt 14 (p_of w)) [
        | yes h ↦ lt-ltb 750 (size (p_in (unpack w)) (s_in (unpack w)) (d_in (unpack w))) (omega (arith, fifteen (s_in (unpack w)) (d_in (unpack w)) h, p_is)) ∙ sym (lt-ltb 750 (size (p_of w) (s_of w) (d_of w)) (fifteen (s_of w) (d_of w) h))
        | no h ↦ (
            let few : p_of w ≤ 14 = omega arith in
            sym (λ i. ltb 750 (size (p_is i) (s_is few i) (d_is few i))))
      ]

  module _ (fits : size (p_of w) (s_of w) (d_of w) ≤ 750) where
    few : p_of w ≤ 14
    few =
        elim (dec_lt 14 (p_of w)) [
          | yes h ↦ absurd (omega (arith, fifteen (s_of w) (d_of w) h, fits))
          | no h ↦ omega arith
        ]

    padding_is : padding_fault (unpack w) ≡ any_set (slice (tour_of w).end 750 (unpack w))
    unfolding padding_fault tour_of
    padding_is = sym (λ i. any_set (slice (size (p_is i) (s_is few i) (d_is few i)) 750 (unpack w)))

    -- what the last three tests find, in the lists where the view says
    judge_is : first_of (list_faults (lists_in (unpack w))) ≡ list_fault (word_view (p_of w) (s_of w)) (p_of w) (s_of w) w
    unfolding list_fault own_lists word_view d_of
    judge_is = sym (ap (λ l. first_of (list_faults l)) (lists_in_lem w (p_of w) (s_of w) (d_of w) (omega arith) p_is (s_is few) (d_is few)))

-- ---- all tests, one after the other: what is told by what the walk found and by the view of the word's lists
abbrev pub said : List ℕ → Toured → View → Told
said w t v =
    choose (not (eqb (length w) 96)) (refused_by 1)
    (choose (any_set (slice 762 768 (unpack w))) (refused_by 2)
    (choose (not (eqb (field_at w 750 12) (crc12_of w 0 750))) (refused_by 5)
    (choose (not (eqb t.version 0)) (refused_by 6)
    (choose (ltb 750 t.end) (refused_by 7)
    (choose (any_set (slice t.end 750 (unpack w))) (refused_by 8)
    (choose (eqb (list_fault v t.counts.p t.counts.s w) 0) (counted t.counts.p t.counts.s t.counts.d)
    (refused_by (list_fault v t.counts.p t.counts.s w))))))))

-- a test more in front of others
test : (k : ℕ) (b : Bool) (l : List Fault) (vs : List ℕ) → verdict (refuse (suc k) b ∷ l) vs ≡ choose b (refused_by (suc k)) (verdict l vs)
test k true l vs = choose_false _ _ (ne_eqb (suc k) 0 (λ z. omega arith))
test k false l vs = refl

module _ (w : List ℕ) where
  abbrev view : View
  view = word_view (p_of w) (s_of w)

  surveyed_as : surveyed_word w ≡ said w (tour_of w) view
  unfolding surveyed_word word_faults tour_of
  surveyed_as =
      let b : List ℕ = unpack w in
      let fs : List Fault = word_faults b in
      let vs : List ℕ = p_in b ∷ s_in b ∷ d_in b ∷ [] in
      test 0 (not (eqb (length w) 96)) fs vs ∙ behind _ refl (λ x.
      let n : length w ≡ 96 = no_difference (length w) 96 x in
      test 1 (spare_fault b) (drop 1 fs) vs ∙ behind _ (spare_is w n) (λ _.
      test 4 (crc_fault b) (drop 2 fs) vs ∙ behind _ (crc_is w n) (λ _.
      test 5 (version_fault (multiplex_in b)) (drop 3 fs) vs ∙ behind _ (version_is w n) (λ _.
      test 6 (lists_fault (p_in b) (s_in b) (d_in b)) (drop 4 fs) vs ∙ behind _ (lists_are w n) (λ y.
      let fits : size (p_of w) (s_of w) (d_of w) ≤ 750 = ltb-false 750 _ (sym (lists_are w n) ∙ y) in
      test 7 (padding_fault b) (drop 5 fs) vs ∙ behind _ (padding_is w n fits) (λ _.
      let few : p_of w ≤ 14 = few w n fits in
      (λ i. choose (eqb (judge_is w n fits i) 0) (counted (sym (p_is w n) i) (sym (s_is w n few) i) (sym (d_is w n few) i)) (refused_by (judge_is w n fits i)))))))))

  pub surveyed_is : (t : Toured) → t ≡ tour_of w → (v : View) → v ≡ word_view t.counts.p t.counts.s → surveyed_word w ≡ said w t v
  unfolding tour_of
  surveyed_is t e v f =
      surveyed_as ∙ sym (ap (said w t) f ∙ ap (λ (x : Toured). said w x (word_view x.counts.p x.counts.s)) e)

-- ---- a word of another length, and one of 96 bytes
module _ (w : List ℕ) where
  pub told_length : (length w ≡ 96 → ⊥) → surveyed_word w ≡ refused_by 1
  unfolding surveyed_word
  told_length h =
      let f : Fault = refuse 1 (not (eqb (length w) 96)) in
      verdict_refused (f ∷ word_faults (unpack w)) _ (first_found f (word_faults (unpack w)) (ap not (ne_eqb (length w) 96 h))) (λ z. omega arith)

  pub told_bits : length w ≡ 96 → surveyed_word w ≡ surveyed (unpack w)
  unfolding surveyed_word surveyed
  told_bits n =
      ap (λ (m : ℕ). choose (eqb m 0) (accepted_with (p_in (unpack w) ∷ s_in (unpack w) ∷ d_in (unpack w) ∷ [])) (refused_by m)) (first_clear _ (word_faults (unpack w)) (ap not (eq-eqb (length w) 96 n)))
