-- Demand 3 over the definitions: a word is accepted exactly when some description that keeps the rules is written as it; there is then only one, and it is the one read.
-- Assumes nothing.
use Prim.Native.Nat.{ℕ, ◌≤◌}
use mathlib.Core.Path.{◌≡◌, sym, ap, ap₂, ◌∙◌, subst}
use mathlib.Core.Bool.{not}
use mathlib.Core.List.{List, [], ◌∷◌}
use mathlib.Core.Logic.{◌↔◌}
use native.Mathlib.Decide.{ℕ_discrete}
use native.Mathlib.Omega.{arith}
use lib.Dec.{eqb, ltb}
use lib.ListN.{length, length-append}
use borrow.Author.Tests.{eq-eqb, ne_eqb, ltb-false, le-ltb}
use Rattle.ground.specs.Outcome.{Told, Is, number_of}
use Rattle.ground.specs.Choice.{either, refuse, first_of}
use Rattle.ground.proofs.Choice.{choose_true, choose_false, first_past, first_clear, no_difference, either_false, skip}
use Rattle.ground.proofs.Answers.{verdict_number, verdict_accepted}
use Rattle.bits.specs.Lists.{Below, unpack, pack}
use Rattle.bits.proofs.Lists.{unpack_length, unpack_below, unpack_pack, pack_length, pack_unpack}
use Rattle.description.specs.Description.{Description, Lists, streams_of, sections_of, lists_of, describe}
use Rattle.description.specs.Rules.{Keeps}
use Rattle.description.specs.Layout.{body, padded, sealed, word_of, layout}
use Rattle.description.specs.Sheet.{sheet_of, sheet}
use Rattle.description.specs.Word.{lists_in, word_faults, read_refusal, front, surveyed, reading}
use Rattle.description.specs.Demand.{Demanded, counts_of, CountsTold}
use Rattle.description.proofs.Deal.{Counted, Sized, records_length, lists_describe, describe_lists, counted, sized}
use Rattle.description.proofs.Sound.{Sound}
use Rattle.description.proofs.Keeps.{Clean, sized_keeps, sound_keeps, clean_keeps, keeps_clean}
use Rattle.description.proofs.Word.{counted_in, sound_in}
use Rattle.description.proofs.Sealed.{Passes, counts_in, passes, passed, sealed_read, sealed_below, sealed_length, lists_sealed, passes_sealed}

-- what a word's bits describe
unfoldable pub described : List ℕ → Description
described w = describe (lists_in (unpack w))

-- ---- a description that keeps the rules, written
module _ (d : Description) (k : Keeps d) where
  z : Sized d
  z = sized_keeps d k

  s : Sound (lists_of d)
  s = sound_keeps d k

  c : Counted (lists_of d)
  c = counted d z

  e : Clean (lists_of d)
  e = clean_keeps d k

  pub unpack_layout : unpack (layout d) ≡ sealed (padded (body (lists_of d)))
  unfolding layout word_of
  unpack_layout = unpack_pack 96 (sealed (padded (body (lists_of d)))) (sealed_below (lists_of d)) (sealed_length (lists_of d) s c e)

  pub lists_layout : lists_in (unpack (layout d)) ≡ lists_of d
  lists_layout = ap lists_in unpack_layout ∙ lists_sealed (lists_of d) s c e

  pub described_layout : described (layout d) ≡ d
  unfolding described
  described_layout = ap describe lists_layout ∙ describe_lists d z

  pub accepted_layout : first_of (word_faults (unpack (layout d))) ≡ 0
  accepted_layout = passed (unpack (layout d)) (subst Passes (sym unpack_layout) (passes_sealed (lists_of d) s c e))

-- ---- a word that passes, read
module _ (w : List ℕ) (bytes : Below 256 w) (n : length w ≡ 96) (h : first_of (word_faults (unpack w)) ≡ 0) where
  p : Passes (unpack w)
  p = passes (unpack w) h

  long : length (unpack w) ≡ 768
  long = unpack_length w ∙ omega arith

  pub lists_described : lists_of (described w) ≡ lists_in (unpack w)
  unfolding described
  lists_described = lists_describe (lists_in (unpack w)) (counted_in (unpack w))

  pub layout_described : layout (described w) ≡ w
  unfolding layout word_of
  layout_described =
      ap (λ l. pack 96 (sealed (padded (body l)))) lists_described
      ∙ ap (pack 96) (sealed_read (unpack w) (unpack_below w) long p)
      ∙ ap (λ (m : ℕ). pack m (unpack w)) (sym n) ∙ pack_unpack w bytes

  pub keeps_described : Keeps (described w)
  unfolding described
  keeps_described =
      keeps_clean (described w) (sized (lists_in (unpack w)) (counted_in (unpack w)))
      (subst Sound (sym lists_described) (sound_in (unpack w) (unpack_below w)))
      (subst Clean (sym lists_described) p.lists)

  pub sheet_described : sheet_of (lists_in (unpack w)) ≡ sheet (described w)
  unfolding sheet
  sheet_described = ap sheet_of (sym lists_described)

-- ---- the lengths
pub lengths_right : (w out : List ℕ) → length w ≡ 96 → 128 ≤ length out → read_refusal w out ≡ first_of (word_faults (unpack w))
unfolding read_refusal
lengths_right w out n r =
    first_clear (refuse 1 (either (not (eqb (length w) 96)) (ltb (length out) 128))) (word_faults (unpack w))
    (skip (ap not (eq-eqb (length w) 96 n)) (le-ltb (length out) 128 r))

pub lengths_known : (w out : List ℕ) → read_refusal w out ≡ 0 → (length w ≡ 96) × (128 ≤ length out) × (first_of (word_faults (unpack w)) ≡ 0)
unfolding read_refusal
lengths_known w out h =
    let a = first_past (refuse 1 (either (not (eqb (length w) 96)) (ltb (length out) 128))) (word_faults (unpack w)) (omega arith) h in
    let e = either_false (not (eqb (length w) 96)) (ltb (length out) 128) a.0 in
    (no_difference (length w) 96 e.0, ltb-false (length out) 128 e.1, a.1)

-- ---- demand 3
pub layout_bytes : (d : Description) → length (layout d) ≡ 96
unfolding layout word_of
layout_bytes d = pack_length 96 _

module _ (w out : List ℕ) (bytes : Below 256 w) (room : 128 ≤ length out) where
  -- accepted exactly when some description that keeps the rules is laid out as those bytes; a word of another length is refused, and no layout has it
  pub accepted_iff : (read_refusal w out ≡ 0) ↔ ((d : Description) × Keeps d × (layout d ≡ w))
  accepted_iff = (there, back)
    where
      there : read_refusal w out ≡ 0 → ((d : Description) × Keeps d × (layout d ≡ w))
      there r =
          let k = lengths_known w out r in
          (described w, keeps_described w bytes k.0 k.2, layout_described w bytes k.0 k.2)

      back : ((d : Description) × Keeps d × (layout d ≡ w)) → read_refusal w out ≡ 0
      back q =
          lengths_right w out (ap length (sym q.2) ∙ layout_bytes q.0) room
          ∙ subst (λ (x : List ℕ). first_of (word_faults (unpack x)) ≡ 0) q.2 (accepted_layout q.0 q.1)

-- that description is the one read, so there is only one
pub the_one : (w : List ℕ) (d : Description) → Keeps d → layout d ≡ w → described w ≡ d
the_one w d k e = subst (λ (x : List ℕ). described x ≡ d) e (described_layout d k)

pub only_one : (w : List ℕ) (d e : Description) → Keeps d → Keeps e → layout d ≡ w → layout e ≡ w → d ≡ e
only_one w d e k j p q = sym (the_one w d k p) ∙ the_one w e j q

-- and the sheet of the word's lists is its sheet
pub the_sheet : (w : List ℕ) (d : Description) → Keeps d → layout d ≡ w → sheet_of (lists_in (unpack w)) ≡ sheet d
unfolding sheet
the_sheet w d k e = subst (λ (x : List ℕ). sheet_of (lists_in (unpack x)) ≡ sheet_of (lists_of d)) e (ap sheet_of (lists_layout d k))

-- ---- demand 3 of an answer and of what was left in the room

module _ (w out : List ℕ) where
  pub accepted_outcome : read_refusal w out ≡ 0 → ((reading w out).answer.number ≡ 0) × ((reading w out).memory ≡ front (sheet_of (lists_in (unpack w))) out)
  unfolding reading surveyed
  accepted_outcome z =
      let e : reading w out ≡ record { answer = surveyed (unpack w); memory = front (sheet_of (lists_in (unpack w))) out } =
      choose_true _ _ (eq-eqb (read_refusal w out) 0 z) in
      (ap (λ o. o.answer.number) e ∙ verdict_number (word_faults (unpack w)) _ ∙ (lengths_known w out z).2, ap (λ o. o.memory) e)

  refused_outcome : (read_refusal w out ≡ 0 → ⊥) → ((reading w out).answer.number ≡ read_refusal w out) × ((reading w out).memory ≡ out)
  unfolding reading
  refused_outcome h =
      let e : reading w out ≡ record { answer = record { number = read_refusal w out; values = [] }; memory = out } =
      choose_false _ _ (ne_eqb (read_refusal w out) 0 h) in
      (ap (λ o. o.answer.number) e, ap (λ o. o.memory) e)

  -- the number is 0 exactly where nothing is refused
  pub number_zero : (reading w out).answer.number ≡ 0 → read_refusal w out ≡ 0
  number_zero e = elim (ℕ_discrete (read_refusal w out) 0) [ yes z ↦ z | no h ↦ absurd (h (sym (refused_outcome h).0 ∙ e)) ]

pub demanded : (w out : List ℕ) (r : ℕ) (after : List ℕ) → Below 256 w → 128 ≤ length out → Is (number_of (reading w out)) r after → Demanded w out r after
demanded w out r after bytes room p = record {
  accepts = (
    λ e. (accepted_iff w out bytes room).0 (number_zero w out (sym p.answer ∙ e)),
    λ q. p.answer ∙ (accepted_outcome w out ((accepted_iff w out bytes room).1 q)).0,
  );
  only = only_one w;
  hands = λ d k e.
      p.memory ∙ (accepted_outcome w out ((accepted_iff w out bytes room).1 (d, k, e))).1 ∙ ap (λ (l : List ℕ). front l out) (the_sheet w d k e);
  leaves = λ h. p.memory ∙ (refused_outcome w out (λ z. h (p.answer ∙ (accepted_outcome w out z).0))).1;
}

-- the values told are the counts of the description's lists
pub counts_lists : (d : Description) → length (lists_of d).pipes ∷ length (lists_of d).streams ∷ length (lists_of d).sections ∷ [] ≡ counts_of d
unfolding lists_of
counts_lists d = ap₂ (λ (p s : ℕ). p ∷ s ∷ length (sections_of d.pipes) ∷ []) (records_length d.pipes) (length-append (streams_of d.pipes) d.tail_streams)

pub counts_told : (w out : List ℕ) (t : Told) (after : List ℕ) → Below 256 w → 128 ≤ length out → Is (reading w out) t after → CountsTold w t.values
unfolding reading surveyed
counts_told w out t after bytes room p = λ d k e.
    let z : read_refusal w out ≡ 0 = (accepted_iff w out bytes room).1 (d, k, e) in
    let o : reading w out ≡ record { answer = surveyed (unpack w); memory = front (sheet_of (lists_in (unpack w))) out } = choose_true _ _ (eq-eqb (read_refusal w out) 0 z) in
    let b : List ℕ = unpack w in
    let l : lists_in b ≡ lists_of d = subst (λ (x : List ℕ). lists_in (unpack x) ≡ lists_of d) e (lists_layout d k) in
    ap (λ (x : Told). x.values) (p.answer ∙ ap (λ x. x.answer) o ∙ verdict_accepted (word_faults b) _ (lengths_known w out z).2)
    ∙ sym (counts_in (λ (x y v : ℕ). x ∷ y ∷ v ∷ []) b)
    ∙ ap (λ (x : Lists). length x.pipes ∷ length x.streams ∷ length x.sections ∷ []) l ∙ counts_lists d
