-- What the reader's answer and the sheet are, from what the tests said.
-- Assumes nothing.
use Prim.Native.Nat.{ℕ, ◌≤◌, ◌<◌}
use mathlib.Core.Path.{◌≡◌, refl, sym, ap, ap₂, ◌∙◌, subst}
use mathlib.Core.Bool.{Bool, true, false, not}
use mathlib.Core.List.{List, [], ◌∷◌}
use native.Mathlib.Decide.{ℕ_discrete}
use native.Mathlib.Omega.{arith}
use lib.Dec.{eqb, ltb}
use lib.ListN.{length}
use borrow.Author.Tests.{eq-eqb, ne_eqb, lt-ltb}
use Rattle.ground.specs.Outcome.{Told, Is}
use Rattle.ground.specs.Choice.{either, refuse, first_of}
use Rattle.ground.proofs.Outcome.{gave, values_length}
use Rattle.ground.proofs.Choice.{choose_true, first_found}
use Rattle.ground.proofs.Answers.{refused_by, refused_by_lem, refused_call}
use Rattle.bits.specs.Lists.{unpack}
use Rattle.bits.proofs.Lists.{unpack_below}
use Rattle.description.specs.Rules.{size}
use Rattle.description.specs.Sheet.{form1, sheet_of, sheet_end}
use Rattle.description.specs.Word.{p_in, s_in, d_in, lists_in, word_faults, read_refusal, front, surveyed, reading}
use Rattle.description.proofs.Bounds.{bounds}
use Rattle.description.proofs.Demand.{lengths_right}
use Rattle.description.proofs.Sealed.{passes, counts_in}
use Rattle.description.proofs.Tests.{lists_clear}
use Rattle.description.proofs.Word.{counted_in, sound_in}
use Rattle.sheets.proofs.Found.{counted, Found, counted_found}
use Rattle.survey.specs.Survey.{surveyed_word}
use Rattle.survey.proofs.Surveys.{told_length, told_bits}
use Rattle.to_sheet.specs.Filled.{Fillable}

-- ---- refused for its lengths
module _ (w out : List ℕ) where
  refused : (n : ℕ) → read_refusal w out ≡ n → (n ≡ 0 → ⊥) → Is (reading w out) (refused_by n) out
  unfolding reading
  refused n e h = refused_call _ out (read_refusal w out) e h

  wrong : (a b : Bool) → either a b ≡ true → not (eqb (length w) 96) ≡ a → ltb (length out) 128 ≡ b → read_refusal w out ≡ 1
  unfolding read_refusal
  wrong a b e f g =
      first_found (refuse 1 (either (not (eqb (length w) 96)) (ltb (length out) 128))) (word_faults (unpack w)) (ap₂ either f g ∙ e)

  word_length : (length w ≡ 96 → ⊥) → Is (reading w out) (refused_by 1) out
  word_length h = refused 1 (wrong true (ltb (length out) 128) refl (ap not (ne_eqb (length w) 96 h)) refl) (λ z. omega arith)

  -- whatever the word's length is
  pub room_length : length out < 128 → Is (reading w out) (refused_by 1) out
  room_length h =
      refused 1 (wrong (not (eqb (length w) 96)) true (second (not (eqb (length w) 96))) refl (lt-ltb (length out) 128 h)) (λ z. omega arith)
    where
      second : (a : Bool) → either a true ≡ true
      second true = refl
      second false = refl

-- ---- what the tests said
-- a word with counts has 96 bytes
has_length : (w : List ℕ) {p s d : ℕ} → counted p s d ≡ surveyed_word w → length w ≡ 96
has_length w e =
    elim (ℕ_discrete (length w) 96) [
      | yes n ↦ n
      | no h ↦ absurd (omega (arith, values_length (e ∙ told_length w h)))
    ]

-- a refusal is no acceptance
pub no_counts : (b : List ℕ) (n : ℕ) → refused_by n ≡ surveyed b → (first_of (word_faults b) ≡ 0 → ⊥) × (n ≡ first_of (word_faults b))
unfolding surveyed
no_counts b n e = refused_by_lem (word_faults b) (p_in b) (s_in b ∷ d_in b ∷ []) e

-- an acceptance has the counts of the word's lists
pub found : (b : List ℕ) (p s d : ℕ) → counted p s d ≡ surveyed b → Found (word_faults b) p s d (p_in b) (s_in b) (d_in b)
unfolding surveyed
found b p s d e = counted_found (word_faults b) (p_in b) (s_in b) (d_in b) e

-- ---- the outcome
module _ (w out : List ℕ) (room : 128 ≤ length out) where
  pub reading_refused : (m : ℕ) → refused_by m ≡ surveyed_word w → Is (reading w out) (refused_by m) out
  reading_refused m e =
      elim (ℕ_discrete (length w) 96) [
        | yes n ↦ (
            let h = no_counts (unpack w) m (e ∙ told_bits w n) in
            refused w out m (lengths_right w out n room ∙ sym h.1) (λ z. h.0 (sym h.1 ∙ z)))
        | no h ↦ subst (λ (t : Told). Is (reading w out) t out) (sym (e ∙ told_length w h)) (word_length w out h)
      ]

  module _ (p s d : ℕ) (e : counted p s d ≡ surveyed_word w) where
    n : length w ≡ 96
    n = has_length w e

    told_is : counted p s d ≡ surveyed (unpack w)
    told_is = e ∙ told_bits w n

    pub reading_done : (out' : List ℕ) → out' ≡ front (sheet_of (lists_in (unpack w))) out → Is (reading w out) (counted p s d) out'
    unfolding reading
    reading_done out' f =
        let z : read_refusal w out ≡ 0 = lengths_right w out n room ∙ (found (unpack w) p s d told_is).clear in
        gave (choose_true _ _ (eq-eqb (read_refusal w out) 0 z) ∙ ap₂ (λ (t : Told) (m : List ℕ). record { answer = t; memory = m }) (sym told_is) (sym f))

    -- what the filling of the sheet asks
    pub fillable : Fillable w p s d out
    fillable =
        let f = found (unpack w) p s d told_is in
        let k = passes (unpack w) f.clear in
        let c = counted_in (unpack w) in
        let b = bounds (lists_in (unpack w)) (sound_in (unpack w) (unpack_below w)) c k.lists in
        let fits = lists_clear _ _ _ k.lists.fits in
        record {
          word = n;
          pipes = f.pipes;
          streams = f.streams;
          sections = f.sections;
          fits = omega (arith, fits, counts_in size (unpack w), f.pipes, f.streams, f.sections);
          room = omega (arith, b.bytes, counts_in (sheet_end form1) (unpack w), f.pipes, f.streams, f.sections);
        }
