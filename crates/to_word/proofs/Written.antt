-- What the writer's number and the word are, from what the check of the sheet said.
-- Assumes nothing.
use Prim.Native.Nat.{ℕ}
use mathlib.Core.Path.{◌≡◌, sym, ap, ◌∙◌, subst}
use mathlib.Core.Bool.{not}
use mathlib.Core.List.{List, [], ◌∷◌}
use native.Mathlib.Omega.{arith}
use lib.Dec.{eqb}
use lib.ListN.{length}
use borrow.Author.Tests.{ne_eqb}
use Rattle.ground.specs.Outcome.{Is}
use Rattle.ground.specs.Choice.{refuse}
use Rattle.ground.proofs.Choice.{first_found, all_clear}
use Rattle.ground.proofs.Refusing.{refusal_leaves, acceptance_leaves}
use Rattle.ground.proofs.Answers.{refused_by, refused_by_lem}
use Rattle.bits.specs.Lists.{unpack}
use Rattle.description.specs.Layout.{word_of}
use Rattle.description.specs.Sheet.{form1, sheet_end}
use Rattle.description.specs.Header.{p_stated, s_stated, d_stated}
use Rattle.description.specs.Form1.{sheet_lists, lists_stated, record_faults, sheet_faults, checked, write_refusal, writing}
use Rattle.description.proofs.Tests.{lists_clear}
use Rattle.description.proofs.Restated.{right_header}
use Rattle.description.proofs.DemandWrite.{length_right}
use Rattle.sheets.proofs.Found.{counted, Found, counted_found}
use Rattle.to_word.specs.Laid.{Stated}

-- ---- accepted
module _ (sh : List ℕ) (p s d : ℕ) (e : counted p s d ≡ checked sh) where
  found : Found (sheet_faults sh) p s d (p_stated sh) (s_stated sh) (d_stated sh)
  unfolding checked
  found = counted_found (sheet_faults sh) (p_stated sh) (s_stated sh) (d_stated sh) e

  pub stated : Stated sh p s d
  unfolding sheet_faults record_faults
  stated =
      let a = all_clear (sheet_faults sh) tt found.clear in
      let fits = lists_clear (p_stated sh) (s_stated sh) (d_stated sh) a.1.1.1.1.0 in
      let f = found in
      record {
        sheet = (right_header sh a.0).whole ∙ sym (λ i. sheet_end form1 (f.pipes i) (f.streams i) (f.sections i));
        fits = omega (arith, fits, f.pipes, f.streams, f.sections);
      }

-- ---- the outcome
module _ (sh word : List ℕ) where
  refused : (n : ℕ) → write_refusal sh word ≡ n → (n ≡ 0 → ⊥) → Is (writing sh word) n word
  unfolding writing
  refused n e h = refusal_leaves (write_refusal sh word) _ word (sym e) h

  pub denied_length : (length word ≡ 96 → ⊥) → Is (writing sh word) 1 word
  unfolding write_refusal
  denied_length h = refused 1 (first_found (refuse 1 (not (eqb (length word) 96))) (sheet_faults sh) (ap not (ne_eqb (length word) 96 h))) (λ z. omega arith)

  module _ (n : length word ≡ 96) where
    -- the word is as it was
    pub denied : (m : ℕ) {after : List ℕ} → after ≡ word → refused_by m ≡ checked sh → Is (writing sh word) m after
    unfolding checked
    denied m same e =
        let h = refused_by_lem (sheet_faults sh) (p_stated sh) (s_stated sh ∷ d_stated sh ∷ []) e in
        subst (Is (writing sh word) m) (sym same) (refused m (length_right sh word n ∙ sym h.1) (λ z. h.0 (sym h.1 ∙ z)))

    pub written : (p s d : ℕ) → counted p s d ≡ checked sh → (after : List ℕ) → after ≡ word_of (sheet_lists form1 p s d (unpack sh)) → Is (writing sh word) 0 after
    unfolding writing lists_stated
    written p s d e after g =
        let f = found sh p s d e in
        let z : write_refusal sh word ≡ 0 = length_right sh word n ∙ f.clear in
        acceptance_leaves (write_refusal sh word) _ word z (g ∙ (λ i. word_of (sheet_lists form1 (f.pipes i) (f.streams i) (f.sections i) (unpack sh))))
