-- What the check of a sheet says, from what its tests found.
-- Assumes nothing.
use Prim.Native.Nat.{ℕ}
use mathlib.Core.Path.{◌≡◌, sym, ◌∙◌}
use mathlib.Core.Bool.{true, false}
use mathlib.Core.List.{List, [], ◌∷◌}
use native.Mathlib.Omega.{arith}
use lib.ListN.{length}
use Rattle.ground.specs.Choice.{first_of}
use Rattle.ground.proofs.Choice.{choose_true, choose_false}
use Rattle.ground.proofs.Answers.{refused_by, accepted_with, verdict_accepted, verdict_refused}
use Rattle.bits.specs.Lists.{unpack}
use Rattle.description.specs.Sheet.{form1, sheet_end}
use Rattle.description.specs.Header.{p_stated, s_stated, d_stated, header_fault}
use Rattle.description.specs.Form1.{record_faults, sheet_faults, checked}
use Rattle.description.proofs.Restated.{right_header}
use Rattle.forms.specs.Records.{record_fault}
use Rattle.forms.proofs.Counts.{record_is}

module _ (sh : List ℕ) where
  pub header_faulty : header_fault form1 sh ≡ true → refused_by 12 ≡ checked sh
  unfolding checked sheet_faults
  header_faulty e = sym (verdict_refused (sheet_faults sh) _ (choose_true 12 _ e) (λ z. omega arith))

  module _ (right : header_fault form1 sh ≡ false) {p s d : ℕ} (ep : p ≡ p_stated sh) (es : s ≡ s_stated sh) (ed : d ≡ d_stated sh) where
    long : length sh ≡ sheet_end form1 p s d
    long = (right_header sh right).whole ∙ sym (λ i. sheet_end form1 (ep i) (es i) (ed i))

    fault_is : record_fault form1 p s d sh ≡ first_of (sheet_faults sh)
    unfolding sheet_faults
    fault_is = record_is form1 p s d sh long ∙ (λ i. first_of (record_faults form1 (ep i) (es i) (ed i) (unpack sh))) ∙ sym (choose_false 12 _ right)

    pub faulty : {n : ℕ} → n ≡ record_fault form1 p s d sh → (n ≡ 0 → ⊥) → refused_by n ≡ checked sh
    unfolding checked
    faulty e h = sym (verdict_refused (sheet_faults sh) _ (sym (e ∙ fault_is)) h)

    pub sound : {n : ℕ} → n ≡ record_fault form1 p s d sh → n ≡ 0 → accepted_with (p ∷ s ∷ d ∷ []) ≡ checked sh
    unfolding checked
    sound e z = (λ i. accepted_with (ep i ∷ es i ∷ ed i ∷ [])) ∙ sym (verdict_accepted (sheet_faults sh) _ (sym fault_is ∙ sym e ∙ z))
