-- The writer over the definitions: a sheet is accepted exactly when it is the sheet of some description that keeps the rules; there is then only one, and the 96 bytes are its layout.
-- Assumes nothing.
use Prim.Native.Nat.{ℕ, ◌<◌}
use mathlib.Core.Path.{◌≡◌, refl, sym, ap, ◌∙◌, subst}
use mathlib.Core.Bool.{Bool, true, false, not}
use mathlib.Core.List.{List, [], ◌∷◌}
use mathlib.Core.Logic.{◌↔◌}
use lib.Dec.{eqb}
use native.Mathlib.Omega.{arith}
use lib.ListN.{length, get_or}
use borrow.Author.Tests.{eq-eqb, ne_eqb}
use Rattle.ground.specs.Outcome.{Told, Is}
use Rattle.ground.specs.Choice.{refuse, first_of, verdict}
use Rattle.ground.proofs.Choice.{choose_true, choose_false, first_clear}
use Rattle.ground.proofs.Answers.{refused_by, verdict_number, verdict_accepted, verdict_refused}
use Rattle.bits.specs.Lists.{Below}
use Rattle.bits.proofs.Below.{below_get}
use Rattle.description.specs.Description.{Description, lists_of, describe}
use Rattle.description.specs.Rules.{Keeps}
use Rattle.description.specs.Layout.{word_of, layout}
use Rattle.description.specs.Sheet.{form1, header, sheet_of, sheet}
use Rattle.description.specs.Form1.{lists_stated, sheet_faults, checked, write_refusal, writing}
use Rattle.description.specs.Header.{p_stated, s_stated, d_stated, header_fault}
use Rattle.description.specs.Demand.{Wanted, Judged, counts_of}
use Rattle.description.proofs.Demand.{counts_lists}
use Rattle.description.proofs.Deal.{lists_describe, describe_lists, counted, sized}
use Rattle.description.proofs.Sound.{Sound}
use Rattle.description.proofs.Keeps.{Clean, sized_keeps, sound_keeps, clean_keeps, keeps_clean}
use Rattle.description.proofs.Form1.{lists_sheet, accepted_sheet}
use Rattle.description.proofs.Restated.{right_header, sound_stated, counted_stated, clean_stated, sheet_stated}

-- what a sheet describes
unfoldable pub stated : List ℕ → Description
stated sh = describe (lists_stated sh)

-- ---- the sheet of a description that keeps the rules
module _ (d : Description) (k : Keeps d) where
  pub lists_of_sheet : lists_stated (sheet d) ≡ lists_of d
  unfolding sheet
  lists_of_sheet = lists_sheet (lists_of d) (sound_keeps d k)

  pub stated_sheet : stated (sheet d) ≡ d
  unfolding stated
  stated_sheet = ap describe lists_of_sheet ∙ describe_lists d (sized_keeps d k)

  pub clear_sheet : first_of (sheet_faults (sheet d)) ≡ 0
  unfolding sheet
  clear_sheet = accepted_sheet (lists_of d) (sound_keeps d k) (counted d (sized_keeps d k)) (clean_keeps d k)

  pub word_of_sheet : word_of (lists_stated (sheet d)) ≡ layout d
  unfolding word_of layout
  word_of_sheet = ap word_of lists_of_sheet

-- ---- a sheet in which nothing is found
module _ (sh : List ℕ) (h : first_of (sheet_faults sh) ≡ 0) where
  lists_stated_lem : lists_of (stated sh) ≡ lists_stated sh
  unfolding stated
  lists_stated_lem = lists_describe (lists_stated sh) (counted_stated sh h)

  pub keeps_stated : Keeps (stated sh)
  unfolding stated
  keeps_stated =
      keeps_clean (stated sh) (sized (lists_stated sh) (counted_stated sh h))
      (subst Sound (sym lists_stated_lem) (sound_stated sh)) (subst Clean (sym lists_stated_lem) (clean_stated sh h))

  pub sheet_of_stated : Below 256 sh → sheet (stated sh) ≡ sh
  unfolding sheet
  sheet_of_stated bytes = ap sheet_of lists_stated_lem ∙ sheet_stated sh h bytes

-- ---- the length
pub length_right : (sh word : List ℕ) → length word ≡ 96 → write_refusal sh word ≡ first_of (sheet_faults sh)
unfolding write_refusal
length_right sh word n = first_clear (refuse 1 (not (eqb (length word) 96))) (sheet_faults sh) (ap not (eq-eqb (length word) 96 n))

-- ---- the writer
module _ (sh word : List ℕ) (bytes : Below 256 sh) (n : length word ≡ 96) where
  -- accepted exactly when it is the sheet of some description that keeps the rules
  pub written_iff : (write_refusal sh word ≡ 0) ↔ ((d : Description) × Keeps d × (sheet d ≡ sh))
  written_iff = (there, back)
    where
      there : write_refusal sh word ≡ 0 → ((d : Description) × Keeps d × (sheet d ≡ sh))
      there r =
          let h : first_of (sheet_faults sh) ≡ 0 = sym (length_right sh word n) ∙ r in
          (stated sh, keeps_stated sh h, sheet_of_stated sh h bytes)

      back : ((d : Description) × Keeps d × (sheet d ≡ sh)) → write_refusal sh word ≡ 0
      back q = length_right sh word n ∙ subst (λ (x : List ℕ). first_of (sheet_faults x) ≡ 0) q.2 (clear_sheet q.0 q.1)

-- that description is the one stated, so there is only one
pub the_stated : (sh : List ℕ) (d : Description) → Keeps d → sheet d ≡ sh → stated sh ≡ d
the_stated sh d k e = subst (λ (x : List ℕ). stated x ≡ d) e (stated_sheet d k)

pub one_stated : (sh : List ℕ) (d e : Description) → Keeps d → Keeps e → sheet d ≡ sh → sheet e ≡ sh → d ≡ e
one_stated sh d e k j p q = sym (the_stated sh d k p) ∙ the_stated sh e j q

-- and the word of the sheet's lists is its layout
pub the_word : (sh : List ℕ) (d : Description) → Keeps d → sheet d ≡ sh → word_of (lists_stated sh) ≡ layout d
the_word sh d k e = subst (λ (x : List ℕ). word_of (lists_stated x) ≡ layout d) e (word_of_sheet d k)

module _ (sh word : List ℕ) where
  -- the number is the refusal
  pub writing_number : (writing sh word).answer ≡ write_refusal sh word
  unfolding writing
  writing_number = refl

  pub accepted_writing : write_refusal sh word ≡ 0 → writing sh word ≡ record { answer = 0; memory = word_of (lists_stated sh) }
  unfolding writing
  accepted_writing z = λ i. record { answer = z i; memory = choose_true (word_of (lists_stated sh)) word (eq-eqb (write_refusal sh word) 0 z) i }

  refused_writing : (write_refusal sh word ≡ 0 → ⊥) → (writing sh word).memory ≡ word
  unfolding writing
  refused_writing h = choose_false _ _ (ne_eqb (write_refusal sh word) 0 h)

pub wanted : (sh word : List ℕ) (r : ℕ) (after : List ℕ) → Below 256 sh → length word ≡ 96 → Is (writing sh word) r after → Wanted sh word r after
wanted sh word r after bytes n p = record {
  accepts = (λ e. iff.0 (sym (writing_number sh word) ∙ sym p.answer ∙ e), λ q. zero (iff.1 q));
  only = one_stated sh;
  lays = λ d k e. p.memory ∙ ap (λ o. o.memory) (accepted_writing sh word (iff.1 (d, k, e))) ∙ the_word sh d k e;
  leaves = λ h. p.memory ∙ refused_writing sh word (λ z. h (zero z));
}
  where
    iff : (write_refusal sh word ≡ 0) ↔ ((d : Description) × Keeps d × (sheet d ≡ sh))
    iff = written_iff sh word bytes n

    zero : write_refusal sh word ≡ 0 → r ≡ 0
    zero z = p.answer ∙ writing_number sh word ∙ z

-- ---- the check
pub judged : (sh : List ℕ) (t : Told) → Below 256 sh → t ≡ checked sh → Judged sh t.number t.values
unfolding checked sheet sheet_of header
judged sh t bytes e = record {
  accepts = (
    λ z. let h = sym zero ∙ z in (stated sh, keeps_stated sh h, sheet_of_stated sh h bytes),
    λ q. zero ∙ subst (λ (x : List ℕ). first_of (sheet_faults x) ≡ 0) q.2 (clear_sheet q.0 q.1),
  );
  counts = λ d k q.
      let h : first_of (sheet_faults sh) ≡ 0 = subst (λ (x : List ℕ). first_of (sheet_faults x) ≡ 0) q (clear_sheet d k) in
      ap (λ (x : Told). x.values) (e ∙ verdict_accepted (sheet_faults sh) _ h)
      ∙ subst (λ (x : List ℕ). p_stated x ∷ s_stated x ∷ d_stated x ∷ [] ≡ counts_of d) q (counts_lists d);
}
  where
    zero : t.number ≡ first_of (sheet_faults sh)
    zero = ap (λ (x : Told). x.number) e ∙ verdict_number (sheet_faults sh) _

-- a sheet of more than 2,571 bytes is refused with 12: each count is a byte, and no header of three bytes' counts states more
pub long_refused : (sh : List ℕ) → Below 256 sh → 2571 < length sh → checked sh ≡ refused_by 12
unfolding checked sheet_faults
long_refused sh bytes n = found (header_fault form1 sh) refl
  where
    found : (b : Bool) → header_fault form1 sh ≡ b → verdict (sheet_faults sh) (p_stated sh ∷ s_stated sh ∷ d_stated sh ∷ []) ≡ refused_by 12
    found true e = verdict_refused (sheet_faults sh) _ (choose_true 12 _ e) (λ z. omega arith)
    found false e =
        let byte : (i : ℕ) → get_or sh i 0 < 256 = λ i. below_get 256 sh i (omega arith) bytes in
        absurd (omega (arith, (right_header sh e).whole, byte 0, byte 1, byte 2))
