-- Laws of the forms: the test that tells two lists apart, what is told of bytes, and what that says.
-- Assumes nothing.
use Prim.Native.Nat.{ℕ, zero, suc, ◌<◌}
use mathlib.Core.Bool.{Bool, true, false, ◌&&◌}
use mathlib.Core.Path.{◌≡◌, refl, sym, ap, ◌∙◌}
use mathlib.Core.List.{List, [], ◌∷◌}
use native.Mathlib.Nat.{not-suc-le-zero}
use native.Mathlib.Omega.{arith}
use borrow.Author.Tests.{eq-eqb, ne_eqb}
use lib.Dec.{eqb}
use lib.ListN.{length, get_or, take, set}
use Rattle.std.specs.Prelude.{Option, None, Some, Result, Ok, Err}
use Rattle.ground.specs.Outcome.{Is, Told}
use Rattle.ground.specs.Choice.{choose, both, first_of}
use Rattle.ground.specs.Table.{same}
use Rattle.ground.specs.declared.refusal.Refusal.{Refusal}
use Rattle.ground.proofs.Refusals.{number_not_0, number_same}
use Rattle.ground.proofs.Choice.{choose_true, choose_false}
use Rattle.ground.proofs.Refusing.{refusal_leaves, acceptance_leaves}
use Rattle.ground.proofs.Answers.{refused_by, accepted_with, verdict_accepted, verdict_refused, refused_by_lem, accepted_with_lem}
use Rattle.preamble.specs.Preamble.{sof_inverted, due}
use Rattle.preamble_form.specs.Forms.{form_of, told, form_faults, forming, form_into}
use Rattle.preamble_form.specs.declared.Form.{Form}
use Rattle.preamble_form.specs.declared.Form.TheVariants.{Upright, Inverted}

-- ---- the test

-- one entry more
pub same_more : (l m : List ℕ) (i : ℕ) → i < length l → i < length m
    → same (take (suc i) l) (take (suc i) m) ≡ same (take i l) (take i m) && eqb (get_or l i 0) (get_or m i 0)
unfolding same
same_more [] m i h k = absurd (not-suc-le-zero h)
same_more (x ∷ l) [] i h k = absurd (not-suc-le-zero k)
same_more (x ∷ l) (y ∷ m) zero h k = only (eqb x y)
  where
    only : (b : Bool) → both b true ≡ b
    only true = refl
    only false = refl
same_more (x ∷ l) (y ∷ m) (suc i) h k =
    ap (both (eqb x y)) (same_more l m i (omega arith) (omega arith)) ∙ past (eqb x y) (same (take i l) (take i m)) (eqb (get_or l i 0) (get_or m i 0))
  where
    past : (a b c : Bool) → both a (b && c) ≡ both a b && c
    past true b c = refl
    past false b c = refl

-- ---- what is told of bytes

module _ (w : List ℕ) where
  pub upright : same w (due false) ≡ true → 1 ≡ form_of w
  unfolding form_of due
  upright e = sym (choose_true 1 (choose (same w sof_inverted) 2 0) e)

  pub inverted : same w (due false) ≡ false → same w (due true) ≡ true → 2 ≡ form_of w
  unfolding form_of due
  inverted e f = sym (choose_false 1 (choose (same w sof_inverted) 2 0) e ∙ choose_true 2 0 f)

  pub neither : same w (due false) ≡ false → same w (due true) ≡ false → 0 ≡ form_of w
  unfolding form_of due
  neither e f = sym (choose_false 1 (choose (same w sof_inverted) 2 0) e ∙ choose_false 2 0 f)

  pub tells_form : (f : ℕ) → length w ≡ 32 → f ≡ form_of w → accepted_with (f ∷ []) ≡ forming w
  unfolding forming
  tells_form f h e = ap (λ (n : ℕ). accepted_with (n ∷ [])) e ∙ sym (verdict_accepted (form_faults w) (form_of w ∷ []) (simp (eq-eqb (length w) 32 h)))

  pub tells_refusal : (length w ≡ 32 → ⊥) → refused_by 1 ≡ forming w
  unfolding forming
  tells_refusal h = sym (verdict_refused (form_faults w) (form_of w ∷ []) (simp (ne_eqb (length w) 32 h)) (λ e. omega (arith, e)))

  pub form_told : {f : ℕ} → accepted_with (f ∷ []) ≡ forming w → (first_of (form_faults w) ≡ 0) × (f ≡ form_of w)
  unfolding forming
  form_told e =
      let a = accepted_with_lem (form_faults w) (form_of w) [] e in
      (a.0, cc a.1)

  pub refusal_told : {n : ℕ} → refused_by n ≡ forming w → (first_of (form_faults w) ≡ 0 → ⊥) × (n ≡ first_of (form_faults w))
  unfolding forming
  refusal_told e = refused_by_lem (form_faults w) (form_of w) [] e

-- the form in one byte
module _ (w out : List ℕ) where
  pub into_room : (length out ≡ 1 → ⊥) → Is (form_into w out) 1 out
  unfolding form_into
  into_room h = refusal_leaves _ (form_of w ∷ []) out (simp (ne_eqb (length out) 1 h)) (λ e. omega (arith, e))

  pub into_refused : {n : ℕ} → length out ≡ 1 → refused_by n ≡ forming w → Is (form_into w out) n out
  unfolding form_into
  into_refused h e =
      let t = refusal_told w e in
      refusal_leaves _ (form_of w ∷ []) out (t.1 ∙ simp (eq-eqb (length out) 1 h)) (λ z. t.0 (sym t.1 ∙ z))

  pub into_done : {f : ℕ} (m : List ℕ) → length out ≡ 1 → accepted_with (f ∷ []) ≡ forming w → m ≡ f ∷ [] → Is (form_into w out) 0 m
  unfolding form_into
  into_done m h e q =
      let t = form_told w e in
      acceptance_leaves _ (form_of w ∷ []) out (simp (eq-eqb (length out) 1 h) t.0) (q ∙ ap (λ (n : ℕ). n ∷ []) t.1)

-- one byte, set
pub only : (l : List ℕ) (v : ℕ) → length l ≡ 1 → set l 0 v ≡ v ∷ []
only [] v e = absurd (omega arith)
only (x ∷ []) v e = refl
only (x ∷ y ∷ l) v e = absurd (omega arith)

-- what is told determines the answer
abbrev meant : List ℕ → Option Form
meant [] = None
meant (f ∷ l) = choose (eqb f 0) None (Some (choose (eqb f 1) Upright Inverted))

meant_back : (f : Option Form) → meant (told (Ok f)).values ≡ f
meant_back None = refl
meant_back (Some Upright) = refl
meant_back (Some Inverted) = refl

accepted : (f : Option Form) → (told (Ok f)).number ≡ 0
accepted None = refl
accepted (Some Upright) = refl
accepted (Some Inverted) = refl

pub told_inj : (h h' : Result (Option Form) Refusal) → told h ≡ told h' → h ≡ h'
told_inj (Ok f) (Ok g) t = ap (λ (x : Option Form). Ok x) (sym (meant_back f) ∙ ap (λ (x : Told). meant x.values) t ∙ meant_back g)
told_inj (Ok f) (Err e) t = absurd (number_not_0 e (sym (ap (λ (x : Told). x.number) t) ∙ accepted f))
told_inj (Err e) (Ok f) t = absurd (number_not_0 e (ap (λ (x : Told). x.number) t ∙ accepted f))
told_inj (Err d) (Err e) t = ap (λ (x : Refusal). Err x) (number_same (ap (λ (x : Told). x.number) t))
