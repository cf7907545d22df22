-- The forms of the two preambles, over the definitions: what a form says, and which form has what a call that wrote a preamble left.
-- Assumes nothing.
use Prim.Native.Nat.{ℕ}
use mathlib.Core.Bool.{Bool, true, false, true≢false}
use mathlib.Core.Path.{◌≡◌, refl, sym, ap, ◌∙◌, subst}
use mathlib.Core.List.{List, [], ◌∷◌}
use native.Mathlib.Omega.{arith}
use borrow.Author.Tests.{eq-eqb}
use lib.Dec.{T}
use lib.ListN.{length}
use Rattle.ground.specs.Outcome.{Is, Told}
use Rattle.ground.specs.Choice.{choose}
use Rattle.ground.proofs.Choice.{choose_true}
use Rattle.ground.proofs.Outcome.{agree}
use Rattle.ground.proofs.Answers.{accepted_with}
use Rattle.bits.specs.Lists.{bits, num, unpack, pack}
use Rattle.preamble.specs.Preamble.{sof, inverse, sof_inverted, due, written}
use Rattle.preamble.proofs.Laws.{due_length}
use Rattle.preamble.proofs.Alternates.{left}
use Rattle.ground.specs.Table.{same}
use Rattle.ground.proofs.Table.{same_refl, same_is}
use Rattle.preamble_form.specs.Forms.{form_of, told, forming, form_into}
use Rattle.preamble_form.specs.Alternates.{asked, Formed}
use Rattle.preamble_form.proofs.Telling.{tells_form, form_told, into_done}

-- ---- what a form says

same_ne : (l m : List ℕ) → same l m ≡ false → l ≡ m → ⊥
same_ne l m e h = true≢false (sym (same_refl m) ∙ ap (λ (x : List ℕ). same x m) (sym h) ∙ e)

-- the two are not one
apart : sof ≡ sof_inverted → ⊥
unfolding same sof sof_inverted inverse pack unpack bits num
apart = same_ne sof sof_inverted refl

-- by what the two tests gave
formed_by : (w : List ℕ) (a b : Bool) → same w sof ≡ a → same w sof_inverted ≡ b → Formed w (choose a 1 (choose b 2 0))
formed_by w true b e f =
    let h : w ≡ sof = same_is w sof (subst T (sym e) tt) in
    record {
      one = omega arith;
      upright = (λ z. h, λ z. refl);
      inverted = (λ z. absurd (omega (arith, z)), λ z. absurd (apart (sym h ∙ z)));
      neither = (λ z. absurd (omega (arith, z)), λ z. absurd (z.0 h));
    }
formed_by w false true e f =
    let h : w ≡ sof_inverted = same_is w sof_inverted (subst T (sym f) tt) in
    record {
      one = omega arith;
      upright = (λ z. absurd (omega (arith, z)), λ z. absurd (apart (sym z ∙ h)));
      inverted = (λ z. h, λ z. refl);
      neither = (λ z. absurd (omega (arith, z)), λ z. absurd (z.1 h));
    }
formed_by w false false e f =
    record {
      one = omega arith;
      upright = (λ z. absurd (omega (arith, z)), λ z. absurd (same_ne w sof e z));
      inverted = (λ z. absurd (omega (arith, z)), λ z. absurd (same_ne w sof_inverted f z));
      neither = (λ z. (same_ne w sof e, same_ne w sof_inverted f), λ z. refl);
    }

pub formed : (w : List ℕ) → Formed w (form_of w)
unfolding form_of
formed w = formed_by w (same w sof) (same w sof_inverted) refl refl

-- a form that is told is that of the bytes, and so is one that was put into a byte
pub formed_told : (w : List ℕ) {f : ℕ} → accepted_with (f ∷ []) ≡ forming w → Formed w f
formed_told w e = subst (Formed w) (sym (form_told w e).1) (formed w)

pub formed_into : (w out m : List ℕ) (r : ℕ) → Is (form_into w out) r m → r ≡ 0 → (f : ℕ) × (m ≡ f ∷ []) × Formed w f
unfolding form_into
formed_into w out m r p z = (form_of w, p.memory ∙ choose_true (form_of w ∷ []) out (eq-eqb _ 0 (sym p.answer ∙ z)), formed w)

-- ---- after a call that wrote a preamble

form_due : (c : Bool) → told (asked c) ≡ accepted_with (form_of (due c) ∷ [])
unfolding due form_of same sof sof_inverted inverse pack unpack bits num
form_due true = refl
form_due false = refl

module _ (c : Bool) (out m : List ℕ) (r : ℕ) (o : Is (written c out) r m) (z : r ≡ 0) where
  told_left : (w : List ℕ) → w ≡ m → accepted_with (form_of (due c) ∷ []) ≡ forming w
  told_left w e =
      let h : w ≡ due c = e ∙ left c out m r o z in
      tells_form w (form_of (due c)) (ap length h ∙ due_length c) (ap form_of (sym h))

  -- the form of what it left is the one asked for
  pub form_left : (w : List ℕ) → w ≡ m → told (asked c) ≡ forming w
  form_left w e = form_due c ∙ told_left w e

  -- also in one byte
  pub into_left : (w b f : List ℕ) (n : ℕ) → w ≡ m → length b ≡ 1 → Is (form_into w b) n f → (n ≡ 0) × (f ≡ (told (asked c)).values)
  into_left w b f n e l p =
      let q = agree p (into_done w b (form_of (due c) ∷ []) l (told_left w e) refl) in
      (q.0, q.1 ∙ sym (ap (λ (t : Told). t.values) (form_due c)))
