-- What listing a sheet gives, from what its check says and from the text that was put.
-- Assumes nothing.
use Prim.Native.Nat.{ℕ, ◌≤◌, ◌<◌}
use mathlib.Core.Path.{◌≡◌, sym, ap, ap₂, ◌∙◌, subst}
use mathlib.Core.List.{List, [], ◌∷◌}
use native.Mathlib.Omega.{arith}
use borrow.Author.Tests.{eq-eqb, ne_eqb, lt-ltb, le-ltb}
use lib.Dec.{eqb, ltb}
use lib.ListN.{length}
use Rattle.ground.specs.Outcome.{Outcome, Told, Is}
use Rattle.ground.proofs.Outcome.{gave}
use Rattle.ground.proofs.Choice.{choose_true, choose_false, choose_most, all_clear}
use Rattle.ground.proofs.Answers.{refused_by, refused_by_lem}
use Rattle.description.specs.Word.{front}
use Rattle.description.specs.Sheet.{form1}
use Rattle.description.specs.Header.{p_stated, s_stated, d_stated}
use Rattle.description.specs.Form1.{lists_stated, sheet_faults, record_faults, checked}
use Rattle.description.proofs.Restated.{right_header}
use Rattle.views.specs.View.{sheet_view, lists_at}
use Rattle.views.proofs.Lists.{sheet_lists_lem}
use Rattle.sheets.proofs.Found.{Found, counted, counted_found}
use Rattle.words.specs.Words.{put}
use Rattle.words.proofs.Puts.{put_front}
use Rattle.lines.specs.Lines.{accepted}
use Rattle.text.specs.Listing.{refused, listing}
use Rattle.text.specs.Answers.{answered, listed}
use Rattle.text.proofs.Short.{listing_short}

module _ (sh out : List ℕ) where
  pub no_room : length out < 1024 → Is (listed sh out) (record { number = 1; values = [] }) out
  unfolding listed
  no_room h = gave (choose_true _ _ (lt-ltb (length out) 1024 h))

  module _ (room : 1024 ≤ length out) where
    -- the whole text has room
    whole : (text : List ℕ) → listing sh ≡ text → {n : ℕ} {out' : List ℕ} → Is (put out 0 text) n out' → (n ≡ length (listing sh)) × (out' ≡ front (listing sh) out)
    whole text e {n} {out'} p = put_front out (listing sh) (omega (arith, listing_short sh)) (subst (λ (x : List ℕ). Is (put out 0 x) n out') (sym e) p)

    text_put : {t : Told} {out' : List ℕ} → answered sh ≡ t → out' ≡ front (listing sh) out → Is (listed sh out) t out'
    unfolding listed
    text_put a m =
        gave (choose_false _ _ (le-ltb (length out) 1024 room) ∙ ap₂ (λ (x : Told) (y : List ℕ). record { answer = x; memory = y }) a (sym m))

    -- ---- accepted
    module _ (p s d : ℕ) (e : counted p s d ≡ checked sh) where
      clear : (checked sh).number ≡ 0
      clear = ap (λ t. t.number) (sym e)

      found : Found (sheet_faults sh) p s d (p_stated sh) (s_stated sh) (d_stated sh)
      unfolding checked
      found = counted_found (sheet_faults sh) (p_stated sh) (s_stated sh) (d_stated sh) e

      -- the lists that stand where the view says are those that the sheet states
      lists_are : lists_at (sheet_view form1 p s) p s d sh ≡ lists_stated sh
      unfolding lists_stated sheet_faults record_faults
      lists_are =
          let h = right_header sh (all_clear (sheet_faults sh) tt found.clear).0 in
          (λ i. lists_at (sheet_view form1 (found.pipes i) (found.streams i)) (found.pipes i) (found.streams i) (found.sections i) sh)
          ∙ sheet_lists_lem form1 (p_stated sh) (s_stated sh) (d_stated sh) sh h.whole

      text_is : listing sh ≡ accepted (lists_at (sheet_view form1 p s) p s d sh)
      unfolding listing
      text_is = choose_true _ _ (eq-eqb (checked sh).number 0 clear) ∙ ap accepted (sym lists_are)

      pub accepted_put : {n : ℕ} {out' : List ℕ} → Is (put out 0 (accepted (lists_at (sheet_view form1 p s) p s d sh))) n out'
          → Is (listed sh out) (record { number = 0; values = n ∷ [] }) out'
      unfolding answered
      accepted_put q =
          let f = whole _ text_is q in
          text_put (choose_true _ _ (eq-eqb (checked sh).number 0 clear) ∙ ap (λ (k : ℕ). record { number = 0; values = k ∷ [] }) (sym f.0)) f.1

    -- ---- refused
    module _ (m : ℕ) (e : refused_by m ≡ checked sh) where
      number_is : (checked sh).number ≡ m
      number_is = ap (λ t. t.number) (sym e)

      not_clear : (checked sh).number ≡ 0 → ⊥
      unfolding checked
      not_clear z = let h = refused_by_lem (sheet_faults sh) (p_stated sh) (s_stated sh ∷ d_stated sh ∷ []) e in h.0 (sym h.1 ∙ sym number_is ∙ z)

      text_refused : listing sh ≡ refused m
      unfolding listing
      text_refused = choose_false _ _ (ne_eqb (checked sh).number 0 not_clear) ∙ ap refused number_is

      pub refused_put : {n : ℕ} {out' : List ℕ} → Is (put out 0 (refused m)) n out' → Is (listed sh out) (record { number = m; values = m ∷ n ∷ [] }) out'
      unfolding answered
      refused_put q =
          let f = whole (refused m) text_refused q in
          text_put
          (choose_false _ _ (ne_eqb (checked sh).number 0 not_clear) ∙ ap₂ (λ (j k : ℕ). record { number = j; values = j ∷ k ∷ [] }) number_is (sym f.0))
          f.1

-- ---- how long the text is that an answer tells of: its last value
abbrev pub final : List ℕ → ℕ
final [] = 0
final (x ∷ []) = x
final (x ∷ y ∷ l) = final (y ∷ l)

answer_short : (sh out : List ℕ) → final (listed sh out).answer.values ≤ 815
unfolding listed answered
answer_short sh out =
    choose_most (λ (o : Outcome Told (List ℕ)). final o.answer.values) 815 (ltb (length out) 1024) _ _ (omega arith)
    (choose_most (λ (t : Told). final t.values) 815 (eqb (checked sh).number 0) _ _ (listing_short sh) (listing_short sh))

pub told_short : (sh out : List ℕ) {out' : List ℕ} {t : Told} → Is (listed sh out) t out' → final t.values ≤ 815
told_short sh out i = subst (λ (t : Told). final t.values ≤ 815) (sym i.answer) (answer_short sh out)
