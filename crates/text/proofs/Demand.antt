-- The listing of a sheet, over its own promise: it says ok last exactly when the sheet is that of a description that keeps the rules.
-- Assumes nothing.
use Prim.Native.Nat.{ℕ, ◌≤◌, ◌<◌}
use mathlib.Core.Path.{◌≡◌, refl, sym, ap, ◌∙◌, subst}
use mathlib.Core.List.{List}
use mathlib.Core.Logic.{◌↔◌}
use contract.Lifetimes.{Lfts}
use borrow.Fn.World.{ArgsD, ResD}
use borrow.Fn.Kinds.{ended_of}
use denote.Triple.Clauses.{AtExit}
use native.Mathlib.Decide.{ℕ_discrete}
use borrow.Author.Tests.{eq-eqb, ne_eqb, le-ltb}
use lib.ListN.{length, take}
use lib.Seq.{take-append_seam}
use lib.Dec.{eqb}
use Rattle.ground.specs.Choice.{choose}
use Rattle.ground.specs.Outcome.{Told, Is}
use Rattle.ground.proofs.Choice.{choose_true, choose_false}
use Rattle.description.specs.Description.{Description}
use Rattle.description.specs.Rules.{Keeps}
use Rattle.description.specs.Sheet.{sheet}
use Rattle.description.specs.Word.{front}
use Rattle.description.specs.Form1.{checked, lists_stated}
use Rattle.description.proofs.DemandWrite.{judged, long_refused}
use Rattle.lines.specs.Lines.{accepted}
use Rattle.text.specs.Listing.{listing, refused}
use Rattle.text.specs.Answers.{told, answered, listed, text_in, SaysOk}
use Rattle.std.specs.Prelude.{Result, Ok, Err}
use Rattle.text.specs.declared.Unlisted.{Unlisted}
use Rattle.text.specs.declared.Unlisted.TheVariants.{Refused, NoRoom}
use Rattle.text.proofs.Listed.{final}
use Rattle.text.proofs.Ok.{accepted_says, refused_silent}
use Rattle.text.specs.contracts.list as list
use Rattle.text.proofs.list.Kinds as list_kinds
use Rattle.text.proofs.list.Reads as list_reads

-- the text in the room is the listing
text_final : (r : Result ℕ Unlisted) (room : List ℕ) → text_in r room ≡ take (final (told r).values) room
text_final (Ok n) room = refl
text_final (Err (Refused e n)) room = refl
text_final (Err NoRoom) room = refl

final_answered : (sh : List ℕ) → final (answered sh).values ≡ length (listing sh)
unfolding answered
final_answered sh =
    elim (ℕ_discrete (checked sh).number 0) [
      | yes z ↦ ap (λ (t : Told). final t.values) (choose_true _ _ (eq-eqb (checked sh).number 0 z))
      | no h ↦ ap (λ (t : Told). final t.values) (choose_false _ _ (ne_eqb (checked sh).number 0 h))
    ]

module _ (sh out : List ℕ) (r : Result ℕ Unlisted) (after : List ℕ) (p : Is (listed sh out) (told r) after) (room : 1024 ≤ length out) where
  text_is : text_in r after ≡ listing sh
  unfolding listed
  text_is =
      let o : listed sh out ≡ record { answer = answered sh; memory = front (listing sh) out } = choose_false _ _ (le-ltb (length out) 1024 room) in
      let n : final (told r).values ≡ length (listing sh) = ap (λ (t : Told). final t.values) (p.answer ∙ ap (λ x. x.answer) o) ∙ final_answered sh in
      text_final r after ∙ ap (λ (k : ℕ). take k after) n ∙ ap (take (length (listing sh))) (p.memory ∙ ap (λ x. x.memory) o) ∙ take-append_seam (listing sh) _

  -- it says ok exactly when the sheet is accepted
  ok_iff : SaysOk (text_in r after) ↔ ((checked sh).number ≡ 0)
  unfolding listing
  ok_iff = (
    λ q. elim (ℕ_discrete (checked sh).number 0) [
      | yes z ↦ z
      | no h ↦ absurd (refused_silent (checked sh).number (subst SaysOk (text_is ∙ choose_false _ _ (ne_eqb (checked sh).number 0 h)) q))
    ],
    λ z. subst SaysOk (sym (text_is ∙ choose_true _ _ (eq-eqb (checked sh).number 0 z))) (accepted_says (lists_stated sh)),
  )

module _ (κs : Lfts 2) (a : ArgsD list.signature κs) (r : ResD list.signature κs) (s : AtExit (ended_of 2 list_kinds.ps list_kinds.r) κs) (p : list_reads.Post κs a r s)
    (room : 1024 ≤ length a.1.0.now) where
  pub says_ok : SaysOk (text_in r s.1.0.now) ↔ ((d : Description) × Keeps d × (sheet d ≡ a.0.now))
  says_ok =
      let ok = ok_iff a.0.now a.1.0.now r s.1.0.now p.0 room in
      let iff = (judged a.0.now (checked a.0.now) p.1 refl).accepts in
      (λ q. iff.0 (ok.0 q), λ q. ok.1 (iff.1 q))

  -- of a sheet of more than 2,571 bytes it says that it is refused with 12
  pub longer : 2571 < length a.0.now → text_in r s.1.0.now ≡ refused 12
  unfolding listing
  longer n =
      let e = long_refused a.0.now p.1 n in
      text_is a.0.now a.1.0.now r s.1.0.now p.0 room
      ∙ ap (λ (t : Told). choose (eqb t.number 0) (accepted (lists_stated a.0.now)) (refused t.number)) e
