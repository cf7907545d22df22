-- Theorems about the functions' own promises: the form of what was written is the one asked for, and a form is just one.
-- Assumes nothing.
use Prim.Native.Nat.{ℕ}
use mathlib.Core.Path.{◌≡◌, sym, ◌∙◌}
use mathlib.Core.List.{[], ◌∷◌}
use contract.Lifetimes.{Lfts}
use borrow.Fn.World.{ArgsD, ResD}
use borrow.Fn.Kinds.{ended_of}
use denote.Triple.Clauses.{AtExit}
use lib.ListN.{length}
use Rattle.ground.specs.Refusals.{status}
use Rattle.ground.proofs.Answers.{accepted_with}
use Rattle.preamble.specs.contracts.write as write
use Rattle.preamble.proofs.write.Kinds as write_kinds
use Rattle.preamble.proofs.write.Reads as write_reads
use Rattle.preamble_form.specs.Forms.{told}
use Rattle.preamble_form.specs.Alternates.{asked, Formed}
use Rattle.preamble_form.proofs.Telling.{told_inj}
use Rattle.preamble_form.proofs.Alternates.{form_left, into_left, formed_told, formed_into}
use Rattle.preamble_form.specs.contracts.tell as tell
use Rattle.preamble_form.proofs.tell.Kinds as tell_kinds
use Rattle.preamble_form.proofs.tell.Reads as tell_reads
use Rattle.preamble_form.specs.contracts.tell_into as tell_into
use Rattle.preamble_form.proofs.tell_into.Kinds as tell_into_kinds
use Rattle.preamble_form.proofs.tell_into.Reads as tell_into_reads

-- after a call preamble::write(inverted, out) that answered 0
module _ (κs : Lfts 1) (a : ArgsD write.signature κs) (r : ResD write.signature κs) (s : AtExit (ended_of 1 write_kinds.ps write_kinds.r) κs)
    (did : write_reads.Post κs a r s) (zero : status r ≡ 0) where
  -- tell(out) gives the form that was asked for
  pub tell_after_write : (κt : Lfts 1) (b : ArgsD tell.signature κt) (h : ResD tell.signature κt) (t : AtExit (ended_of 1 tell_kinds.ps tell_kinds.r) κt)
      → b.0.now ≡ s.1.0.now → tell_reads.Post κt b h t → h ≡ asked a.0
  tell_after_write κt b h t e p =
      told_inj h (asked a.0) (p ∙ sym (form_left a.0 a.1.0.now s.1.0.now (status r) did zero b.0.now e))

  -- and tell_into(out, form) answers 0 and leaves it in a lent byte
  pub tell_into_after_write : (κt : Lfts 2) (b : ArgsD tell_into.signature κt) (n : ResD tell_into.signature κt)
      (t : AtExit (ended_of 2 tell_into_kinds.ps tell_into_kinds.r) κt)
      → b.0.now ≡ s.1.0.now → length b.1.0.now ≡ 1 → tell_into_reads.Post κt b n t → (status n ≡ 0) × (t.1.0.now ≡ (told (asked a.0)).values)
  tell_into_after_write κt b n t e l p =
      into_left a.0 a.1.0.now s.1.0.now (status r) did zero b.0.now b.1.0.now t.1.0.now (status n) e l p

-- a form that tell(bytes) tells is just one, and says which bytes they are
pub tell_formed : (κs : Lfts 1) (a : ArgsD tell.signature κs) (r : ResD tell.signature κs) (s : AtExit (ended_of 1 tell_kinds.ps tell_kinds.r) κs)
    → tell_reads.Post κs a r s → (f : ℕ) → told r ≡ accepted_with (f ∷ []) → Formed a.0.now f
tell_formed κs a r s p f e = formed_told a.0.now (sym e ∙ p)

-- and so is what tell_into(bytes, form) leaves, where it answered 0
pub tell_into_formed : (κs : Lfts 2) (a : ArgsD tell_into.signature κs) (r : ResD tell_into.signature κs)
    (s : AtExit (ended_of 2 tell_into_kinds.ps tell_into_kinds.r) κs)
    → tell_into_reads.Post κs a r s → status r ≡ 0 → (f : ℕ) × (s.1.0.now ≡ f ∷ []) × Formed a.0.now f
tell_into_formed κs a r s p z = formed_into a.0.now a.1.0.now s.1.0.now (status r) p z
