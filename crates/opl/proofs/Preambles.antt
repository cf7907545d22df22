-- The two preambles and their forms, of the exported functions' own promises.
-- Assumes nothing.
use Prim.Native.Nat.{ℕ}
use mathlib.Core.Bool.{Bool, not}
use mathlib.Core.Path.{◌≡◌}
use mathlib.Core.List.{[], ◌∷◌}
use contract.Lifetimes.{Lfts}
use borrow.Fn.World.{ArgsD, ResD}
use borrow.Fn.Kinds.{ended_of}
use borrow.Author.Tests.{eq-eqb, ne_eqb}
use denote.Triple.Clauses.{AtExit}
use lib.Dec.{eqb}
use lib.ListN.{length}
use Rattle.preamble.specs.Alternates.{Opposite, Balanced}
use Rattle.preamble.proofs.Alternates.{left_balanced, left_opposite}
use Rattle.preamble_form.specs.Forms.{told}
use Rattle.preamble_form.specs.Alternates.{asked, Formed}
use Rattle.preamble_form.proofs.Alternates.{into_left, formed_into}
use Rattle.opl.specs.contracts.opl_preamble as opl_preamble
use Rattle.opl.proofs.opl_preamble.Kinds as opl_preamble_kinds
use Rattle.opl.proofs.opl_preamble.Reads as opl_preamble_reads
use Rattle.opl.specs.contracts.opl_preamble_form as opl_preamble_form
use Rattle.opl.proofs.opl_preamble_form.Kinds as opl_preamble_form_kinds
use Rattle.opl.proofs.opl_preamble_form.Reads as opl_preamble_form_reads

-- after a call opl_preamble(inverted, out) that answered 0
module _ (κs : Lfts 1) (a : ArgsD opl_preamble.signature κs) (r : ResD opl_preamble.signature κs)
    (s : AtExit (ended_of 1 opl_preamble_kinds.ps opl_preamble_kinds.r) κs) (did : opl_preamble_reads.Post κs a r s) (zero : r ≡ 0) where
  abbrev chosen : Bool
  chosen = not (eqb a.0 0)

  -- the buffer has as many ones as zeros
  pub opl_preamble_balanced : Balanced s.1.0.now
  opl_preamble_balanced = left_balanced chosen a.1.0.now s.1.0.now r did zero

  -- and where it is the upright one, it differs in all 256 bits from the buffer of a call for the inverted one that answered 0
  pub opl_preambles_opposite : (κt : Lfts 1) (b : ArgsD opl_preamble.signature κt) (q : ResD opl_preamble.signature κt)
      (t : AtExit (ended_of 1 opl_preamble_kinds.ps opl_preamble_kinds.r) κt)
      → opl_preamble_reads.Post κt b q t → q ≡ 0 → a.0 ≡ 0 → (b.0 ≡ 0 → ⊥) → Opposite s.1.0.now t.1.0.now
  opl_preambles_opposite κt b q t p z u i =
      left_opposite chosen (not (eqb b.0 0)) a.1.0.now s.1.0.now b.1.0.now t.1.0.now r q did zero p z
      (simp (eq-eqb a.0 0 u, ne_eqb b.0 0 i))

  -- opl_preamble_form(out, form) with one byte answers 0, and the byte has the form that was asked for
  pub opl_preamble_form_back : (κt : Lfts 2) (b : ArgsD opl_preamble_form.signature κt) (n : ResD opl_preamble_form.signature κt)
      (t : AtExit (ended_of 2 opl_preamble_form_kinds.ps opl_preamble_form_kinds.r) κt)
      → b.0.now ≡ s.1.0.now → length b.1.0.now ≡ 1 → opl_preamble_form_reads.Post κt b n t
      → (n ≡ 0) × (t.1.0.now ≡ (told (asked (not (eqb a.0 0)))).values)
  opl_preamble_form_back κt b n t e l p =
      into_left chosen a.1.0.now s.1.0.now r did zero b.0.now b.1.0.now t.1.0.now n e l p

-- what opl_preamble_form(bytes, form) leaves, where it answered 0, is just one form, and says which bytes they are
pub opl_preamble_formed : (κs : Lfts 2) (a : ArgsD opl_preamble_form.signature κs) (r : ResD opl_preamble_form.signature κs)
    (s : AtExit (ended_of 2 opl_preamble_form_kinds.ps opl_preamble_form_kinds.r) κs)
    → opl_preamble_form_reads.Post κs a r s → r ≡ 0 → (f : ℕ) × (s.1.0.now ≡ f ∷ []) × Formed a.0.now f
opl_preamble_formed κs a r s p z = formed_into a.0.now a.1.0.now s.1.0.now r p z
