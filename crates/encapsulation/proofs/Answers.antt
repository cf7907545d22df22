-- Laws of the writer's answer: a write that answers 0 was allowed, and leaves the word, whose packet has the size of its stream type.
-- Assumes nothing.
use Prim.Native.Nat.{ℕ, ◌-◌}
use mathlib.Core.Path.{◌≡◌, sym, ap, ◌∙◌}
use mathlib.Core.List.{List, ◌++◌, append-nil}
use native.Mathlib.Decide.{ℕ_discrete}
use native.Mathlib.Omega.{arith}
use borrow.Author.Tests.{eq-eqb}
use lib.Dec.{eqb}
use lib.ListN.{length}
use Rattle.ground.specs.Outcome.{Is}
use Rattle.ground.specs.Choice.{choose}
use Rattle.ground.proofs.Choice.{choose_true, choose_false}
use Rattle.infoword.specs.Word.{packet_bytes, word_of}
use Rattle.infoword.proofs.Closing.{has_2, has_not}
use Rattle.infoword.proofs.Written.{packet_long}
use Rattle.write_faults.specs.Faults.{write_refusal}
use Rattle.encapsulation.specs.Writing.{repeated, packet_of, written}
use Rattle.write_faults.proofs.Faults.{Writable, write_accepts, writable}
use Rattle.encapsulation.proofs.Laid.{lent_2, lent_other, packet_is, packet_other, packets_length}

module _ (kind id count : ℕ) (p null w : List ℕ) (r : ℕ) (m : List ℕ) (o : Is (written kind id count p null w) r m) where
  -- a write that is not refused answers 0 and leaves the word
  pub writes : Writable kind count (length p) (length null) (length w) → (r ≡ 0) × (m ≡ word_of kind id (packet_of kind count p null))
  unfolding written
  writes a =
      let n : ℕ = write_refusal kind count (length p) (length null) (length w) in
      let e : 0 ≡ n = write_accepts kind count (length p) (length null) (length w) a in
      (o.answer ∙ sym e, o.memory ∙ choose_true (word_of kind id (packet_of kind count p null)) w (eq-eqb n 0 (sym e)))

  -- and one that answered 0 was not refused
  pub wrote : r ≡ 0 → Writable kind count (length p) (length null) (length w)
  unfolding written
  wrote e = writable kind count (length p) (length null) (length w) (sym o.answer ∙ e)

-- the packet that is carried has the size of its stream type
pub carried_length : (kind count : ℕ) (p null : List ℕ) (n : ℕ) → Writable kind count (length p) (length null) n → length (packet_of kind count p null) ≡ packet_bytes kind
carried_length kind count p null n a =
    elim (ℕ_discrete kind 2) [
      | yes e ↦ ap length (packet_is kind count p null e) ∙ packets_length count p null (a.count_is e) (a.payload_is ∙ lent_2 kind count e) (a.null_is e) ∙ sym (packet_long kind (has_2 kind e))
      | no n ↦ ap length (packet_other kind count p null n) ∙ a.payload_is ∙ lent_other kind count n ∙ sym (choose_false 1504 (choose (eqb kind 1) 1532 0) (has_not kind n (λ e. omega (arith, a.kind_is))))
    ]

-- eight packets need no null packet
pub packet_whole : (kind count : ℕ) (p null : List ℕ) → (kind ≡ 2 → count ≡ 8) → packet_of kind count p null ≡ p
unfolding repeated
packet_whole kind count p null c =
    elim (ℕ_discrete kind 2) [
      | yes e ↦ packet_is kind count p null e ∙ ap (λ (k : ℕ). p ++ repeated (8 - k) null) (c e) ∙ append-nil p
      | no n ↦ packet_other kind count p null n
    ]
