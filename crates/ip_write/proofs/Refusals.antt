-- Laws of the writer's refusals: the facts that lead to each number.
-- Assumes nothing.
use Prim.Native.Nat.{ℕ}
use mathlib.Core.Bool.{false, not}
use mathlib.Core.Path.{◌≡◌, sym, ap, ◌∙◌}
use mathlib.Core.Logic.{◌⊎◌, inl, inr}
use mathlib.Core.List.{List, [], ◌∷◌}
use borrow.Author.Tests.{eq-eqb, ne_eqb}
use lib.Dec.{eqb}
use Rattle.std.specs.Prelude.{Ok, Err}
use Rattle.ground.specs.declared.refusal.Refusal.{Refusal}
use Rattle.ground.specs.Choice.{Fault, refuse, first_of}
use Rattle.ground.specs.Refusals.{number}
use Rattle.ground.proofs.Choice.{first_at, clear_all}
use Rattle.ground.proofs.Faults.{first_before}
use Rattle.ground.proofs.Refusals.{number_not_0}
use Rattle.ip.specs.Memory.{Queue, queue_in}
use Rattle.ip_queue.specs.Looking.{misplaced, Front, Ready, told, front_faults, front_of}
use Rattle.ip_queue.proofs.Seen.{refusal_is, ready_is}
use Rattle.ip_write.specs.Writing.{write_faults}

module _ (sent : ℕ) (q : List ℕ) (word progress : ℕ) where
  abbrev faults : List Fault
  faults = write_faults sent (queue_in 0 q) word progress

  -- what is seen of the queue comes first
  pub front_wrong : (e : Refusal) → told (Err e) ≡ front_of sent q → number e ≡ first_of faults
  front_wrong e h =
      let n : number e ≡ first_of (front_faults sent (queue_in 0 q)) = ap (λ (f : Front). f.refusal) h ∙ refusal_is sent q in
      n ∙ sym (first_before (front_faults sent (queue_in 0 q)) (refuse 1 (not (eqb word 1536)) ∷ refuse 1 (not (eqb progress 8)) ∷ []) (λ z. number_not_0 e (n ∙ z)))

  module _ (a : ℕ) (seen : told (Ok a) ≡ front_of sent q) where
    pub ready : Ready q sent
    ready = ready_is sent q (ap (λ (f : Front). f.refusal) (sym seen))

    clear : not (eqb (queue_in 0 q).number 0) ≡ false
    clear = ap not (eq-eqb (queue_in 0 q).number 0 ready.0)

    pub length_wrong : (word ≡ 1536 → ⊥) ⊎ ((word ≡ 1536) × (progress ≡ 8 → ⊥)) → 1 ≡ first_of faults
    length_wrong (inl h) = sym (first_at 2 faults (clear, (ready.1, tt)) (ap not (ne_eqb word 1536 h)))
    length_wrong (inr h) = sym (first_at 3 faults (clear, (ready.1, (ap not (eq-eqb word 1536 h.0), tt))) (ap not (ne_eqb progress 8 h.1)))

-- a call that is as it has to be is not refused
pub none_wrong : (sent : ℕ) (c : Queue) (word progress : ℕ) → c.number ≡ 0 → misplaced sent c.packets ≡ false → word ≡ 1536 → progress ≡ 8
    → 0 ≡ first_of (write_faults sent c word progress)
none_wrong sent c word progress whole placed long short =
    sym (clear_all (write_faults sent c word progress)
    (ap not (eq-eqb c.number 0 whole), (placed, (ap not (eq-eqb word 1536 long), (ap not (eq-eqb progress 8 short), tt)))))
