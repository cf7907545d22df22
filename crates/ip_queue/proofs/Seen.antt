-- Laws of what is seen of a queue before a word is filled from it: the facts that lead to each answer, and what an answer says.
-- Assumes nothing.
use Prim.Native.Nat.{ℕ, zero, suc, ◌<◌}
use mathlib.Core.Bool.{Bool, true, false, not}
use mathlib.Core.Path.{◌≡◌, refl, sym, ap, ◌∙◌}
use mathlib.Core.List.{List}
use native.Mathlib.Decide.{dec_le, dec_lt}
use native.Mathlib.Omega.{arith}
use lib.Dec.{eqb}
use borrow.Author.Tests.{eq-eqb, ne_eqb, le-leb, lt-leb}
use Rattle.std.specs.Prelude.{Result, Ok, Err}
use Rattle.ground.specs.declared.refusal.Refusal.{Refusal}
use Rattle.ground.specs.declared.refusal.Refusal.TheVariants.{LengthWrong}
use Rattle.ground.specs.Choice.{choose, Fault, first_of}
use Rattle.ground.specs.Refusals.{number}
use Rattle.ground.proofs.Choice.{choose_true, choose_false, first_at, clear_all}
use Rattle.ground.proofs.Refusals.{number_not_0, number_same}
use Rattle.ip.specs.Write.{to_come, announced, address}
use Rattle.ip.specs.Memory.{Queue, queue_in}
use Rattle.ip_queue.specs.Looking.{misplaced, Ready, Front, told, front_faults, front_of}

-- whatever is still to come, its address has twelve bits
announced_small : (r : ℕ) → announced r < 4096
announced_small r =
    elim (dec_le r 1502) [
      | yes h ↦ omega (arith, choose_true r 4095 (le-leb r 1502 h))
      | no h ↦ omega (arith, choose_false r 4095 (lt-leb r 1502 (omega arith)))
    ]

-- where neither answers, nothing is wrong
neither : (n : ℕ) (b : Bool) → choose (not (eqb n 0)) n (choose b 1 0) ≡ 0 → (n ≡ 0) × (b ≡ false)
neither zero false e = (refl, refl)
neither zero true e = absurd (omega (arith, e))
neither (suc n) b e =
    absurd (omega (arith, e, choose_true (suc n) (choose b 1 0) (ap not (ne_eqb (suc n) 0 (λ z. omega (arith, z))))))

module _ (sent : ℕ) (q : List ℕ) where
  abbrev c : Queue
  c = queue_in 0 q

  abbrev faults : List Fault
  faults = front_faults sent c

  abbrev at : ℕ
  at = address sent c.packets

  -- where something is wrong, there is no address
  refused : (e : Refusal) → first_of faults ≡ number e → told (Err e) ≡ front_of sent q
  unfolding front_of
  refused e h =
      let a : choose (eqb (first_of faults) 0) at 0 ≡ 0 = choose_false at 0 (ne_eqb (first_of faults) 0 (λ z. number_not_0 e (sym h ∙ z))) in
      cc (h, a)

  pub queue_wrong : (e : Refusal) → number e ≡ c.number → told (Err e) ≡ front_of sent q
  queue_wrong e h = refused e (first_at 0 faults tt (ap not (ne_eqb c.number 0 (λ z. number_not_0 e (h ∙ z)))) ∙ sym h)

  pub sent_wrong : c.number ≡ 0 → misplaced sent c.packets ≡ true → told (Err LengthWrong) ≡ front_of sent q
  sent_wrong whole h = refused LengthWrong (first_at 1 faults (ap not (eq-eqb c.number 0 whole), tt) h)

  pub none_wrong : Ready q sent → (a : ℕ) → a ≡ at → told (Ok a) ≡ front_of sent q
  unfolding front_of
  none_wrong ready a e =
      let z : first_of faults ≡ 0 = clear_all faults (ap not (eq-eqb c.number 0 ready.0), (ready.1, tt)) in
      let b : choose (eqb (first_of faults) 0) at 0 ≡ a = choose_true at 0 (eq-eqb (first_of faults) 0 z) ∙ sym e in
      cc

  -- ---- what an answer says
  pub refusal_is : (front_of sent q).refusal ≡ first_of faults
  unfolding front_of
  refusal_is = refl

  pub ready_is : (front_of sent q).refusal ≡ 0 → Ready q sent
  ready_is e = neither c.number (misplaced sent c.packets) (sym refusal_is ∙ e)

  pub address_is : (front_of sent q).refusal ≡ 0 → (front_of sent q).address ≡ at
  unfolding front_of
  address_is e = choose_true at 0 (eq-eqb (first_of faults) 0 e)

  pub address_small : (front_of sent q).address < 4096
  unfolding front_of
  address_small =
      elim (dec_lt 0 (first_of faults)) [
        | yes h ↦ omega (arith, choose_false at 0 (ne_eqb (first_of faults) 0 (λ z. omega (arith, h, z))))
        | no h ↦ omega (arith, choose_true at 0 (eq-eqb (first_of faults) 0 (omega arith)), announced_small (to_come sent c.packets))
      ]

-- two answers that tell the same are one
pub told_same : (r s : Result ℕ Refusal) → told r ≡ told s → r ≡ s
told_same (Ok a) (Ok b) h = ap (λ (f : Front). Ok f.address) h
told_same (Ok a) (Err e) h = absurd (number_not_0 e (sym (ap (λ (f : Front). f.refusal) h)))
told_same (Err e) (Ok b) h = absurd (number_not_0 e (ap (λ (f : Front). f.refusal) h))
told_same (Err e) (Err f) h = ap (λ (x : Refusal). Err x) (number_same (ap (λ (f : Front). f.refusal) h))
