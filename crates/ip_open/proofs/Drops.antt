-- Laws of an open packet that is dropped: its memory becomes zeros.
-- Assumes nothing.
use Prim.Native.Nat.{ℕ}
use mathlib.Core.Path.{◌≡◌, sym, ap, ◌∙◌}
use mathlib.Core.Bool.{not}
use mathlib.Core.List.{List}
use native.Mathlib.Omega.{arith}
use lib.ListN.{length, replicate}
use borrow.Author.Tests.{eq-eqb, ne_eqb}
use Rattle.ground.specs.Outcome.{Is}
use Rattle.ground.proofs.Choice.{choose_true, choose_false}
use Rattle.ground.proofs.Refusing.{refusal_leaves, acceptance_leaves}
use Rattle.ip.specs.Read.{none}
use Rattle.ip.specs.Memory.{open_bytes}
use Rattle.ip_open.specs.Opening.{dropping}

pub zeros : (m : List ℕ) → length m ≡ 4104 → replicate (length m) 0 ≡ open_bytes none
unfolding open_bytes
zeros m h = ap (λ (k : ℕ). replicate k 0) h

pub lost_refused : (m : List ℕ) → (length m ≡ 4104 → ⊥) → Is (dropping m) 1 m
unfolding dropping
lost_refused m h = refusal_leaves _ (open_bytes none) m (sym (choose_true {A = ℕ} 1 0 (ap not (ne_eqb (length m) 4104 h)))) (λ z. omega arith)

pub lost_done : (m x : List ℕ) → length m ≡ 4104 → x ≡ replicate (length m) 0 → Is (dropping m) 0 x
unfolding dropping
lost_done m x h e =
    acceptance_leaves _ (open_bytes none) m (choose_false {A = ℕ} 1 0 (ap not (eq-eqb (length m) 4104 h))) (e ∙ zeros m h)
