-- The general law of agreement: of a promise that is an outcome, any two results agree. And laws of what an answer tells.
-- Assumes nothing.
use mathlib.Core.Path.{◌≡◌, sym, ap, ◌∙◌}
use Prim.Native.Nat.{ℕ}
use lib.ListN.{length}
use Rattle.ground.specs.Outcome.{Outcome, Is, Told, number_of}

-- two answers that one definition gives are one answer
pub same : {A : Type 0} {want r r' : A} → r ≡ want → r' ≡ want → r ≡ r'
same p q = p ∙ sym q

-- two calls that had the same outcome agree in their answer and in what they left
pub agree : {A M : Type 0} {want : Outcome A M} {r r' : A} {m m' : M} → Is want r m → Is want r' m' → (r ≡ r') × (m ≡ m')
agree p q = (same p.answer q.answer, same p.memory q.memory)

-- a call that gave just what the definition says
pub gave : {A M : Type 0} {want : Outcome A M} {r : A} {m : M} → want ≡ record { answer = r; memory = m } → Is want r m
gave e = record { answer = sym (ap (λ o. o.answer) e); memory = sym (ap (λ o. o.memory) e) }

-- answers that tell the same have as many values
pub values_length : {t u : Told} → t ≡ u → length t.values ≡ length u.values
values_length e = ap (λ t. length t.values) e

-- of an outcome that tells more, the number alone
pub number_is : {M : Type 0} {want : Outcome Told M} {t : Told} {m : M} {n : ℕ} → Is want t m → t.number ≡ n → Is (number_of want) n m
number_is p e = record { answer = sym e ∙ ap (λ (x : Told). x.number) p.answer; memory = p.memory }
