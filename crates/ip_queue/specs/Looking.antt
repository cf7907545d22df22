-- What is seen of a queue before a word is filled from it: what is wrong, in the documents' order, and First_Header_Address.
-- Assumes nothing.
use Rattle.std.specs.Prelude.{ℕ, zero, suc, Bool, true, false, not, ◌≡◌, List, [], ◌∷◌, eqb, ltb, length, Result, Ok, Err}
use Rattle.ground.specs.declared.refusal.Refusal.{Refusal}
use Rattle.ground.specs.Choice.{choose, either, Fault, refuse, first_of}
use Rattle.ground.specs.Refusals.{number}
use Rattle.ip.specs.Packet.{Packet}
use Rattle.ip.specs.Write.{address}
use Rattle.ip.specs.Memory.{Queue, queue_in}

-- `sent` is out of place: above 0 with no packet, 1, or above the first packet's length + 1
unfoldable pub misplaced : ℕ → List Packet → Bool
misplaced zero q = false
misplaced (suc s) [] = true
misplaced (suc s) (p ∷ q) = either (eqb s 0) (ltb (length p.bytes) s)

-- the queue ends with a packet, all its packets are such as are sent, and `sent` is in its place
abbrev pub Ready : List ℕ → ℕ → Type 0
Ready q sent = ((queue_in 0 q).number ≡ 0) × (misplaced sent (queue_in 0 q).packets ≡ false)

-- 19 and 1 of what the queue holds; then 1: `sent` out of place
abbrev pub front_faults : ℕ → Queue → List Fault
front_faults sent c =
    refuse c.number (not (eqb c.number 0)) ∷
    refuse 1 (misplaced sent c.packets) ∷ []

-- why a queue is refused, and if it is not, with 0, First_Header_Address
pub record Front : Type 0 where
  pub refusal : ℕ
  pub address : ℕ

-- what an answer says of the two: with a refusal there is no address, which is 0 here
abbrev pub told : Result ℕ Refusal → Front
told (Ok a) = record { refusal = 0; address = a }
told (Err e) = record { refusal = number e; address = 0 }

-- the refusal, and the address where there is none
unfoldable pub front_of : ℕ → List ℕ → Front
front_of sent q =
    let c = queue_in 0 q in
    let n = first_of (front_faults sent c) in
    record { refusal = n; address = choose (eqb n 0) (address sent c.packets) 0 }
