-- The front of a queue is enough: packets that fill a word leave it as the whole queue does.
-- Assumes nothing.
use Prim.Native.Nat.{ℕ, zero, suc, ◌+◌, ◌-◌, ◌≤◌, ◌<◌}
use mathlib.Core.Bool.{Bool, true, false}
use mathlib.Core.Path.{◌≡◌, refl, sym, ap, ◌∙◌}
use mathlib.Core.List.{List, [], ◌∷◌, ◌++◌}
use native.Mathlib.Decide.{dec_le}
use native.Mathlib.Omega.{arith}
use lib.Dec.{leb}
use lib.ListN.{length}
use borrow.Author.Tests.{lt-leb}
use Rattle.ground.specs.Choice.{choose}
use Rattle.ground.proofs.Choice.{choose_false}
use Rattle.ip.specs.Packet.{Packet}
use Rattle.ip.specs.Write.{Filled, behind, filler, rest, no_header, fill, word_fill, InPlace}
use Rattle.ip.specs.Stream.{left}
use Rattle.ip.proofs.Fill.{cut, fill_waits}

-- into a byte or none nothing goes from a header on
little : (x : List Packet) (room : ℕ) → room < 2 → fill room 0 x ≡ filler room
unfolding fill
little [] room h = refl
little (p ∷ x) room h = fill_waits room p x h

-- where no more than a byte of the room is left by what is to be sent, what waits behind it changes nothing
pub fill_front : (q x : List Packet) (room s : ℕ) → InPlace s q → room ≤ left s q + 1 → fill room s (q ++ x) ≡ fill room s q
unfolding fill left
fill_front [] x room zero at h = little x room (omega arith)
fill_front [] x room (suc s) at h = absurd at
fill_front (p ∷ q) x room s at h = go (no_header s room) (dec_le (length (rest s p)) room) (λ k l. fill_front q x k 0 tt l)
  where
    ends : List Packet → Filled
    ends l = behind (rest s p) (fill (room - length (rest s p)) 0 l)

    go : (b : Bool) → Dec (length (rest s p) ≤ room) → ((k : ℕ) → k ≤ left 0 q + 1 → fill k 0 (q ++ x) ≡ fill k 0 q)
        → choose b (filler room) (choose (leb (length (rest s p)) room) (ends (q ++ x)) (cut room s p)) ≡ choose b (filler room) (choose (leb (length (rest s p)) room) (ends q) (cut room s p))
    go true d ih = refl
    go false (yes k) ih = ap (λ (f : Filled). choose (leb (length (rest s p)) room) (behind (rest s p) f) (cut room s p)) (ih (room - length (rest s p)) (omega arith))
    go false (no k) ih =
        choose_false (ends (q ++ x)) (cut room s p) (lt-leb (length (rest s p)) room (omega arith))
        ∙ sym (choose_false (ends q) (cut room s p) (lt-leb (length (rest s p)) room (omega arith)))

-- 1,503 bytes that are still to be sent
pub word_front : (q x : List Packet) (s : ℕ) → InPlace s q → 1503 ≤ left s q → word_fill s (q ++ x) ≡ word_fill s q
word_front q x s at h = fill_front q x 1504 s at (omega arith)
