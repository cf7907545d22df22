-- What the writer of a word of an IP stream answers and leaves, with the documents' refusals in their order.
-- Assumes nothing.
use Rattle.std.specs.Prelude.{ℕ, not, List, [], ◌∷◌, ◌++◌, eqb, length, take}
use Rattle.ground.specs.Outcome.{Outcome}
use Rattle.ground.specs.Choice.{Fault, refuse, first_of, refusing}
use Rattle.bits.specs.Lists.{bits, pack}
use Rattle.infoword.specs.Word.{ip_word}
use Rattle.ip.specs.Packet.{Packet}
use Rattle.ip.specs.Write.{address, word_fill}
use Rattle.ip.specs.Memory.{queue, Queue, queue_in}
use Rattle.ip_queue.specs.Looking.{misplaced}

-- 19 and 1 of what the queue holds; then 1: `sent` out of place, and the lengths of word and progress
abbrev pub write_faults : ℕ → Queue → ℕ → ℕ → List Fault
write_faults sent c word progress =
    refuse c.number (not (eqb c.number 0)) ∷
    refuse 1 (misplaced sent c.packets) ∷
    refuse 1 (not (eqb word 1536)) ∷
    refuse 1 (not (eqb progress 8)) ∷ []

-- two numbers of four bytes: how many bytes of the queue are done with, and how much of the packet that is then first is sent
unfoldable pub progress_of : ℕ → List Packet → List ℕ
progress_of sent q = pack 4 (bits 32 (length (queue (take (word_fill sent q).done q)))) ++ pack 4 (bits 32 (word_fill sent q).sent)

-- the word (table 5) and the progress
unfoldable pub written : ℕ → ℕ → List ℕ → List ℕ → List ℕ → Outcome ℕ (List ℕ × List ℕ)
written id sent queue word progress =
    let c = queue_in 0 queue in
    refusing (first_of (write_faults sent c (length word) (length progress)))
    (ip_word id (address sent c.packets) (word_fill sent c.packets).bytes, progress_of sent c.packets) (word, progress)
