-- What placement makes of the bits of a codeword that was encoded, of the exported functions' own promises.
-- Assumes nothing.
use Prim.Native.Nat.{ℕ, ◌*◌, ◌<◌}
use mathlib.Core.Path.{◌≡◌}
use mathlib.Core.List.{map}
use contract.Lifetimes.{Lfts}
use borrow.Fn.World.{ArgsD, ResD}
use borrow.Fn.Kinds.{ended_of}
use denote.Triple.Clauses.{AtExit}
use lib.ListN.{length, get_or}
use lib.IntN.{pos}
use Rattle.bits.specs.Lists.{unpack}
use Rattle.patterns.specs.Rows.{copies}
use Rattle.patterns.specs.Sent.{places}
use Rattle.turbo.specs.Lane.{lane_bit}
use Rattle.turbo.specs.Encode.{block_of}
use Rattle.placement.proofs.Codeword.{code_placed}
use Rattle.opl.specs.contracts.opl_encode as opl_encode
use Rattle.opl.proofs.opl_encode.Kinds as opl_encode_kinds
use Rattle.opl.proofs.opl_encode.Reads as opl_encode_reads
use Rattle.opl.specs.contracts.opl_place as opl_place
use Rattle.opl.proofs.opl_place.Kinds as opl_place_kinds
use Rattle.opl.proofs.opl_place.Reads as opl_place_reads

-- after a call opl_encode(pattern, infoword, codeword) that answered 0, of a block of n bits, a call opl_place(pattern, values, lane) of the same pattern,
-- whose value k is the bit k of the codeword, 0 or 1, and whose lane has the block's length (61,440 where the infoword has 1,536 bytes, 3,840 where it has 96),
-- answers 0; and the place k of the lane then holds the symbol k of the encoder's output, 0 or 1, times the number of its copies
pub opl_placed_after_encode : (κs : Lfts 2) (a : ArgsD opl_encode.signature κs) (r : ResD opl_encode.signature κs)
    (s : AtExit (ended_of 2 opl_encode_kinds.ps opl_encode_kinds.r) κs)
    (κt : Lfts 2) (b : ArgsD opl_place.signature κt) (q : ResD opl_place.signature κt)
    (t : AtExit (ended_of 2 opl_place_kinds.ps opl_place_kinds.r) κt) (n : ℕ)
    → n ≡ block_of a.1.0.now → opl_encode_reads.Post κs a r s → r ≡ 0
    → b.0 ≡ a.0 → b.1.0.now ≡ map pos (unpack s.1.1.0.now) → length b.1.1.0.now ≡ places n → opl_place_reads.Post κt b q t
    → (q ≡ 0) × ((k : ℕ) → k < places n → get_or t.1.1.0.now k (pos 0) ≡ pos (copies a.0 n k * lane_bit a.1.0.now n k))
opl_placed_after_encode κs a r s κt b q t n block did zero =
    code_placed a.0 n a.1.0.now a.1.1.0.now s.1.1.0.now r block did zero
    b.0 b.1.0.now b.1.1.0.now t.1.1.0.now q
