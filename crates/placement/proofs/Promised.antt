-- A theorem about the functions' own promises: what placement makes of the bits of a codeword that was encoded.
-- Assumes nothing.
use Prim.Native.Nat.{ℕ, ◌*◌, ◌<◌}
use mathlib.Core.Path.{◌≡◌}
use mathlib.Core.List.{map}
use contract.Lifetimes.{Lfts}
use borrow.Fn.World.{ArgsD, ResD}
use borrow.Fn.Kinds.{ended_of}
use denote.Triple.Clauses.{AtExit}
use lib.ListN.{length, get_or}
use lib.IntN.{pos}
use Rattle.ground.specs.Refusals.{status}
use Rattle.bits.specs.Lists.{unpack}
use Rattle.patterns.specs.Rows.{copies}
use Rattle.patterns.specs.Sent.{places}
use Rattle.turbo.specs.Lane.{lane_bit}
use Rattle.turbo.specs.Encode.{block_of}
use Rattle.turbo.specs.contracts.encode as encode
use Rattle.turbo.proofs.encode.Kinds as encode_kinds
use Rattle.turbo.proofs.encode.Reads as encode_reads
use Rattle.placement.proofs.Codeword.{code_placed}
use Rattle.placement.specs.contracts.place as place
use Rattle.placement.proofs.place.Kinds as place_kinds
use Rattle.placement.proofs.place.Reads as place_reads

-- after a call turbo::encode(pattern, infoword, codeword) that answered 0, of a block of n bits
module _ (κs : Lfts 2) (a : ArgsD encode.signature κs) (r : ResD encode.signature κs) (s : AtExit (ended_of 2 encode_kinds.ps encode_kinds.r) κs)
    (did : encode_reads.Post κs a r s) (zero : status r ≡ 0) (n : ℕ) (block : n ≡ block_of a.1.0.now) where
  -- a call place(pattern, values, lane) of the same pattern, whose value k is the bit k of the codeword, 0 or 1, and whose lane has the block's length
  -- (61,440 where the infoword has 1,536 bytes, 3,840 where it has 96), answers 0; and the place k of the lane then holds
  -- the symbol k of the encoder's output, 0 or 1, times the number of its copies
  pub placed_after_encode : (κt : Lfts 2) (b : ArgsD place.signature κt) (q : ResD place.signature κt)
      (t : AtExit (ended_of 2 place_kinds.ps place_kinds.r) κt)
      → b.0 ≡ a.0 → b.1.0.now ≡ map pos (unpack s.1.1.0.now) → length b.1.1.0.now ≡ places n → place_reads.Post κt b q t
      → (status q ≡ 0) × ((k : ℕ) → k < places n → get_or t.1.1.0.now k (pos 0) ≡ pos (copies a.0 n k * lane_bit a.1.0.now n k))
  placed_after_encode κt b q t =
      code_placed a.0 n a.1.0.now a.1.1.0.now s.1.1.0.now (status r) block did zero
      b.0 b.1.0.now b.1.1.0.now t.1.1.0.now (status q)
