-- Sums of words, and a word of zeros, of the functions' own promises: the encoder's, and those of the writer and the reader of payload words.
-- Assumes nothing.
use mathlib.Core.Path.{◌≡◌, sym, ap, ◌∙◌}
use contract.Lifetimes.{Lfts}
use borrow.Fn.World.{ArgsD, ResD}
use borrow.Fn.Kinds.{ended_of}
use denote.Triple.Clauses.{AtExit}
use lib.Bits.{bit_xor}
use Rattle.bits.specs.Sums.{summed}
use Rattle.encapsulation.specs.contracts.write as write
use Rattle.encapsulation.proofs.write.Kinds as write_kinds
use Rattle.encapsulation.proofs.write.Reads as write_reads
use Rattle.fields.specs.Report.{read_refusal}
use Rattle.std.specs.Prelude.{Err}
use Rattle.ground.specs.declared.refusal.Refusal.TheVariants.{CrcWrong}
use Rattle.ground.specs.Refusals.{status}
use Rattle.payload.proofs.Answers.{tells_refusal, told_inj}
use Rattle.payload.specs.contracts.read as read
use Rattle.payload.proofs.read.Kinds as read_kinds
use Rattle.payload.proofs.read.Reads as read_reads
use Rattle.turbo.specs.contracts.encode as encode
use Rattle.turbo.proofs.encode.Kinds as encode_kinds
use Rattle.turbo.proofs.encode.Reads as encode_reads
use Rattle.sums.specs.Calls.{Call, SumAnswered, SumSent, ZerosSent}
use Rattle.sums.proofs.Calls.{sum_answered, sum_sent, zeros_sent}
use Rattle.sums.proofs.Headers.{written_sum_refused}

-- a call turbo::encode(pattern, infoword, codeword)
abbrev call : (κs : Lfts 2) → ArgsD encode.signature κs → ResD encode.signature κs → AtExit (ended_of 2 encode_kinds.ps encode_kinds.r) κs → Call
call κs a r s = record { pattern = a.0; infoword = a.1.0.now; lent = a.1.1.0.now; answer = status r; left = s.1.1.0.now }

module _ (κs : Lfts 2) (a : ArgsD encode.signature κs) (r : ResD encode.signature κs) (s : AtExit (ended_of 2 encode_kinds.ps encode_kinds.r) κs) where
  pub encode_zeros : encode_reads.Post κs a r s → ZerosSent (call κs a r s)
  encode_zeros did = zeros_sent (call κs a r s) did

  module _ (κt : Lfts 2) (b : ArgsD encode.signature κt) (q : ResD encode.signature κt) (t : AtExit (ended_of 2 encode_kinds.ps encode_kinds.r) κt)
      (κu : Lfts 2) (c : ArgsD encode.signature κu) (z : ResD encode.signature κu) (u : AtExit (ended_of 2 encode_kinds.ps encode_kinds.r) κu) where
    pub encode_sums_answered : encode_reads.Post κs a r s → encode_reads.Post κt b q t → encode_reads.Post κu c z u
        → SumAnswered (call κs a r s) (call κt b q t) (call κu c z u)
    encode_sums_answered da db dc = sum_answered (call κs a r s) (call κt b q t) (call κu c z u) da db dc

    pub encode_sums : encode_reads.Post κs a r s → encode_reads.Post κt b q t → encode_reads.Post κu c z u
        → SumSent (call κs a r s) (call κt b q t) (call κu c z u)
    encode_sums da db dc = sum_sent (call κs a r s) (call κt b q t) (call κu c z u) da db dc

-- after two calls encapsulation::write(kind, id, count, payload, null, word) that answered 0, payload::read(word) refuses the sum of the two words for its CRC,
-- unless one is of type 1 and the other of type 2
pub read_refuses_sum : (κs : Lfts 3) (a : ArgsD write.signature κs) (r : ResD write.signature κs) (s : AtExit (ended_of 3 write_kinds.ps write_kinds.r) κs)
    (κt : Lfts 3) (b : ArgsD write.signature κt) (q : ResD write.signature κt) (t : AtExit (ended_of 3 write_kinds.ps write_kinds.r) κt)
    (κu : Lfts 1) (c : ArgsD read.signature κu) (k : ResD read.signature κu) (u : AtExit (ended_of 1 read_kinds.ps read_kinds.r) κu)
    → write_reads.Post κs a r s → status r ≡ 0 → write_reads.Post κt b q t → status q ≡ 0
    → (bit_xor a.0 b.0 ≡ 3 → ⊥) → c.0.now ≡ summed s.1.1.1.1.1.0.now t.1.1.1.1.1.0.now → read_reads.Post κu c k u → k ≡ Err CrcWrong
read_refuses_sum κs a r s κt b q t κu c k u did zr did' zq n e p =
    told_inj k (Err CrcWrong)
    (p.0 ∙ sym (tells_refusal c.0.now CrcWrong
    (written_sum_refused a.0 a.1.0 a.1.1.0 a.1.1.1.0.now a.1.1.1.1.0.now a.1.1.1.1.1.0.now (status r) s.1.1.1.1.1.0.now did.0 zr did.1
    b.0 b.1.0 b.1.1.0 b.1.1.1.0.now b.1.1.1.1.0.now b.1.1.1.1.1.0.now (status q) t.1.1.1.1.1.0.now did'.0 zq did'.1 n
    ∙ sym (ap read_refusal e))))
