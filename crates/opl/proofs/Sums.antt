-- Sums of words, and a word of zeros, of the exported functions' own promises: the encoder's, and those of the writer and the reader of payload words.
-- Assumes nothing.
use mathlib.Core.Path.{◌≡◌, sym, ap, ◌∙◌}
use contract.Lifetimes.{Lfts}
use borrow.Fn.World.{ArgsD, ResD}
use borrow.Fn.Kinds.{ended_of}
use denote.Triple.Clauses.{AtExit}
use lib.ListN.{length}
use Rattle.ground.proofs.Outcome.{agree}
use lib.Bits.{bit_xor}
use Rattle.bits.specs.Sums.{summed}
use Rattle.fields.specs.Report.{read_refusal}
use Rattle.ground.specs.declared.refusal.Refusal.TheVariants.{CrcWrong}
use Rattle.payload.proofs.Answers.{into_refused}
use Rattle.sums.specs.Calls.{Call, SumAnswered, SumSent, ZerosSent}
use Rattle.sums.proofs.Calls.{sum_answered, sum_sent, zeros_sent}
use Rattle.sums.proofs.Headers.{written_sum_refused}
use Rattle.opl.specs.contracts.opl_payload_write as opl_payload_write
use Rattle.opl.proofs.opl_payload_write.Kinds as opl_payload_write_kinds
use Rattle.opl.proofs.opl_payload_write.Reads as opl_payload_write_reads
use Rattle.opl.specs.contracts.opl_payload_read as opl_payload_read
use Rattle.opl.proofs.opl_payload_read.Kinds as opl_payload_read_kinds
use Rattle.opl.proofs.opl_payload_read.Reads as opl_payload_read_reads
use Rattle.opl.specs.contracts.opl_encode as opl_encode
use Rattle.opl.proofs.opl_encode.Kinds as opl_encode_kinds
use Rattle.opl.proofs.opl_encode.Reads as opl_encode_reads

-- a call opl_encode(pattern, infoword, codeword)
abbrev call : (κs : Lfts 2) → ArgsD opl_encode.signature κs → ResD opl_encode.signature κs → AtExit (ended_of 2 opl_encode_kinds.ps opl_encode_kinds.r) κs → Call
call κs a r s = record { pattern = a.0; infoword = a.1.0.now; lent = a.1.1.0.now; answer = r; left = s.1.1.0.now }

module _ (κs : Lfts 2) (a : ArgsD opl_encode.signature κs) (r : ResD opl_encode.signature κs) (s : AtExit (ended_of 2 opl_encode_kinds.ps opl_encode_kinds.r) κs) where
  pub opl_encode_zeros : opl_encode_reads.Post κs a r s → ZerosSent (call κs a r s)
  opl_encode_zeros did = zeros_sent (call κs a r s) did

  module _ (κt : Lfts 2) (b : ArgsD opl_encode.signature κt) (q : ResD opl_encode.signature κt) (t : AtExit (ended_of 2 opl_encode_kinds.ps opl_encode_kinds.r) κt)
      (κu : Lfts 2) (c : ArgsD opl_encode.signature κu) (z : ResD opl_encode.signature κu) (u : AtExit (ended_of 2 opl_encode_kinds.ps opl_encode_kinds.r) κu) where
    pub opl_encode_sums_answered : opl_encode_reads.Post κs a r s → opl_encode_reads.Post κt b q t → opl_encode_reads.Post κu c z u
        → SumAnswered (call κs a r s) (call κt b q t) (call κu c z u)
    opl_encode_sums_answered da db dc = sum_answered (call κs a r s) (call κt b q t) (call κu c z u) da db dc

    pub opl_encode_sums : opl_encode_reads.Post κs a r s → opl_encode_reads.Post κt b q t → opl_encode_reads.Post κu c z u
        → SumSent (call κs a r s) (call κt b q t) (call κu c z u)
    opl_encode_sums da db dc = sum_sent (call κs a r s) (call κt b q t) (call κu c z u) da db dc

-- after two calls opl_payload_write(kind, id, count, payload, null, word) that answered 0, opl_payload_read(word, header) with 16 bytes refuses the sum of the two
-- words with 5, and nothing is touched, unless one is of type 1 and the other of type 2
pub opl_read_refuses_sum : (κs : Lfts 3) (a : ArgsD opl_payload_write.signature κs) (r : ResD opl_payload_write.signature κs)
    (s : AtExit (ended_of 3 opl_payload_write_kinds.ps opl_payload_write_kinds.r) κs)
    (κt : Lfts 3) (b : ArgsD opl_payload_write.signature κt) (q : ResD opl_payload_write.signature κt)
    (t : AtExit (ended_of 3 opl_payload_write_kinds.ps opl_payload_write_kinds.r) κt)
    (κu : Lfts 2) (c : ArgsD opl_payload_read.signature κu) (n : ResD opl_payload_read.signature κu)
    (u : AtExit (ended_of 2 opl_payload_read_kinds.ps opl_payload_read_kinds.r) κu)
    → opl_payload_write_reads.Post κs a r s → r ≡ 0 → opl_payload_write_reads.Post κt b q t → q ≡ 0
    → (bit_xor a.0 b.0 ≡ 3 → ⊥) → c.0.now ≡ summed s.1.1.1.1.1.0.now t.1.1.1.1.1.0.now → length c.1.0.now ≡ 16 → opl_payload_read_reads.Post κu c n u
    → (n ≡ 5) × (u.1.0.now ≡ c.1.0.now)
opl_read_refuses_sum κs a r s κt b q t κu c n u did zr did' zq m e l p =
    agree p (into_refused c.0.now c.1.0.now l CrcWrong
    (written_sum_refused a.0 a.1.0 a.1.1.0 a.1.1.1.0.now a.1.1.1.1.0.now a.1.1.1.1.1.0.now r s.1.1.1.1.1.0.now did.0 zr did.1
    b.0 b.1.0 b.1.1.0 b.1.1.1.0.now b.1.1.1.1.0.now b.1.1.1.1.1.0.now q t.1.1.1.1.1.0.now did'.0 zq did'.1 m
    ∙ sym (ap read_refusal e)))
