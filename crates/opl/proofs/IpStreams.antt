-- Streams of calls of the exported functions: each call kept its function's own promise, and so all that is claimed of such calls holds.
-- Assumes nothing.
use Prim.Native.Nat.{ℕ}
use mathlib.Core.Path.{◌≡◌, sym, ap, ◌∙◌, subst}
use mathlib.Core.List.{List}
use contract.Lifetimes.{Lfts}
use borrow.Fn.World.{ArgsD, ResD}
use borrow.Fn.Kinds.{ended_of}
use denote.Triple.Clauses.{AtExit}
use lib.ListN.{length}
use Rattle.ground.proofs.Outcome.{agree}
use Rattle.fields.specs.Report.{header_of}
use Rattle.fields.proofs.Faults.{Readable, read_0}
use Rattle.header_bytes.specs.Bytes.{header_bytes}
use Rattle.both_ways.specs.Damage.{OneBit}
use Rattle.ground.specs.declared.refusal.Refusal.TheVariants.{CrcWrong}
use Rattle.payload.proofs.Answers.{into_refused, into_done}
use Rattle.opl.specs.contracts.opl_payload_read as opl_payload_read
use Rattle.opl.proofs.opl_payload_read.Kinds as opl_payload_read_kinds
use Rattle.opl.proofs.opl_payload_read.Reads as opl_payload_read_reads
use Rattle.opl.specs.contracts.opl_ip_write as opl_ip_write
use Rattle.opl.proofs.opl_ip_write.Kinds as opl_ip_write_kinds
use Rattle.opl.proofs.opl_ip_write.Reads as opl_ip_write_reads
use Rattle.opl.specs.contracts.opl_ip_read as opl_ip_read
use Rattle.opl.proofs.opl_ip_read.Kinds as opl_ip_read_kinds
use Rattle.opl.proofs.opl_ip_read.Reads as opl_ip_read_reads
use Rattle.opl.specs.contracts.opl_ip_lost as opl_ip_lost
use Rattle.opl.proofs.opl_ip_lost.Kinds as opl_ip_lost_kinds
use Rattle.opl.proofs.opl_ip_lost.Reads as opl_ip_lost_reads
use Rattle.ip_streams.specs.Calls.{WriteCall, ReadCall, LostCall, Step}
use Rattle.ip_streams.specs.Streams.{Delivers, ComesBack, Ends, OnlyWhole, RefusedLeaves, OthersPass, NothingToCarry, FrontEnough, ip_header, DamageRefused}
use Rattle.ip_streams.proofs.OneWrite.{Wrote, nothing_to_carry, front_enough}
use Rattle.ip_streams.proofs.OneRead.{Did, Dropped, only_whole_come, refused_leaves, others_pass}
use Rattle.ip_streams.proofs.Words.{written_readable, written_header_lem, written_damaged, damage_refused}
use Rattle.ip_streams.proofs.Kept.{a_write, a_read, a_loss, back, Keeping, AllWrites, AllSteps, kept_delivers, kept_comes_back, kept_ends}

-- a call opl_ip_write(id, sent, queue, word, progress)
abbrev write_call : (κs : Lfts 3) → ArgsD opl_ip_write.signature κs → ResD opl_ip_write.signature κs → AtExit (ended_of 3 opl_ip_write_kinds.ps opl_ip_write_kinds.r) κs → WriteCall
write_call κs a r s = a_write a.0 a.1.0 a.1.1.0.now a.1.1.1.0.now a.1.1.1.1.0.now r s.1.1.1.0.now s.1.1.1.1.0.now

-- a call opl_ip_read(word, memory, packets, header)
abbrev read_call : (κs : Lfts 4) → ArgsD opl_ip_read.signature κs → ResD opl_ip_read.signature κs → AtExit (ended_of 4 opl_ip_read_kinds.ps opl_ip_read_kinds.r) κs → ReadCall
read_call κs a r s = a_read a.0.now a.1.0.now a.1.1.0.now a.1.1.1.0.now r s.1.0.now s.1.1.0.now s.1.1.1.0.now

-- a call opl_ip_lost(memory)
abbrev lost_call : (κs : Lfts 1) → ArgsD opl_ip_lost.signature κs → ResD opl_ip_lost.signature κs → AtExit (ended_of 1 opl_ip_lost_kinds.ps opl_ip_lost_kinds.r) κs → LostCall
lost_call κs a r s = a_loss a.0.now r s.0.now

-- calls that kept the functions' promises
pub record Writes (c : WriteCall) : Type 1 where
  pub κs : Lfts 3
  pub args : ArgsD opl_ip_write.signature κs
  pub result : ResD opl_ip_write.signature κs
  pub exit : AtExit (ended_of 3 opl_ip_write_kinds.ps opl_ip_write_kinds.r) κs
  pub kept : opl_ip_write_reads.Post κs args result exit
  pub is : c ≡ write_call κs args result exit

pub record Reading (c : ReadCall) : Type 1 where
  pub κs : Lfts 4
  pub args : ArgsD opl_ip_read.signature κs
  pub result : ResD opl_ip_read.signature κs
  pub exit : AtExit (ended_of 4 opl_ip_read_kinds.ps opl_ip_read_kinds.r) κs
  pub kept : opl_ip_read_reads.Post κs args result exit
  pub is : c ≡ read_call κs args result exit

pub record Losing (c : LostCall) : Type 1 where
  pub κs : Lfts 1
  pub args : ArgsD opl_ip_lost.signature κs
  pub result : ResD opl_ip_lost.signature κs
  pub exit : AtExit (ended_of 1 opl_ip_lost_kinds.ps opl_ip_lost_kinds.r) κs
  pub kept : opl_ip_lost_reads.Post κs args result exit
  pub is : c ≡ lost_call κs args result exit

kept : Keeping Writes Reading Losing
kept = record { wrote = λ c w. back Wrote w.is w.kept; did = λ a r. back Did r.is r.kept; dropped = λ b l. back Dropped l.is l.kept }

-- with any words of a written stream lost, what is handed out is exactly the packets all of whose words came
pub opl_ip_delivered : (js : List (List ℕ)) (cs : List WriteCall) (ss : List Step) → AllWrites Writes Reading Losing cs → AllSteps Writes Reading Losing ss → Delivers js cs ss
opl_ip_delivered = kept_delivers Writes Reading Losing kept

-- with none lost, and nothing that waits any more, all of them
pub opl_ip_back : (js : List (List ℕ)) (cs : List WriteCall) (ss : List Step) → AllWrites Writes Reading Losing cs → AllSteps Writes Reading Losing ss → ComesBack js cs ss
opl_ip_back = kept_comes_back Writes Reading Losing kept

-- and it ends
pub opl_ip_ends : (q : List ℕ) (cs : List WriteCall) → AllWrites Writes Reading Losing cs → Ends q cs
opl_ip_ends = kept_ends Writes Reading Losing kept

-- of one call
pub opl_ip_read_only_whole : (a : ReadCall) → Reading a → OnlyWhole a
opl_ip_read_only_whole a r = only_whole_come a (kept.did a r)

pub opl_ip_read_refused_leaves : (a : ReadCall) → Reading a → RefusedLeaves a
opl_ip_read_refused_leaves a r = refused_leaves a (kept.did a r)

pub opl_ip_read_others_pass : (a : ReadCall) → Reading a → OthersPass a
opl_ip_read_others_pass a r = others_pass a (kept.did a r)

pub opl_ip_write_nothing : (c : WriteCall) → Writes c → NothingToCarry c
opl_ip_write_nothing c w = nothing_to_carry c (kept.wrote c w)

pub opl_ip_write_front : (c d : WriteCall) → Writes c → Writes d → FrontEnough c d
opl_ip_write_front c d w v f z = front_enough c (kept.wrote c w) z d (kept.wrote d v) f

-- of a word that was written, one bit of its header is another
pub opl_ip_damage_refused : (c : WriteCall) (a : ReadCall) → Writes c → Reading a → DamageRefused c a
opl_ip_damage_refused c a w r = damage_refused c a (kept.wrote c w) (kept.did a r)

-- after a call opl_ip_write that answered 0
module _ (c : WriteCall) (w : Writes c) (z : c.answer ≡ 0) where
  -- opl_payload_read(word, header) with 16 bytes answers 0 and leaves RFU 0, the stream id, type 3, Encap_Ver 0, that all four parts hold, and the address
  pub opl_ip_header_read : (κs : Lfts 2) (b : ArgsD opl_payload_read.signature κs) (n : ResD opl_payload_read.signature κs)
      (t : AtExit (ended_of 2 opl_payload_read_kinds.ps opl_payload_read_kinds.r) κs)
      → b.0.now ≡ c.left_word → length b.1.0.now ≡ 16 → opl_payload_read_reads.Post κs b n t → (n ≡ 0) × (t.1.0.now ≡ header_bytes (ip_header c))
  opl_ip_header_read κs b n t e l p =
      agree p (into_done b.0.now b.1.0.now l (read_0 b.0.now (subst Readable (sym e) (written_readable c (kept.wrote c w) z))) (header_bytes (ip_header c))
      (ap header_bytes (sym (ap header_of e ∙ written_header_lem c (kept.wrote c w) z))))

  -- and of a word with one other bit of its header, be it of the stream type, it answers 5, and nothing is touched
  pub opl_ip_header_damaged : (κs : Lfts 2) (b : ArgsD opl_payload_read.signature κs) (n : ResD opl_payload_read.signature κs)
      (t : AtExit (ended_of 2 opl_payload_read_kinds.ps opl_payload_read_kinds.r) κs) (i : ℕ)
      → OneBit c.left_word b.0.now i → length b.1.0.now ≡ 16 → opl_payload_read_reads.Post κs b n t → (n ≡ 5) × (t.1.0.now ≡ b.1.0.now)
  opl_ip_header_damaged κs b n t i d l p = agree p (into_refused b.0.now b.1.0.now l CrcWrong (written_damaged c (kept.wrote c w) z b.0.now i d))
