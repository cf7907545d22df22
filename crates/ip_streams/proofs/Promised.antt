-- Streams of calls of the functions themselves: each call kept its function's own promise, and so all that is claimed of such calls holds.
-- Assumes nothing.
use Prim.Native.Nat.{ℕ}
use mathlib.Core.Path.{◌≡◌}
use mathlib.Core.List.{List}
use contract.Lifetimes.{Lfts}
use borrow.Fn.World.{ArgsD, ResD}
use borrow.Fn.Kinds.{ended_of}
use denote.Triple.Clauses.{AtExit}
use Rattle.ground.specs.Refusals.{status}
use Rattle.ip_write.specs.contracts.write as write
use Rattle.ip_write.proofs.write.Kinds as write_kinds
use Rattle.ip_write.proofs.write.Reads as write_reads
use Rattle.ip_read.specs.contracts.read as read
use Rattle.ip_read.proofs.read.Kinds as read_kinds
use Rattle.ip_read.proofs.read.Reads as read_reads
use Rattle.ip_open.specs.contracts.lost as lost
use Rattle.ip_open.proofs.lost.Kinds as lost_kinds
use Rattle.ip_open.proofs.lost.Reads as lost_reads
use Rattle.ip_streams.specs.Calls.{WriteCall, ReadCall, LostCall, Step}
use Rattle.ip_streams.specs.Streams.{Delivers, ComesBack, Ends, OnlyWhole, RefusedLeaves, OthersPass, NothingToCarry, FrontEnough, DamageRefused}
use Rattle.ip_streams.proofs.OneWrite.{Wrote, nothing_to_carry, front_enough}
use Rattle.ip_streams.proofs.OneRead.{Did, Dropped, only_whole_come, refused_leaves, others_pass}
use Rattle.ip_streams.proofs.Words.{damage_refused}
use Rattle.ip_streams.proofs.Kept.{a_write, a_read, a_loss, back, Keeping, AllWrites, AllSteps, kept_delivers, kept_comes_back, kept_ends}

-- a call ip_write::write(id, sent, queue, word, progress)
abbrev write_call : (κs : Lfts 3) → ArgsD write.signature κs → ResD write.signature κs → AtExit (ended_of 3 write_kinds.ps write_kinds.r) κs → WriteCall
write_call κs a r s = a_write a.0 a.1.0 a.1.1.0.now a.1.1.1.0.now a.1.1.1.1.0.now (status r) s.1.1.1.0.now s.1.1.1.1.0.now

-- a call ip_read::read(word, memory, packets, header)
abbrev read_call : (κs : Lfts 4) → ArgsD read.signature κs → ResD read.signature κs → AtExit (ended_of 4 read_kinds.ps read_kinds.r) κs → ReadCall
read_call κs a r s = a_read a.0.now a.1.0.now a.1.1.0.now a.1.1.1.0.now (status r) s.1.0.now s.1.1.0.now s.1.1.1.0.now

-- a call ip_open::lost(memory)
abbrev lost_call : (κs : Lfts 1) → ArgsD lost.signature κs → ResD lost.signature κs → AtExit (ended_of 1 lost_kinds.ps lost_kinds.r) κs → LostCall
lost_call κs a r s = a_loss a.0.now (status r) s.0.now

-- calls that kept the functions' promises
pub record Writes (c : WriteCall) : Type 1 where
  pub κs : Lfts 3
  pub args : ArgsD write.signature κs
  pub result : ResD write.signature κs
  pub exit : AtExit (ended_of 3 write_kinds.ps write_kinds.r) κs
  pub kept : write_reads.Post κs args result exit
  pub is : c ≡ write_call κs args result exit

pub record Reading (c : ReadCall) : Type 1 where
  pub κs : Lfts 4
  pub args : ArgsD read.signature κs
  pub result : ResD read.signature κs
  pub exit : AtExit (ended_of 4 read_kinds.ps read_kinds.r) κs
  pub kept : read_reads.Post κs args result exit
  pub is : c ≡ read_call κs args result exit

pub record Losing (c : LostCall) : Type 1 where
  pub κs : Lfts 1
  pub args : ArgsD lost.signature κs
  pub result : ResD lost.signature κs
  pub exit : AtExit (ended_of 1 lost_kinds.ps lost_kinds.r) κs
  pub kept : lost_reads.Post κs args result exit
  pub is : c ≡ lost_call κs args result exit

kept : Keeping Writes Reading Losing
kept = record { wrote = λ c w. back Wrote w.is w.kept; did = λ a r. back Did r.is r.kept; dropped = λ b l. back Dropped l.is l.kept }

-- with any words of a written stream lost, what is handed out is exactly the packets all of whose words came
pub stream_delivered : (js : List (List ℕ)) (cs : List WriteCall) (ss : List Step) → AllWrites Writes Reading Losing cs → AllSteps Writes Reading Losing ss → Delivers js cs ss
stream_delivered = kept_delivers Writes Reading Losing kept

-- with none lost, and nothing that waits any more, all of them
pub stream_back : (js : List (List ℕ)) (cs : List WriteCall) (ss : List Step) → AllWrites Writes Reading Losing cs → AllSteps Writes Reading Losing ss → ComesBack js cs ss
stream_back = kept_comes_back Writes Reading Losing kept

-- and it ends
pub stream_ends : (q : List ℕ) (cs : List WriteCall) → AllWrites Writes Reading Losing cs → Ends q cs
stream_ends = kept_ends Writes Reading Losing kept

-- of one call
pub read_only_whole : (a : ReadCall) → Reading a → OnlyWhole a
read_only_whole a r = only_whole_come a (kept.did a r)

pub read_refused_leaves : (a : ReadCall) → Reading a → RefusedLeaves a
read_refused_leaves a r = refused_leaves a (kept.did a r)

pub read_others_pass : (a : ReadCall) → Reading a → OthersPass a
read_others_pass a r = others_pass a (kept.did a r)

pub write_nothing : (c : WriteCall) → Writes c → NothingToCarry c
write_nothing c w = nothing_to_carry c (kept.wrote c w)

pub write_front : (c d : WriteCall) → Writes c → Writes d → FrontEnough c d
write_front c d w v f z = front_enough c (kept.wrote c w) z d (kept.wrote d v) f

-- of a word that was written, one bit of its header is another
pub written_damage_refused : (c : WriteCall) (a : ReadCall) → Writes c → Reading a → DamageRefused c a
written_damage_refused c a w r = damage_refused c a (kept.wrote c w) (kept.did a r)
