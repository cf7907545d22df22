-- Calls of the function itself, each of which kept its own promise: what is claimed of such calls holds.
-- Assumes nothing.
use Prim.Native.Nat.{ℕ, ◌≤◌}
use mathlib.Core.Path.{◌≡◌, sym, subst}
use mathlib.Core.List.{List}
use contract.Lifetimes.{Lfts}
use borrow.Fn.World.{ArgsD, ResD}
use borrow.Fn.Kinds.{ended_of}
use denote.Triple.Clauses.{AtExit}
use Rattle.ground.specs.Refusals.{status}
use Rattle.pipe.specs.Calls.{PipeCall, FramesRight, CodewordsBack, MemoryMost}
use Rattle.pipe.proofs.Run.{a_call, Done, frames_right, codewords_back, memory_at_most}
use Rattle.pipe.specs.contracts.write as write
use Rattle.pipe.proofs.write.Kinds as write_kinds
use Rattle.pipe.proofs.write.Reads as write_reads

-- a call write(pipe, frame, codewords, memory, out) that kept its promise
pub record Writes (c : PipeCall) : Type 1 where
  pub κs : Lfts 4
  pub args : ArgsD write.signature κs
  pub result : ResD write.signature κs
  pub exit : AtExit (ended_of 4 write_kinds.ps write_kinds.r) κs
  pub kept : write_reads.Post κs args result exit
  pub is : c ≡ a_call args.0.now args.1.0 args.1.1.0.now args.1.1.1.0.now args.1.1.1.1.0.now (status result) exit.1.1.1.0.now exit.1.1.1.1.0.now

done : (c : PipeCall) → Writes c → Done c
done c w = subst Done (sym w.is) (record { is = w.kept.0; bytes = w.kept.1 })

pub write_frames : (l : List ℕ) (calls : ℕ → PipeCall) (f : ℕ) → ((g : ℕ) → g ≤ f → Writes (calls g)) → FramesRight l calls f
write_frames l calls f w = frames_right l calls f (λ g h. done (calls g) (w g h))

pub write_back : (l : List ℕ) (calls : ℕ → PipeCall) (f : ℕ) → ((g : ℕ) → g ≤ f → Writes (calls g)) → CodewordsBack l calls f
write_back l calls f w = codewords_back l calls f (λ g h. done (calls g) (w g h))

pub write_memory : (c : PipeCall) → Writes c → MemoryMost c
write_memory c w = memory_at_most c (done c w)
