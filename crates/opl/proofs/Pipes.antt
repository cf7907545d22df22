-- From codeword to pipe, of the exported functions' own promises.
-- Assumes nothing.
use Prim.Native.Nat.{ℕ, ◌≤◌}
use mathlib.Core.Path.{◌≡◌, sym, subst}
use mathlib.Core.List.{List}
use contract.Lifetimes.{Lfts}
use borrow.Fn.World.{ArgsD, ResD}
use borrow.Fn.Kinds.{ended_of}
use denote.Triple.Clauses.{AtExit}
use Rattle.mixer.specs.Wanted.{Moved}
use Rattle.mixer.proofs.Unmixes.{call_moves}
use Rattle.profile.specs.Wanted.{Bounded}
use Rattle.profile.proofs.Giving.{call_bounded}
use Rattle.pipe.specs.Calls.{PipeCall, FramesRight, CodewordsBack, MemoryMost}
use Rattle.pipe.proofs.Run.{a_call, Done, frames_right, codewords_back, memory_at_most}
use Rattle.opl.specs.contracts.opl_mix as opl_mix
use Rattle.opl.proofs.opl_mix.Kinds as opl_mix_kinds
use Rattle.opl.proofs.opl_mix.Reads as opl_mix_reads
use Rattle.opl.specs.contracts.opl_profile as opl_profile
use Rattle.opl.proofs.opl_profile.Kinds as opl_profile_kinds
use Rattle.opl.proofs.opl_profile.Reads as opl_profile_reads
use Rattle.opl.specs.contracts.opl_pipe as opl_pipe
use Rattle.opl.proofs.opl_pipe.Kinds as opl_pipe_kinds
use Rattle.opl.proofs.opl_pipe.Reads as opl_pipe_reads

-- after a call opl_mix(pattern, codeword, mixed) that answered 0 each bit of the codeword stands at its place
pub opl_mix_moves : (κs : Lfts 2) (a : ArgsD opl_mix.signature κs) (r : ResD opl_mix.signature κs) (s : AtExit (ended_of 2 opl_mix_kinds.ps opl_mix_kinds.r) κs)
    → opl_mix_reads.Post κs a r s → r ≡ 0 → Moved a.0 a.1.0.now s.1.1.0.now
opl_mix_moves κs a r s p z = call_moves a.0 a.1.0.now a.1.1.0.now s.1.1.0.now r p z

-- after a call opl_profile(pipe, profile) that answered 0 no length passes the greatest delay, and that is at most 6,160
pub opl_profile_bounded : (κs : Lfts 2) (a : ArgsD opl_profile.signature κs) (r : ResD opl_profile.signature κs)
    (s : AtExit (ended_of 2 opl_profile_kinds.ps opl_profile_kinds.r) κs)
    → opl_profile_reads.Post κs a r s → r ≡ 0 → Bounded s.1.0.now
opl_profile_bounded κs a r s p z = call_bounded a.0.now a.1.0.now s.1.0.now r p z

-- a call opl_pipe(pipe, frame, codewords, memory, out) that kept its promise
pub record Piped (c : PipeCall) : Type 1 where
  pub κs : Lfts 4
  pub args : ArgsD opl_pipe.signature κs
  pub result : ResD opl_pipe.signature κs
  pub exit : AtExit (ended_of 4 opl_pipe_kinds.ps opl_pipe_kinds.r) κs
  pub kept : opl_pipe_reads.Post κs args result exit
  pub is : c ≡ a_call args.0.now args.1.0 args.1.1.0.now args.1.1.1.0.now args.1.1.1.1.0.now result exit.1.1.1.0.now exit.1.1.1.1.0.now

done : (c : PipeCall) → Piped c → Done c
done c w = subst Done (sym w.is) (record { is = w.kept.0; bytes = w.kept.1 })

-- a run of calls from zeroed memory leaves at each frame what the definition over all frames so far says
pub opl_pipe_frames : (l : List ℕ) (calls : ℕ → PipeCall) (f : ℕ) → ((g : ℕ) → g ≤ f → Piped (calls g)) → FramesRight l calls f
opl_pipe_frames l calls f w = frames_right l calls f (λ g h. done (calls g) (w g h))

-- and by the receiver's way back the codewords of a frame come back whole, the greatest delay later
pub opl_pipe_back : (l : List ℕ) (calls : ℕ → PipeCall) (f : ℕ) → ((g : ℕ) → g ≤ f → Piped (calls g)) → CodewordsBack l calls f
opl_pipe_back l calls f w = codewords_back l calls f (λ g h. done (calls g) (w g h))

-- no accepted call is lent more than 1.6 GB
pub opl_pipe_memory : (c : PipeCall) → Piped c → MemoryMost c
opl_pipe_memory c w = memory_at_most c (done c w)
