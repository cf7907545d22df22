-- Calls for the frames of a pipe, one after the other, as a head-end makes them, and what is claimed of them.
-- Assumes nothing.
use Rattle.std.specs.Prelude.{ℕ, suc, ◌-◌, ◌%◌, ◌≤◌, ◌≡◌, List, length, replicate}
use Rattle.slots.specs.Collector.{pipe_frame}
use Rattle.slots.specs.Receiver.{received_frame}
use Rattle.slots.specs.Ring.{depth}
use Rattle.pipe.specs.Frame.{mixed_frame, unmixed_frame}
use Rattle.pipe.specs.Piping.{lent_way, lent_pattern}

-- a call write(pipe, frame, codewords, memory, out): what was lent, what it answered, and what it left
pub record PipeCall : Type 0 where
  pub pipe : List ℕ
  pub frame : ℕ
  pub codewords : List ℕ
  pub memory : List ℕ
  pub out : List ℕ
  pub answer : ℕ
  pub left_memory : List ℕ
  pub left_out : List ℕ

-- two forms of a pipe that make the same frames: the pattern, and what a frame is made by. The record's countdown, its schedule index and its number of
-- streams may differ, as they do from frame to frame
abbrev pub SamePipe : List ℕ → List ℕ → Type 0
SamePipe l m = (lent_pattern m ≡ lent_pattern l) × (lent_way m ≡ lent_way l)

-- the frames 0 to f of one pipe: the first call is lent zeros, each other what the one before it left; all are accepted. The number of a frame may be
-- counted modulo the greatest delay + 1
pub record Runs (l : List ℕ) (calls : ℕ → PipeCall) (f : ℕ) : Type 0 where
  pub pipe : (g : ℕ) → g ≤ f → SamePipe l (calls g).pipe
  pub frame : (g : ℕ) → g ≤ f → (calls g).frame % depth (lent_way l) ≡ g % depth (lent_way l)
  pub fresh : (calls 0).memory ≡ replicate (length (calls 0).memory) 0
  pub kept : (g : ℕ) → suc g ≤ f → (calls (suc g)).memory ≡ (calls g).left_memory
  pub accepted : (g : ℕ) → g ≤ f → (calls g).answer ≡ 0

-- the frame that call f leaves is that of the pipe by the definition over all frames so far
abbrev pub FramesRight : List ℕ → (ℕ → PipeCall) → ℕ → Type 0
FramesRight l calls f =
    Runs l calls f → (calls f).left_out ≡ pipe_frame (lent_way l) (λ g. mixed_frame (lent_pattern l) (lent_way l).slots (calls g).codewords) f

-- the receiver's way back: un-collected, delayed by the receiver's taps and in order again, the codewords of a frame come back whole, the greatest delay later
abbrev pub CodewordsBack : List ℕ → (ℕ → PipeCall) → ℕ → Type 0
CodewordsBack l calls f =
    Runs l calls f → (lent_way l).profile.greatest ≤ f
    → unmixed_frame (lent_pattern l) (lent_way l).slots (received_frame (lent_way l) (λ g. (calls g).left_out) f) ≡ (calls (f - (lent_way l).profile.greatest)).codewords

-- no accepted call is lent more memory than 6,161 frames of 1,023 capacity units
abbrev pub MemoryMost : PipeCall → Type 0
MemoryMost c = c.answer ≡ 0 → length c.memory ≤ 1613491968
