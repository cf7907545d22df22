-- Accepted calls, one after the other, leave the frames of the pipe, and the receiver has the codewords back.
-- Assumes nothing.
use Prim.Native.Nat.{ℕ, zero, suc, ◌-◌, ◌*◌, ◌/◌, ◌%◌, ◌≤◌, ◌<◌}
use mathlib.Core.Path.{◌≡◌, sym, ap, ap₂, ◌∙◌, subst}
use mathlib.Core.List.{List}
use native.Mathlib.Nat.{le_refl}
use native.Mathlib.Omega.{arith}
use borrow.Author.Tests.{eq-eqb}
use lib.Dec.{leb}
use lib.ListN.{length, replicate}
use Rattle.ground.specs.Outcome.{Outcome, Is}
use Rattle.ground.specs.Choice.{choose, first_of}
use Rattle.ground.proofs.Choice.{choose_true}
use Rattle.bits.specs.Lists.{Below}
use Rattle.slots.specs.declared.Way.{Way}
use Rattle.slots.specs.Disperser.{tap_delay_rec, dispersed}
use Rattle.slots.specs.Slots.{frame_bytes, unit_of, zero_unit, frame_units}
use Rattle.slots.specs.Collector.{place_of, pipe_frame}
use Rattle.slots.specs.Receiver.{uncollected, received_unit, received_frame}
use Rattle.slots.specs.Ring.{depth, step, ring_at}
use Rattle.slots.proofs.Ring.{ring_right, only_remainder}
use Rattle.slots.proofs.Units.{joined_cong}
use Rattle.mixer.specs.Mixing.{codeword_bytes}
use Rattle.profile.specs.Profile.{max_delay}
use Rattle.profile.specs.Lent.{lent_fields, lent_sections}
use Rattle.pipe.specs.Frame.{mixed_frame, unmixed_frame}
use Rattle.pipe.specs.Piping.{lent_way, lent_pattern, pipe_faults, piping}
use Rattle.pipe.specs.Calls.{PipeCall, SamePipe, Runs, FramesRight, CodewordsBack, MemoryMost}
use Rattle.pipe.proofs.Chain.{frame_size, mixed_frame_length, whole_way, greatest}
use Rattle.pipe.proofs.Stepping.{Fits, accepted, memory_most}

abbrev pub a_call : List ℕ → ℕ → List ℕ → List ℕ → List ℕ → ℕ → List ℕ → List ℕ → PipeCall
a_call l f c m o r n t = record { pipe = l; frame = f; codewords = c; memory = m; out = o; answer = r; left_memory = n; left_out = t }

-- a call that kept the promise
pub record Done (c : PipeCall) : Type 0 where
  pub is : Is (piping c.pipe c.frame c.codewords c.memory c.out) c.answer (c.left_memory, c.left_out)
  pub bytes : Below 256 c.codewords

-- what a call leaves, and what a frame through the ring does
abbrev pair : List ℕ → List ℕ → List ℕ × List ℕ
pair m o = (m, o)

abbrev ends : Outcome (List ℕ) (List ℕ) → List ℕ × List ℕ
ends o = (o.memory, o.answer)

module _ (c : PipeCall) (d : Done c) (z : c.answer ≡ 0) where
  none : first_of (pipe_faults c.pipe c.codewords c.memory c.out) ≡ 0
  unfolding piping
  none = sym d.is.answer ∙ z

  pub fits : Fits c.pipe c.codewords c.memory c.out
  fits = accepted c.pipe c.codewords c.memory c.out none

  left : pair c.left_memory c.left_out ≡ ends (step (lent_way c.pipe) c.frame (mixed_frame (lent_pattern c.pipe) (lent_way c.pipe).slots c.codewords) c.memory)
  unfolding piping
  left = d.is.memory ∙ choose_true _ _ (eq-eqb (first_of (pipe_faults c.pipe c.codewords c.memory c.out)) 0 none)

  -- one frame through the ring, whatever pipe bytes and frame number it is called
  pub stepped : (l : List ℕ) (f : ℕ) → SamePipe l c.pipe → c.frame % depth (lent_way l) ≡ f % depth (lent_way l)
      → pair c.left_memory c.left_out ≡ ends (step (lent_way l) f (mixed_frame (lent_pattern l) (lent_way l).slots c.codewords) c.memory)
  stepped l f e r =
      left
      ∙ ap₂ (λ (p : ℕ) (y : Way). ends (step y c.frame (mixed_frame p y.slots c.codewords) c.memory)) e.0 e.1
      ∙ ap ends (only_remainder (lent_way l) c.frame f r (mixed_frame (lent_pattern l) (lent_way l).slots c.codewords) c.memory)

pub memory_at_most : (c : PipeCall) → Done c → MemoryMost c
memory_at_most c d z = memory_most c.pipe c.frame c.codewords c.memory c.out (fits c d z)

-- ---- a run of calls

module _ (l : List ℕ) (calls : ℕ → PipeCall) (f : ℕ) (done : (g : ℕ) → g ≤ f → Done (calls g)) (runs : Runs l calls f) where
  abbrev y : Way
  y = lent_way l

  fit : (g : ℕ) → g ≤ f → Fits (calls g).pipe (calls g).codewords (calls g).memory (calls g).out
  fit g h = fits (calls g) (done g h) (runs.accepted g h)

  framed : (g : ℕ) → g ≤ f → length (calls g).codewords ≡ frame_bytes (lent_way l)
  framed g h = (fit g h).frame ∙ ap (λ (y : Way). frame_bytes y) (runs.pipe g h).1

  ringed : (g : ℕ) → g ≤ f → length (calls g).memory ≡ depth (lent_way l) * frame_bytes (lent_way l)
  ringed g h = (fit g h).ring ∙ ap (λ (y : Way). depth y * frame_bytes y) (runs.pipe g h).1

  known : lent_pattern l < 28
  known = let h : 0 ≤ f = omega arith in omega (arith, (fit 0 h).pattern, (runs.pipe 0 h).0)

  sized : frame_bytes (lent_way l) ≡ (lent_way l).slots * codeword_bytes (lent_pattern l)
  sized = frame_size (lent_fields l) (lent_sections l) known

  one : (g : ℕ) (h : g ≤ f)
      → pair (calls g).left_memory (calls g).left_out ≡ ends (step (lent_way l) g (mixed_frame (lent_pattern l) (lent_way l).slots (calls g).codewords) (calls g).memory)
  one g h = stepped (calls g) (done g h) (runs.accepted g h) l g (runs.pipe g h) (runs.frame g h)

  memory_is : (g : ℕ) → g ≤ f → (calls g).memory ≡ ring_at (lent_way l) (λ g. mixed_frame (lent_pattern l) (lent_way l).slots (calls g).codewords) g
  unfolding ring_at
  memory_is zero h = runs.fresh ∙ ap (λ (n : ℕ). replicate n 0) (ringed 0 h)
  memory_is (suc g) h =
      runs.kept g h
      ∙ ap (λ (m : List ℕ × List ℕ). m.0) (one g (omega arith))
      ∙ ap (λ (m : List ℕ). (step (lent_way l) g (mixed_frame (lent_pattern l) (lent_way l).slots (calls g).codewords) m).memory) (memory_is g (omega arith))

  frame_is : (g : ℕ) → g ≤ f → (calls g).left_out ≡ pipe_frame (lent_way l) (λ g. mixed_frame (lent_pattern l) (lent_way l).slots (calls g).codewords) g
  frame_is g h =
      ap (λ (m : List ℕ × List ℕ). m.1) (one g h)
      ∙ ap (λ (m : List ℕ). (step (lent_way l) g (mixed_frame (lent_pattern l) (lent_way l).slots (calls g).codewords) m).answer) (memory_is g h)
      ∙ ring_right (lent_way l) (λ g. mixed_frame (lent_pattern l) (lent_way l).slots (calls g).codewords) g
      (λ k q. mixed_frame_length (lent_pattern l) (lent_way l).slots (calls k).codewords ∙ sym sized)

pub frames_right : (l : List ℕ) (calls : ℕ → PipeCall) (f : ℕ) → ((g : ℕ) → g ≤ f → Done (calls g)) → FramesRight l calls f
frames_right l calls f done runs = frame_is l calls f done runs f (le_refl f)

-- ---- the receiver's way back: it looks at no later frame

received_same : (y : Way) (a b : ℕ → List ℕ) (f : ℕ) → ((g : ℕ) → g ≤ f → a g ≡ b g) → received_frame y a f ≡ received_frame y b f
unfolding received_frame received_unit dispersed uncollected
received_same y a b f h =
    joined_cong 64 (λ j. received_unit y a f (j / y.units) (j % y.units)) (λ j. received_unit y b f (j / y.units) (j % y.units)) (frame_units y)
    (λ j p.
    let t : ℕ = tap_delay_rec y.profile (j % y.units) in
    let at : ℕ = place_of y (j / y.units) (j % y.units) in
    ap (λ (x : List ℕ). choose (leb t f) (unit_of x at) zero_unit) (h (f - t) (omega arith)))

pub codewords_back : (l : List ℕ) (calls : ℕ → PipeCall) (f : ℕ) → ((g : ℕ) → g ≤ f → Done (calls g)) → CodewordsBack l calls f
codewords_back l calls f done runs late =
    let p : lent_pattern l < 28 = known l calls f done runs in
    let g : ℕ = f - (lent_way l).profile.greatest in
    let e : (lent_way l).profile.greatest ≡ max_delay (lent_fields l) (lent_sections l) = greatest (lent_fields l) (lent_sections l) p in
    ap (unmixed_frame (lent_pattern l) (lent_way l).slots)
    (received_same (lent_way l) (λ g. (calls g).left_out) (pipe_frame (lent_way l) (λ g. mixed_frame (lent_pattern l) (lent_way l).slots (calls g).codewords)) f (frame_is l calls f done runs))
    ∙ whole_way (lent_fields l) (lent_sections l) p (λ g. (calls g).codewords) f (framed l calls f done runs)
    (done (f - max_delay (lent_fields l) (lent_sections l)) (omega arith)).bytes (subst (λ (x : ℕ). x ≤ f) e late)
    ∙ ap (λ (x : ℕ). (calls (f - x)).codewords) (sym e)
