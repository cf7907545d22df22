-- From the codewords to the pipe and back.
-- Assumes nothing.
use Prim.Native.Nat.{ℕ, ◌+◌, ◌-◌, ◌*◌, ◌/◌, ◌≤◌, ◌<◌}
use mathlib.Core.Path.{◌≡◌, refl, sym, ap, ◌∙◌}
use mathlib.Core.Bool.{Bool}
use mathlib.Core.Logic.{inl}
use mathlib.Core.List.{List}
use native.Mathlib.Nat.{mul_assoc}
use native.Mathlib.Omega.{arith}
use borrow.Author.Tests.{le-leb}
use lib.Dec.{T, leb, eqb, eqb→eq}
use lib.ListN.{length, get_or, replicate}
use Rattle.ground.specs.Choice.{choose}
use Rattle.ground.specs.Table.{all_below}
use Rattle.ground.proofs.Choice.{choose_true}
use Rattle.ground.proofs.Table.{at_all}
use Rattle.bits.specs.Lists.{Below}
use Rattle.bits.proofs.Below.{below_get, below_tab}
use Rattle.patterns.specs.Rates.{rates, rate_of, units_of}
use Rattle.patterns.specs.Sent.{code_length}
use Rattle.description.specs.Fields.{punct_pat}
use Rattle.slots.specs.declared.Way.{Way}
use Rattle.slots.specs.Slots.{frame_bytes, part, joined}
use Rattle.slots.specs.Collector.{pipe_frame}
use Rattle.slots.specs.Receiver.{received_frame}
use Rattle.slots.specs.Wanted.{Framed, Within}
use Rattle.slots.proofs.Units.{part_length, part_joined, joined_length, joined_cong, joined_parts}
use Rattle.slots.proofs.Back.{frame_back}
use Rattle.mixer.specs.Mixer.{mixed}
use Rattle.mixer.specs.Unmixer.{unmixed}
use Rattle.mixer.specs.Mixing.{codeword_bytes}
use Rattle.mixer.proofs.Unmixes.{unmixes, mixed_length}
use Rattle.profile.specs.Profile.{profile_of, max_delay}
use Rattle.profile.proofs.Delays.{tap_most}
use Rattle.pipe.specs.Frame.{way_of, mixed_frame, unmixed_frame}

-- ---- a frame of codewords

-- a codeword is a slot's units
sized : ℕ → Bool
sized p = eqb (code_length p 12282 / 8) (4 * units_of p * 64)

all_sized : T (all_below sized 28)
unfolding sized code_length units_of rate_of rates
all_sized = tt

pub codeword_size : (p : ℕ) → p < 28 → codeword_bytes p ≡ 4 * units_of p * 64
unfolding sized
codeword_size p h = eqb→eq (code_length p 12282 / 8) (4 * units_of p * 64) (at_all sized 28 all_sized p h)

below_part : (z : ℕ) (l : List ℕ) (j : ℕ) → Below 256 l → Below 256 (part z l j)
unfolding part
below_part z l j b = below_tab 256 (λ i. get_or l (j * z + i) 0) (λ i. below_get 256 l (j * z + i) (omega arith) b) 0 z

pub frame_unmixes : (p m : ℕ) → p < 28 → (l : List ℕ) → Below 256 l → length l ≡ m * codeword_bytes p → unmixed_frame p m (mixed_frame p m l) ≡ l
unfolding mixed_frame unmixed_frame
frame_unmixes p m h l b e =
    let z : ℕ = codeword_bytes p in
    let u : (ℕ → List ℕ) = λ w. mixed p 12282 (part z l w) in
    joined_cong z (λ w. unmixed p 12282 (part z (joined z u m) w)) (part z l) m
    (λ w k. ap (unmixed p 12282) (part_joined z u m w k (mixed_length p 12282 (part z l w)))
    ∙ unmixes p 12282 (inl (h, refl)) (part z l w) (below_part z l w b) (part_length z l w))
    ∙ joined_parts z l m e

pub mixed_frame_length : (p m : ℕ) (l : List ℕ) → length (mixed_frame p m l) ≡ m * codeword_bytes p
unfolding mixed_frame
mixed_frame_length p m l = joined_length (codeword_bytes p) (λ w. mixed p 12282 (part (codeword_bytes p) l w)) m

-- ---- the whole way

module _ (pipe : List ℕ) (sections : List (List ℕ)) (h : punct_pat pipe < 28) where
  pub frame_size : frame_bytes (way_of pipe sections) ≡ (way_of pipe sections).slots * codeword_bytes (punct_pat pipe)
  unfolding way_of
  frame_size =
      let m : ℕ = (way_of pipe sections).slots in
      mul_assoc m (4 * units_of (punct_pat pipe)) 64 ∙ ap (λ (z : ℕ). m * z) (sym (codeword_size (punct_pat pipe) h))

  pub within : Within (way_of pipe sections)
  unfolding way_of
  within k = tap_most pipe sections k

  pub greatest : (way_of pipe sections).profile.greatest ≡ max_delay pipe sections
  unfolding way_of profile_of
  greatest = refl

pub whole_way : (pipe : List ℕ) (sections : List (List ℕ)) → punct_pat pipe < 28 → (codewords : ℕ → List ℕ) (f : ℕ)
    → Framed (way_of pipe sections) codewords f → Below 256 (codewords (f - max_delay pipe sections)) → max_delay pipe sections ≤ f
    → unmixed_frame (punct_pat pipe) (way_of pipe sections).slots
    (received_frame (way_of pipe sections) (pipe_frame (way_of pipe sections) (λ g. mixed_frame (punct_pat pipe) (way_of pipe sections).slots (codewords g))) f)
    ≡ codewords (f - max_delay pipe sections)
whole_way pipe sections h codewords f framed below late =
    let y : Way = way_of pipe sections in
    let p : ℕ = punct_pat pipe in
    let m : ℕ = y.slots in
    let g : ℕ = f - max_delay pipe sections in
    let z : frame_bytes y ≡ m * codeword_bytes p = frame_size pipe sections h in
    let mixes : (ℕ → List ℕ) = λ i. mixed_frame p m (codewords i) in
    let d : y.profile.greatest ≡ max_delay pipe sections = greatest pipe sections h in
    let back : received_frame y (pipe_frame y mixes) f ≡ choose (leb y.profile.greatest f) (mixes (f - y.profile.greatest)) (replicate (frame_bytes y) 0) =
    frame_back y mixes (within pipe sections h) f (λ i l. mixed_frame_length p m (codewords i) ∙ sym z) in
    let came : received_frame y (pipe_frame y mixes) f ≡ mixes g =
    back ∙ choose_true _ _ (ap (λ (x : ℕ). leb x f) d ∙ le-leb (max_delay pipe sections) f late) ∙ ap (λ (x : ℕ). mixes (f - x)) d in
    ap (unmixed_frame p m) came ∙ frame_unmixes p m h (codewords g) below (framed g (omega arith) ∙ z)
