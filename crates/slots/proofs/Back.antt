-- The receiver's way back: at frame f come the mixed codewords of frame f - greatest.
-- Assumes nothing.
use Prim.Native.Nat.{ℕ, ◌+◌, ◌-◌, ◌*◌, ◌/◌, ◌%◌, ◌<◌}
use mathlib.Core.Path.{◌≡◌, sym, ap, ap₂, ◌∙◌}
use mathlib.Core.Bool.{Bool, true, false}
use mathlib.Core.List.{List}
use native.Mathlib.Nat.{div-add-mod'}
use native.Mathlib.Decide.{dec_le}
use native.Mathlib.Omega.{arith}
use borrow.Author.Tests.{le-leb, lt-leb}
use lib.Dec.{leb}
use lib.ListN.{length, replicate, length-replicate}
use Rattle.ground.specs.Choice.{choose}
use Rattle.ground.proofs.Choice.{choose_true, choose_false}
use Rattle.slots.specs.declared.Way.{Way}
use Rattle.slots.specs.Disperser.{tap_delay, tap_delay_rec, dispersed}
use Rattle.slots.specs.Slots.{frame_units, frame_bytes, unit_of, zero_unit, fed_to}
use Rattle.slots.specs.Collector.{place_of, slot_at, unit_at, pipe_unit, pipe_frame}
use Rattle.slots.specs.Receiver.{uncollected, received_unit, received_frame}
use Rattle.slots.specs.Wanted.{Framed, Within, ComesBack}
use Rattle.slots.proofs.Places.{row_in, col_in}
use Rattle.slots.proofs.Delays.{delays_add}
use Rattle.slots.proofs.Collector.{collected_once}
use Rattle.slots.proofs.Units.{part_length, part_joined, joined_cong, joined_parts, joined_zeros, joined_choice}

-- one delay after another is one delay
pub delays_join : {A : Type 0} (nothing : A) (x : ℕ → A) (a b g f : ℕ) → a + b ≡ g
    → choose (leb a f) (choose (leb b (f - a)) (x (f - a - b)) nothing) nothing ≡ choose (leb g f) (x (f - g)) nothing
delays_join nothing x a b g f e =
    elim (dec_le g f) [
      | yes h ↦ (
          let i : f - a - b ≡ f - g = omega arith in
          choose_true _ _ (le-leb a f (omega arith)) ∙ choose_true _ _ (le-leb b (f - a) (omega arith)) ∙ ap x i ∙ sym (choose_true _ _ (le-leb g f h)))
      | no h ↦ elim (dec_le a f) [
        | yes k ↦ choose_true _ _ (le-leb a f k) ∙ choose_false _ _ (lt-leb b (f - a) (omega arith)) ∙ sym (choose_false _ _ (lt-leb g f (omega arith)))
        | no k ↦ choose_false _ _ (lt-leb a f (omega arith)) ∙ sym (choose_false _ _ (lt-leb g f (omega arith)))
      ]
    ]

choose_length : (t : Bool) (x y : List ℕ) (n : ℕ) → length x ≡ n → length y ≡ n → length (choose t x y) ≡ n
choose_length true x y n h k = h
choose_length false x y n h k = k

module _ (y : Way) (frames : ℕ → List ℕ) where
  pub pipe_unit_length : (f j : ℕ) → length (pipe_unit y frames f j) ≡ 64
  unfolding pipe_unit dispersed fed_to
  pipe_unit_length f j =
      let d : ℕ = tap_delay y.profile (unit_at y j) in
      let at : ℕ = slot_at y j * y.units + unit_at y j in
      choose_length (leb d f) (unit_of (frames (f - d)) at) zero_unit 64 (part_length 64 (frames (f - d)) at) (length-replicate {A = ℕ} 64 0)

  -- what the receiver's disperser is fed with is what ours gave
  pub fed_back : (g w k : ℕ) → w < y.slots → k < y.units
      → uncollected y (pipe_frame y frames) w g k ≡ dispersed zero_unit (tap_delay y.profile) (fed_to y frames w) g k
  unfolding uncollected pipe_frame pipe_unit
  fed_back g w k h l =
      let j : ℕ = place_of y w k in
      part_joined 64 (pipe_unit y frames g) (frame_units y) j ((collected_once y).inside w k h l) (pipe_unit_length g j)
      ∙ ap₂ (λ (a b : ℕ). dispersed zero_unit (tap_delay y.profile) (fed_to y frames a) g b) ((collected_once y).slot_back w k h l) ((collected_once y).unit_back w k h l)

  module _ (within : Within y) where
    -- each unit comes the greatest delay late
    pub unit_back : (f w k : ℕ) → w < y.slots → k < y.units
        → received_unit y (pipe_frame y frames) f w k ≡ choose (leb y.profile.greatest f) (fed_to y frames w (f - y.profile.greatest) k) zero_unit
    unfolding received_unit dispersed
    unit_back f w k h l =
        let a : ℕ = tap_delay_rec y.profile k in
        let b : ℕ = tap_delay y.profile k in
        ap (λ (x : List ℕ). choose (leb a f) x zero_unit) (fed_back (f - a) w k h l)
        ∙ delays_join zero_unit (λ g. fed_to y frames w g k) a b y.profile.greatest f (delays_add y.profile k (within k))

    pub frame_back : (f : ℕ) → Framed y frames f
        → received_frame y (pipe_frame y frames) f ≡ choose (leb y.profile.greatest f) (frames (f - y.profile.greatest)) (replicate (frame_bytes y) 0)
    unfolding received_frame fed_to
    frame_back f framed =
        let t : Bool = leb y.profile.greatest f in
        let g : ℕ = f - y.profile.greatest in
        joined_cong 64 (λ j. received_unit y (pipe_frame y frames) f (j / y.units) (j % y.units)) (λ j. choose t (unit_of (frames g) j) zero_unit) (frame_units y)
        (λ j p. unit_back f (j / y.units) (j % y.units) (row_in j y.slots y.units p) (col_in j y.slots y.units p)
        ∙ ap (λ (z : ℕ). choose t (unit_of (frames g) z) zero_unit) (div-add-mod' j y.units))
        ∙ joined_choice 64 t (unit_of (frames g)) (λ j. zero_unit) (frame_units y)
        ∙ ap₂ (λ (a b : List ℕ). choose t a b) (joined_parts 64 (frames g) (frame_units y) (framed g (omega arith))) (joined_zeros 64 (frame_units y))

pub comes_back : ComesBack
comes_back y within frames f framed = frame_back y frames within f framed
