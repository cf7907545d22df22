-- The disperser of a slot (clause 4.7), and the delays of its taps (the last two steps of clause 4.10.7).
-- Assumes nothing.
use Rattle.std.specs.Prelude.{ℕ, ◌-◌, ◌%◌, leb, get_or}
use Rattle.ground.specs.Choice.{choose}
use Rattle.slots.specs.declared.Profile.{Profile}

-- Tap_Delay_Rec: the receiver's delay of unit k, in frames; the 32 lengths repeat
unfoldable pub tap_delay_rec : Profile → ℕ → ℕ
tap_delay_rec p k = get_or p.taps (k % 32) 0

-- Tap_Delay: ours, Max_Delay - Tap_Delay_Rec
unfoldable pub tap_delay : Profile → ℕ → ℕ
tap_delay p k = p.greatest - tap_delay_rec p k

-- over all frames so far: unit k of frame f is that which was fed as many frames before as its tap says; nothing comes where that is before the first frame
unfoldable pub dispersed : {A : Type 0} → A → (ℕ → ℕ) → (ℕ → ℕ → A) → ℕ → ℕ → A
dispersed nothing tap fed f k = choose (leb (tap k) f) (fed (f - tap k) k) nothing
