-- Reading a pipe's frame out of the ring, unit by unit.
-- Assumes nothing.
use Prim.Native.Nat.{ℕ, suc, ◌+◌, ◌-◌, ◌*◌, ◌/◌, ◌%◌, ◌≤◌, ◌<◌}
use mathlib.Core.Path.{◌≡◌, sym, ap, ap₂, ◌∙◌}
use mathlib.Core.List.{List}
use native.Mathlib.Nat.{mod-lt, mul_assoc, add-mul, suc-mul, mul-le-mul, mul-le-mul_right, mod-eq_of_lt, zero-add}
use native.Mathlib.Decide.{dec_lt}
use native.Mathlib.Omega.{arith}
use lib.ListN.{length, get_or, take, drop, length-drop}
use lib.Seq.{paste, get_or-take, get_or-drop, length-take-le}
use Rattle.ground.specs.Table.{tab}
use Rattle.ground.proofs.Table.{get_or_tab}
use Rattle.byte_runs.specs.Runs.{copied}
use Rattle.byte_runs.proofs.Runs.{copied_all}
use Rattle.slots.specs.declared.Profile.{Profile}
use Rattle.slots.specs.declared.Way.{Way}
use Rattle.slots.specs.Disperser.{tap_delay_rec, tap_delay}
use Rattle.slots.specs.Slots.{frame_units, frame_bytes}
use Rattle.slots.specs.Collector.{slot_at, unit_at}
use Rattle.slots.specs.Ring.{depth, source, byte_from}
use Rattle.disperser.specs.Inside.{Gathers}
use Rattle.slots.proofs.Places.{row_of, col_of, in_table}
use Rattle.slots.proofs.Collector.{collected_once}
use Rattle.slots.proofs.Ring.{paste_in, paste_before}

-- ---- the greatest numbers that there are

units_bound : (slots units : ℕ) → slots < 65536 → units < 256 → slots * units ≤ 16777216
units_bound slots units h k =
    let s : slots ≤ 65536 = omega arith in
    let u : units ≤ 256 = omega arith in
    let m : slots * units ≤ 65536 * 256 = mul-le-mul s u in
    m

ring_bound : (rows bytes : ℕ) → rows ≤ 65536 → bytes ≤ 1073741824 → rows * bytes ≤ 70368744177664
ring_bound rows bytes h k = let m : rows * bytes ≤ 65536 * 1073741824 = mul-le-mul h k in m

-- ---- the delays

-- they repeat
again_32 : (p : Profile) (k : ℕ) → tap_delay p (k % 32) ≡ tap_delay p k
unfolding tap_delay tap_delay_rec
again_32 p k = ap (λ (z : ℕ). p.greatest - get_or p.taps z 0) (mod-eq_of_lt (mod-lt k (omega arith)))

pub delay_at : (p : Profile) (delays : List ℕ) (k : ℕ) → delays ≡ tab (tap_delay p) 0 32 → get_or delays (k % 32) 0 ≡ tap_delay p k
delay_at p delays k e =
    ap (λ (l : List ℕ). get_or l (k % 32) 0) e ∙ get_or_tab (tap_delay p) 0 0 32 (k % 32) (mod-lt k (omega arith)) ∙ ap (tap_delay p) (zero-add (k % 32)) ∙ again_32 p k

pub delay_most : (p : Profile) (k : ℕ) → tap_delay p k ≤ p.greatest
unfolding tap_delay
delay_most p k = omega arith

-- ---- one unit

module _ (y : Way) (j : ℕ) (inside : j < frame_units y) (at : ℕ) (e : at ≡ slot_at y j * y.units + unit_at y j) where
  pub unit_number : at % y.units ≡ unit_at y j
  unit_number = ap (λ (z : ℕ). z % y.units) e ∙ col_of (slot_at y j) (unit_at y j) y.units ((collected_once y).unit_inside j inside)

  pub unit_room : (ring : List ℕ) (row : ℕ) → length ring ≡ depth y * frame_bytes y → row < depth y → at < frame_units y → (row * frame_units y + at) * 64 + 64 ≤ length ring
  unit_room ring row whole r a =
      let i : row * frame_units y + at < depth y * frame_units y = in_table row at (depth y) (frame_units y) r a in
      let x : suc (row * frame_units y + at) * 64 ≤ depth y * frame_units y * 64 = mul-le-mul_right 64 i in
      let s : suc (row * frame_units y + at) * 64 ≡ (row * frame_units y + at) * 64 + 64 = suc-mul (row * frame_units y + at) 64 in
      let m : depth y * frame_units y * 64 ≡ depth y * frame_bytes y = mul_assoc (depth y) (frame_units y) 64 in
      omega (arith, whole)

  pub unit_byte : (f : ℕ) (ring : List ℕ) (row d b : ℕ) → d ≡ tap_delay y.profile (unit_at y j) → row ≡ (f + depth y - d) % depth y → b < 64
      → get_or ring ((row * frame_units y + at) * 64 + b) 0 ≡ byte_from y f ring (j * 64 + b)
  unfolding byte_from source
  unit_byte f ring row d b t r l =
      let u : (ℕ → ℕ → ℕ) = λ (g b : ℕ). (f + depth y - tap_delay y.profile (unit_at y g)) % depth y * frame_bytes y + ((slot_at y g * y.units + unit_at y g) * 64 + b) in
      let m : (row * frame_units y + at) * 64 ≡ row * frame_bytes y + at * 64 = add-mul (row * frame_units y) at 64 ∙ ap (λ (z : ℕ). z + at * 64) (mul_assoc row (frame_units y) 64) in
      let n : (row * frame_units y + at) * 64 + b ≡ row * frame_bytes y + (at * 64 + b) = omega arith in
      let o : row * frame_bytes y + (at * 64 + b) ≡ u j b =
      ap₂ (λ (x z : ℕ). x * frame_bytes y + (z * 64 + b)) (r ∙ ap (λ (x : ℕ). (f + depth y - x) % depth y) t) e in
      let p : u j b ≡ u ((j * 64 + b) / 64) ((j * 64 + b) % 64) = ap₂ u (sym (row_of j b 64 l)) (sym (col_of j b 64 l)) in
      ap (λ (z : ℕ). get_or ring z 0) (n ∙ o ∙ p)

-- ---- a unit as the code has it: a stretch by its two ends

module _ (l : List ℕ) (from : ℕ) (room : from + 64 ≤ length l) where
  size : from + 64 - from ≡ 64
  size = omega arith

  pub stretch_length : length (take (from + 64 - from) (drop from l)) ≡ 64
  stretch_length = length-take-le (from + 64 - from) (drop from l) (rw length-drop (omega arith)) ∙ size

  pub stretch_byte : (b : ℕ) → b < 64 → get_or (take (from + 64 - from) (drop from l)) b 0 ≡ get_or l (from + b) 0
  stretch_byte b h = get_or-take (from + 64 - from) (drop from l) b 0 (omega arith) ∙ get_or-drop from l b 0

-- ---- one unit more in the pipe's frame

module _ (g : ℕ → ℕ) (out u : List ℕ) (j : ℕ) (full : length u ≡ 64) (room : j * 64 + 64 ≤ length out) where
  pasted : paste out (j * 64) u 64 ≡ copied u out (j * 64)
  pasted = copied_all u out (j * 64) (omega arith) 64 (sym full)

  pub unit_more : ((q : ℕ) → q < j * 64 → get_or out q 0 ≡ g q) → ((b : ℕ) → b < 64 → get_or u b 0 ≡ g (j * 64 + b))
      → (q : ℕ) → q < (j + 1) * 64 → get_or (copied u out (j * 64)) q 0 ≡ g q
  unit_more before new q h =
      ap (λ (l : List ℕ). get_or l q 0) (sym pasted)
      ∙ elim (dec_lt q (j * 64)) [
        | yes l ↦ paste_before out (j * 64) u 64 room (omega arith) q l ∙ before q l
        | no l ↦ (
            let b : ℕ = q - j * 64 in
            let e : q ≡ j * 64 + b = omega arith in
            let k : b < 64 = omega arith in
            ap (λ (z : ℕ). get_or (paste out (j * 64) u 64) z 0) e ∙ paste_in out (j * 64) u 64 room (omega arith) b k ∙ new b k ∙ ap g (sym e))
      ]

-- ---- what holds in each turn of reading a frame

module _ (y : Way) (delays : List ℕ) (f : ℕ) (ring out : List ℕ) (h : Gathers y delays f ring out) where
  pub units_most : frame_units y ≤ 16777216
  units_most = units_bound y.slots y.units h.small h.narrow

  pub ring_most : length ring ≤ 70368744177664
  ring_most =
      let m : depth y * frame_bytes y ≤ 70368744177664 = ring_bound (depth y) (frame_bytes y) (omega (arith, h.shallow)) (omega (arith, units_most)) in
      omega (arith, h.whole)

  module _ (j : ℕ) (inside : j < frame_units y) (at : ℕ) (e : at ≡ slot_at y j * y.units + unit_at y j) where
    pub delay_is : get_or delays (at % y.units % 32) 0 ≡ tap_delay y.profile (unit_at y j)
    delay_is = delay_at y.profile delays (at % y.units) h.ours ∙ ap (tap_delay y.profile) (unit_number y j inside at e)

    pub delay_less : get_or delays (at % y.units % 32) 0 < depth y
    delay_less =
        let m : tap_delay y.profile (unit_at y j) ≤ y.profile.greatest = delay_most y.profile (unit_at y j) in
        omega (arith, delay_is)

    pub byte_is : (row : ℕ) → row ≡ (f + depth y - get_or delays (at % y.units % 32) 0) % depth y → (b : ℕ) → b < 64
        → get_or ring ((row * frame_units y + at) * 64 + b) 0 ≡ byte_from y f ring (j * 64 + b)
    byte_is row r b l = unit_byte y j inside at e f ring row (get_or delays (at % y.units % 32) 0) b delay_is r l
