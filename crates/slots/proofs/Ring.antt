-- The ring: frames that go through it one after the other come out as the definition over all frames so far says.
-- Assumes nothing.
use Prim.Native.Nat.{ℕ, zero, suc, ◌+◌, ◌-◌, ◌*◌, ◌/◌, ◌%◌, ◌≤◌, ◌<◌}
use mathlib.Core.Path.{◌≡◌, sym, ap, ap₂, ◌∙◌, subst}
use mathlib.Core.Bool.{Bool}
use mathlib.Core.List.{List, ◌++◌}
use native.Mathlib.Nat.{mod-lt, suc-mul, mul-le-mul_right, add-mod_right, mod-add-mod, zero-add, sub-zero, le_refl}
use native.Mathlib.Decide.{dec_lt}
use native.Mathlib.Omega.{arith}
use borrow.Author.Tests.{le-leb, lt-leb}
use lib.Dec.{leb, leb-suc-suc}
use lib.ListN.{length, get_or, take, drop, length-replicate, get_or-replicate, get_or-append}
use lib.Seq.{paste, length-paste, length_paste_head, get_or-take, get_or-drop, get_or-append-add, length-take-le}
use Rattle.ground.specs.Choice.{choose}
use Rattle.ground.specs.Table.{tab}
use Rattle.ground.proofs.Choice.{choose_true, choose_false, choose_ap}
use Rattle.ground.proofs.Table.{tab_cong}
use Rattle.slots.specs.declared.Way.{Way}
use Rattle.slots.specs.Disperser.{tap_delay, dispersed}
use Rattle.slots.specs.Slots.{frame_units, frame_bytes, unit_of, zero_unit, joined, fed_to}
use Rattle.slots.specs.Collector.{slot_at, unit_at, pipe_unit, pipe_frame}
use Rattle.slots.specs.Ring.{depth, fresh, taken, row_back, source, byte_from, step, ring_at}
use Rattle.slots.specs.Wanted.{RingRight, OnlyRemainder}
use Rattle.slots.proofs.Places.{in_table, row_in, apart}
use Rattle.slots.proofs.Collector.{collected_once}
use Rattle.slots.proofs.Units.{part_byte}

-- ---- an entry after a copy

module _ (d : List ℕ) (at : ℕ) (s : List ℕ) (n : ℕ) (room : at + n ≤ length d) (full : n ≤ length s) where
  head_length : length (take at d ++ take n s) ≡ at + n
  head_length = length_paste_head d at s n (omega arith) full

  front_length : length (take at d) ≡ at
  front_length = length-take-le at d (omega arith)

  pub paste_in : (j : ℕ) → j < n → get_or (paste d at s n) (at + j) 0 ≡ get_or s j 0
  paste_in j h =
      get_or-append (take at d ++ take n s) (drop (at + n) d) 0 (at + j) (omega (arith, head_length))
      ∙ ap (λ (z : ℕ). get_or (take at d ++ take n s) (z + j) 0) (sym front_length)
      ∙ get_or-append-add (take at d) (take n s) j 0
      ∙ get_or-take n s j 0 h

  pub paste_before : (i : ℕ) → i < at → get_or (paste d at s n) i 0 ≡ get_or d i 0
  paste_before i h =
      get_or-append (take at d ++ take n s) (drop (at + n) d) 0 i (omega (arith, head_length))
      ∙ get_or-append (take at d) (take n s) 0 i (omega (arith, front_length))
      ∙ get_or-take at d i 0 h

  pub paste_after : (i : ℕ) → at + n ≤ i → get_or (paste d at s n) i 0 ≡ get_or d i 0
  paste_after i h =
      let r : ℕ = i - (at + n) in
      let e : i ≡ at + n + r = omega arith in
      ap (λ (z : ℕ). get_or (paste d at s n) z 0) (e ∙ ap (λ (z : ℕ). z + r) (sym head_length))
      ∙ get_or-append-add (take at d ++ take n s) (drop (at + n) d) r 0
      ∙ get_or-drop (at + n) d r 0
      ∙ ap (λ (z : ℕ). get_or d z 0) (sym e)

-- ---- what the ring holds

-- byte j of the frame that lies d before f, zero before the first frame
pub past : (ℕ → List ℕ) → ℕ → ℕ → ℕ → ℕ
past frames f d j = choose (leb d f) (get_or (frames (f - d)) j 0) 0

past_suc : (frames : ℕ → List ℕ) (f d j : ℕ) → past frames (suc f) (suc d) j ≡ past frames f d j
unfolding past
past_suc frames f d j =
    let e : suc f - suc d ≡ f - d = omega arith in
    ap₂ (λ (t : Bool) (z : ℕ). choose t (get_or (frames z) j 0) 0) (leb-suc-suc d f) e

past_now : (frames : ℕ → List ℕ) (f j : ℕ) → past frames f 0 j ≡ get_or (frames f) j 0
unfolding past
past_now frames f j = choose_true _ _ (le-leb 0 f (omega arith)) ∙ ap (λ (z : ℕ). get_or (frames z) j 0) (sub-zero f)

module _ (y : Way) (frames : ℕ → List ℕ) where
  -- before frame f: for each d from 1 to the depth the frame that lies d before
  pub record Holds (f : ℕ) (ring : List ℕ) : Type 0 where
    pub long : length ring ≡ depth y * frame_bytes y
    pub kept : (d j : ℕ) → d < depth y → j < frame_bytes y → get_or ring ((f + depth y - suc d) % depth y * frame_bytes y + j) 0 ≡ past frames f (suc d) j

  pub fresh_holds : Holds 0 (fresh y)
  unfolding past
  fresh_holds = record {
    long = length-replicate {A = ℕ} (depth y * frame_bytes y) 0;
    kept = λ d j h l.
        get_or-replicate (depth y * frame_bytes y) ((0 + depth y - suc d) % depth y * frame_bytes y + j) 0 0
        (in_table ((0 + depth y - suc d) % depth y) j (depth y) (frame_bytes y) (mod-lt (0 + depth y - suc d) (omega arith)) l)
        ∙ sym (choose_false _ _ (lt-leb (suc d) 0 (omega arith)));
  }

  module _ (f : ℕ) (ring : List ℕ) (h : Holds f ring) (framed : length (frames f) ≡ frame_bytes y) where
    row : f % depth y < depth y
    row = mod-lt f (omega arith)

    room : f % depth y * frame_bytes y + frame_bytes y ≤ length ring
    room =
        let x : suc (f % depth y) * frame_bytes y ≤ depth y * frame_bytes y = mul-le-mul_right (frame_bytes y) row in
        let e : suc (f % depth y) * frame_bytes y ≡ f % depth y * frame_bytes y + frame_bytes y = suc-mul (f % depth y) (frame_bytes y) in
        omega (arith, h.long)

    full : frame_bytes y ≤ length (frames f)
    full = omega arith

    this_row : (j : ℕ) → j < frame_bytes y → get_or (taken y f (frames f) ring) (f % depth y * frame_bytes y + j) 0 ≡ get_or (frames f) j 0
    unfolding taken
    this_row j l = paste_in ring (f % depth y * frame_bytes y) (frames f) (frame_bytes y) room full j l

    other_row : (r j : ℕ) → (r ≡ f % depth y → ⊥) → j < frame_bytes y → get_or (taken y f (frames f) ring) (r * frame_bytes y + j) 0 ≡ get_or ring (r * frame_bytes y + j) 0
    unfolding taken
    other_row r j o l =
        elim (dec_lt r (f % depth y)) [
          | yes q ↦ (
              let x : suc r * frame_bytes y ≤ f % depth y * frame_bytes y = mul-le-mul_right (frame_bytes y) q in
              let e : suc r * frame_bytes y ≡ r * frame_bytes y + frame_bytes y = suc-mul r (frame_bytes y) in
              paste_before ring (f % depth y * frame_bytes y) (frames f) (frame_bytes y) room full (r * frame_bytes y + j) (omega arith))
          | no q ↦ (
              let g : suc (f % depth y) ≤ r = more r (f % depth y) o q in
              let x : suc (f % depth y) * frame_bytes y ≤ r * frame_bytes y = mul-le-mul_right (frame_bytes y) g in
              let e : suc (f % depth y) * frame_bytes y ≡ f % depth y * frame_bytes y + frame_bytes y = suc-mul (f % depth y) (frame_bytes y) in
              paste_after ring (f % depth y * frame_bytes y) (frames f) (frame_bytes y) room full (r * frame_bytes y + j) (omega arith))
        ]
      where
        more : (r s : ℕ) → (r ≡ s → ⊥) → (r < s → ⊥) → suc s ≤ r
        more r s o q = omega arith

    kept_on : (d j : ℕ) → d < depth y → j < frame_bytes y → get_or (taken y f (frames f) ring) ((suc f + depth y - suc d) % depth y * frame_bytes y + j) 0 ≡ past frames (suc f) (suc d) j
    kept_on zero j q l =
        let e : suc f + depth y - suc zero ≡ f + depth y = omega arith in
        ap (λ (z : ℕ). get_or (taken y f (frames f) ring) (z * frame_bytes y + j) 0) (ap (λ (z : ℕ). z % depth y) e ∙ add-mod_right f (depth y))
        ∙ this_row j l
        ∙ sym (past_suc frames f zero j ∙ past_now frames f j)
    kept_on (suc d) j q l =
        let e : suc f + depth y - suc (suc d) ≡ f + depth y - suc d = omega arith in
        let a : (f + depth y - suc d) % depth y ≡ f % depth y → ⊥ =
        λ s. apart (f + depth y - suc d) (f + depth y) (depth y) (omega arith) (omega arith) (s ∙ sym (add-mod_right f (depth y))) in
        ap (λ (z : ℕ). get_or (taken y f (frames f) ring) (z % depth y * frame_bytes y + j) 0) e
        ∙ other_row ((f + depth y - suc d) % depth y) j a l
        ∙ h.kept d j (omega arith) l
        ∙ sym (past_suc frames f (suc d) j)

    pub taken_holds : Holds (suc f) (taken y f (frames f) ring)
    unfolding taken
    taken_holds = record { long = length-paste ring (f % depth y * frame_bytes y) (frames f) (frame_bytes y) room full ∙ h.long; kept = kept_on }

    -- ---- what is read out of it

    source_in : (q : ℕ) → q < frame_bytes y → source y q < frame_bytes y
    unfolding source
    source_in q l =
        let j : q / 64 < frame_units y = row_in q (frame_units y) 64 l in
        in_table (slot_at y (q / 64) * y.units + unit_at y (q / 64)) (q % 64) (frame_units y) 64
        (in_table (slot_at y (q / 64)) (unit_at y (q / 64)) y.slots y.units ((collected_once y).slot_inside (q / 64) j) ((collected_once y).unit_inside (q / 64) j)) (omega arith)

    delay_in : (k : ℕ) → tap_delay y.profile k < depth y
    unfolding tap_delay
    delay_in k = omega arith

    byte_out : (q : ℕ) → q < frame_bytes y → byte_from y f (taken y f (frames f) ring) q ≡ past frames f (tap_delay y.profile (unit_at y (q / 64))) (source y q)
    unfolding byte_from
    byte_out q l =
        let d : ℕ = tap_delay y.profile (unit_at y (q / 64)) in
        let e : f + depth y - d ≡ suc f + depth y - suc d = omega arith in
        ap (λ (z : ℕ). get_or (taken y f (frames f) ring) (z % depth y * frame_bytes y + source y q) 0) e
        ∙ taken_holds.kept d (source y q) (delay_in (unit_at y (q / 64))) (source_in q l)
        ∙ past_suc frames f d (source y q)

    byte_wanted : (q : ℕ) → get_or (pipe_unit y frames f (q / 64)) (q % 64) 0 ≡ past frames f (tap_delay y.profile (unit_at y (q / 64))) (source y q)
    unfolding pipe_unit dispersed fed_to past source
    byte_wanted q =
        let d : ℕ = tap_delay y.profile (unit_at y (q / 64)) in
        let at : ℕ = slot_at y (q / 64) * y.units + unit_at y (q / 64) in
        let m : q % 64 < 64 = omega arith in
        choose_ap (λ (u : List ℕ). get_or u (q % 64) 0) (leb d f) (unit_of (frames (f - d)) at) zero_unit
        ∙ ap₂ (λ (a b : ℕ). choose (leb d f) a b) (part_byte 64 (frames (f - d)) at (q % 64) m) (get_or-replicate 64 (q % 64) 0 0 m)

    pub comes_out : (step y f (frames f) ring).answer ≡ pipe_frame y frames f
    unfolding step pipe_frame joined
    comes_out =
        tab_cong (byte_from y f (taken y f (frames f) ring)) (λ q. get_or (pipe_unit y frames f (q / 64)) (q % 64) 0) 0 (frame_bytes y)
        (λ k l. byte_out (0 + k) (subst (λ (z : ℕ). z < frame_bytes y) (sym (zero-add k)) l) ∙ sym (byte_wanted (0 + k)))

  -- ---- the run

  pub run_holds : (f : ℕ) → ((g : ℕ) → g < f → length (frames g) ≡ frame_bytes y) → Holds f (ring_at y frames f)
  unfolding ring_at step
  run_holds zero framed = fresh_holds
  run_holds (suc f) framed = taken_holds f (ring_at y frames f) (run_holds f (λ g l. framed g (omega arith))) (framed f (le_refl (suc f)))

pub ring_right : RingRight
ring_right y frames f framed =
    comes_out y frames f (ring_at y frames f) (run_holds y frames f (λ g l. framed g (omega arith))) (framed f (le_refl f))

-- ---- only the remainder of the frame's number matters

row_remainder : (f d delay : ℕ) → 0 < d → delay ≤ d → (f + d - delay) % d ≡ (f % d + (d - delay)) % d
row_remainder f d delay p h =
    let e : f + d - delay ≡ f + (d - delay) = omega arith in
    ap (λ (z : ℕ). z % d) e ∙ sym (mod-add-mod f d (d - delay))

module _ (y : Way) (f g : ℕ) (e : f % depth y ≡ g % depth y) where
  same_row : (k : ℕ) → row_back y f (tap_delay y.profile k) ≡ row_back y g (tap_delay y.profile k)
  unfolding tap_delay
  same_row k =
      let d : ℕ = tap_delay y.profile k in
      row_remainder f (depth y) d (omega arith) (omega arith) ∙ ap (λ (z : ℕ). (z + (depth y - d)) % depth y) e ∙ sym (row_remainder g (depth y) d (omega arith) (omega arith))

  same_bytes : (ring : List ℕ) → tab (byte_from y f ring) 0 (frame_bytes y) ≡ tab (byte_from y g ring) 0 (frame_bytes y)
  unfolding byte_from
  same_bytes ring =
      tab_cong (byte_from y f ring) (byte_from y g ring) 0 (frame_bytes y)
      (λ k h. ap (λ (z : ℕ). get_or ring (z * frame_bytes y + source y (0 + k)) 0) (same_row (unit_at y ((0 + k) / 64))))

  same_ring : (frame ring : List ℕ) → taken y f frame ring ≡ taken y g frame ring
  unfolding taken
  same_ring frame ring = ap (λ (z : ℕ). paste ring (z * frame_bytes y) frame (frame_bytes y)) e

  same_step : (frame ring : List ℕ) → step y f frame ring ≡ step y g frame ring
  unfolding step
  same_step frame ring =
      let m : taken y f frame ring ≡ taken y g frame ring = same_ring frame ring in
      let a : tab (byte_from y f (taken y f frame ring)) 0 (frame_bytes y) ≡ tab (byte_from y g (taken y g frame ring)) 0 (frame_bytes y) =
      same_bytes (taken y f frame ring) ∙ ap (λ (r : List ℕ). tab (byte_from y g r) 0 (frame_bytes y)) m in
      ap₂ (λ (a m : List ℕ). record { answer = a; memory = m }) a m

pub only_remainder : OnlyRemainder
only_remainder y f g e frame ring = same_step y f g e frame ring
