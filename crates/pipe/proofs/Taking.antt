-- Mixing a frame's codewords into the ring, one behind the other.
-- Assumes nothing.
use Prim.Native.Nat.{ℕ, suc, ◌+◌, ◌-◌, ◌*◌, ◌≤◌, ◌<◌}
use mathlib.Core.Path.{◌≡◌, refl, sym, ap, ap₂, ◌∙◌, subst}
use mathlib.Core.Logic.{inl}
use mathlib.Core.List.{List, ◌++◌, append_assoc}
use borrow.Rule.Slice.PartMut.{put_mid, Post-is}
use native.Mathlib.Nat.{suc-mul, mul-le-mul_right, add_assoc}
use native.Mathlib.Numerals.{add-one}
use native.Mathlib.Omega.{arith}
use lib.ListN.{length, take, drop, length-drop}
use lib.Seq.{paste, length-paste, length_paste_head, ext_get_or, get_or-take, get_or-drop, length-take-le, take_all, take-add}
use Rattle.ground.specs.Outcome.{Is}
use Rattle.ground.proofs.Copy.{paste_behind}
use Rattle.slots.specs.Slots.{part, joined}
use Rattle.slots.proofs.Units.{part_length, part_byte, part_joined, joined_length}
use Rattle.mixer.specs.Mixer.{mixed}
use Rattle.mixer.specs.Mixing.{codeword_bytes, mixing}
use Rattle.mixer.proofs.Mixes.{mix_accepts, mix_is, bounds}
use Rattle.mixer.proofs.Unmixes.{mixed_length}
use Rattle.pipe.specs.Frame.{mixed_frame}
use Rattle.pipe.specs.Inside.{Takes}

-- a stretch put back is a copy to its place
put_paste : (a z : ℕ) (r y : List ℕ) → length y ≡ z → put_mid a (a + z - a) r y ≡ paste r a y z
put_paste a z r y e =
    let h : a ≤ a + z = omega arith in
    ap₂ (λ (x t : List ℕ). take a r ++ (x ++ t)) (sym (take_all z y (omega arith))) (Post-is a (a + z) r h)
    ∙ sym (append_assoc (take a r) (take z y) (drop (a + z) r))

-- and behind a copy it makes it longer
paste_more : (d : List ℕ) (at : ℕ) (s y : List ℕ) (n z : ℕ) → at + n ≤ length d → n ≤ length s → length y ≡ z → y ≡ take z (drop n s)
    → paste (paste d at s n) (at + n) y z ≡ paste d at s (n + z)
paste_more d at s y n z room full e f =
    paste_behind d (take at d ++ take n s) y (at + n) z (length_paste_head d at s n (omega arith) full) e
    ∙ ap₂ (λ (x : List ℕ) (k : ℕ). x ++ drop k d) (append_assoc (take at d) (take n s) y ∙ ap (λ (x : List ℕ). take at d ++ x) (ap (λ (x : List ℕ). take n s ++ x) f ∙ sym (take-add n z s))) (add_assoc at n z)

-- a part is a stretch
part_is : (z : ℕ) (l : List ℕ) (j : ℕ) → j * z + z ≤ length l → part z l j ≡ take z (drop (j * z) l)
part_is z l j h =
    let n : length (take z (drop (j * z) l)) ≡ z = length-take-le z (drop (j * z) l) (rw length-drop (omega arith)) in
    ext_get_or 0 (part z l j) (take z (drop (j * z) l)) (part_length z l j ∙ sym n)
    (λ b p.
    let k : b < z = subst (λ (x : ℕ). b < x) (part_length z l j) p in
    part_byte z l j b k ∙ sym (get_or-take z (drop (j * z) l) b 0 k ∙ get_or-drop (j * z) l b 0))

-- ---- one codeword

-- a codeword of its length into as much room is mixed
pub mixes : (p : ℕ) (c out : List ℕ) → p < 28 → length c ≡ codeword_bytes p → length out ≡ length c → (r : ℕ) (m : List ℕ) → Is (mixing p c out) r m → m ≡ mixed p 12282 c
mixes p c out h e o r m i = i.memory ∙ mix_is p c out h e o

-- and its size is no more than 7,680 bytes
pub size_most : (p : ℕ) → p < 28 → codeword_bytes p ≤ 7680
size_most p h = omega (arith, (bounds p 12282 (inl (h, refl))).1)

module _ (p slots : ℕ) (codewords ring : List ℕ) (at : ℕ) (h : Takes p slots codewords ring at) where
  abbrev size : ℕ
  size = codeword_bytes p

  abbrev frame : List ℕ
  frame = mixed_frame p slots codewords

  pub frame_length : length (mixed_frame p slots codewords) ≡ slots * codeword_bytes p
  unfolding mixed_frame
  frame_length = joined_length (codeword_bytes p) (λ w. mixed p 12282 (part (codeword_bytes p) codewords w)) slots

  turn : (w : ℕ) → w < slots → w * codeword_bytes p + codeword_bytes p ≤ slots * codeword_bytes p
  turn w l =
      let m : suc w * size ≤ slots * size = mul-le-mul_right size l in
      let e : suc w * size ≡ w * size + size = suc-mul w size in
      omega arith

  upto : (w : ℕ) → w ≤ slots → w * codeword_bytes p ≤ slots * codeword_bytes p
  upto w l = mul-le-mul_right size l

  pub taken_length : (w : ℕ) → w ≤ slots → length (paste ring at (mixed_frame p slots codewords) (w * codeword_bytes p)) ≡ length ring
  taken_length w l = length-paste ring at frame (w * size) (omega (arith, upto w l, h.room)) (omega (arith, upto w l, frame_length))

  word_is : (w : ℕ) → w < slots → take (codeword_bytes p) (drop (w * codeword_bytes p) (mixed_frame p slots codewords)) ≡ mixed p 12282 (part (codeword_bytes p) codewords w)
  unfolding mixed_frame
  word_is w l =
      let u : (ℕ → List ℕ) = λ w. mixed p 12282 (part size codewords w) in
      sym (part_is size (joined size u slots) w (omega (arith, turn w l, joined_length size u slots))) ∙ part_joined size u slots w l (mixed_length p 12282 (part size codewords w))

  -- ---- as the code has it: stretches by their two ends

  pub codeword_length : (w : ℕ) → w < slots → length (take (w * codeword_bytes p + codeword_bytes p - w * codeword_bytes p) (drop (w * codeword_bytes p) codewords)) ≡ codeword_bytes p
  codeword_length w l =
      let k : w * size + size - w * size ≡ size = omega arith in
      length-take-le (w * size + size - w * size) (drop (w * size) codewords) (rw length-drop (omega (arith, turn w l, h.frame))) ∙ k

  pub room_length : (w : ℕ) (now : List ℕ) → w < slots → now ≡ paste ring at (mixed_frame p slots codewords) (w * codeword_bytes p)
      → length (take (at + w * codeword_bytes p + codeword_bytes p - (at + w * codeword_bytes p)) (drop (at + w * codeword_bytes p) now)) ≡ codeword_bytes p
  room_length w now l e =
      let n : length now ≡ length ring = ap length e ∙ taken_length w (omega arith) in
      let k : at + w * size + size - (at + w * size) ≡ size = omega arith in
      let d : length (drop (at + w * size) now) ≡ length now - (at + w * size) = length-drop (at + w * size) now in
      length-take-le (at + w * size + size - (at + w * size)) (drop (at + w * size) now) (omega (arith, turn w l, h.room)) ∙ k

  -- so that the mixer does not refuse
  accepted : (w : ℕ) (now : List ℕ) → w < slots → now ≡ paste ring at (mixed_frame p slots codewords) (w * codeword_bytes p)
      → (mixing p (take (w * codeword_bytes p + codeword_bytes p - w * codeword_bytes p) (drop (w * codeword_bytes p) codewords))
      (take (at + w * codeword_bytes p + codeword_bytes p - (at + w * codeword_bytes p)) (drop (at + w * codeword_bytes p) now))).answer ≡ 0
  accepted w now l e = mix_accepts p _ _ h.pattern (codeword_length w l) (room_length w now l e ∙ sym (codeword_length w l))

  pub taken_turn : (w : ℕ) (now y : List ℕ) (r : ℕ) → w < slots → now ≡ paste ring at (mixed_frame p slots codewords) (w * codeword_bytes p)
      → Is (mixing p (take (w * codeword_bytes p + codeword_bytes p - w * codeword_bytes p) (drop (w * codeword_bytes p) codewords))
      (take (at + w * codeword_bytes p + codeword_bytes p - (at + w * codeword_bytes p)) (drop (at + w * codeword_bytes p) now))) r y
      → put_mid (at + w * codeword_bytes p) (at + w * codeword_bytes p + codeword_bytes p - (at + w * codeword_bytes p)) now y ≡ paste ring at (mixed_frame p slots codewords) ((w + 1) * codeword_bytes p)
  taken_turn w now y r l e g =
      let c : List ℕ = take (w * size + size - w * size) (drop (w * size) codewords) in
      let k : w * size + size - w * size ≡ size = omega arith in
      let i : y ≡ mixed p 12282 c = mixes p c _ h.pattern (codeword_length w l) (room_length w now l e ∙ sym (codeword_length w l)) r y g in
      let j : c ≡ part size codewords w = ap (λ (n : ℕ). take n (drop (w * size) codewords)) k ∙ sym (part_is size codewords w (omega (arith, turn w l, h.frame))) in
      let n : length y ≡ size = ap length i ∙ mixed_length p 12282 c in
      let t : y ≡ take size (drop (w * size) frame) = i ∙ ap (mixed p 12282) j ∙ sym (word_is w l) in
      let s : (w + 1) * size ≡ w * size + size = ap (λ (x : ℕ). x * size) (add-one w) ∙ suc-mul w size in
      put_paste (at + w * size) size now y n
      ∙ ap (λ (x : List ℕ). paste x (at + w * size) y size) e
      ∙ paste_more ring at frame y (w * size) size (omega (arith, turn w l, h.room)) (omega (arith, turn w l, frame_length)) n t
      ∙ ap (λ (x : ℕ). paste ring at frame x) (sym s)

  -- and with the size as it was found
  module _ (z : ℕ) (e : z ≡ codeword_bytes p) where
    pub turn_accepted : (w : ℕ) (now : List ℕ) → w < slots → now ≡ paste ring at (mixed_frame p slots codewords) (w * z)
        → (mixing p (take (w * z + z - w * z) (drop (w * z) codewords)) (take (at + w * z + z - (at + w * z)) (drop (at + w * z) now))).answer ≡ 0
    turn_accepted =
        subst
        (λ (z : ℕ).
        (w : ℕ) (now : List ℕ) → w < slots → now ≡ paste ring at (mixed_frame p slots codewords) (w * z)
        → (mixing p (take (w * z + z - w * z) (drop (w * z) codewords)) (take (at + w * z + z - (at + w * z)) (drop (at + w * z) now))).answer ≡ 0)
        (sym e) accepted

    pub turn_taken : (w : ℕ) (now y : List ℕ) (r : ℕ) → w < slots → now ≡ paste ring at (mixed_frame p slots codewords) (w * z)
        → Is (mixing p (take (w * z + z - w * z) (drop (w * z) codewords)) (take (at + w * z + z - (at + w * z)) (drop (at + w * z) now))) r y
        → put_mid (at + w * z) (at + w * z + z - (at + w * z)) now y ≡ paste ring at (mixed_frame p slots codewords) ((w + 1) * z)
    turn_taken =
        subst
        (λ (z : ℕ).
        (w : ℕ) (now y : List ℕ) (r : ℕ) → w < slots → now ≡ paste ring at (mixed_frame p slots codewords) (w * z)
        → Is (mixing p (take (w * z + z - w * z) (drop (w * z) codewords)) (take (at + w * z + z - (at + w * z)) (drop (at + w * z) now))) r y
        → put_mid (at + w * z) (at + w * z + z - (at + w * z)) now y ≡ paste ring at (mixed_frame p slots codewords) ((w + 1) * z))
        (sym e) taken_turn
