-- The steps of laying out a word through the sink: a field more, zeros to the end, and the CRC.
-- Assumes nothing.
use Prim.Native.Nat.{ℕ, zero, suc, ◌+◌, ◌-◌, ◌*◌, ◌/◌, ◌%◌, ◌^◌, ◌≤◌, ◌<◌}
use mathlib.Core.Path.{◌≡◌, refl, sym, ap, ◌∙◌}
use mathlib.Core.List.{List, ◌++◌}
use native.Mathlib.Nat.{mod-eq_of_lt, zero-add}
use native.Mathlib.Decide.{dec_lt}
use native.Mathlib.Omega.{arith}
use lib.ListN.{length, get_or, take, drop, replicate, length-append, length-drop, length-replicate, get_or-replicate, get_or-append}
use lib.Seq.{take_at, get_or-append-add, get_or-take, length-take-le}
use Rattle.ground.specs.Table.{tab}
use Rattle.ground.proofs.Table.{tab_ext}
use Rattle.bits.specs.Lists.{bits, num, unpack, pack, Below}
use Rattle.bits.specs.Places.{bit_at, number, packed, field_at}
use Rattle.bits.proofs.Below.{below_append, below_replicate, below_get}
use Rattle.bits.proofs.Lists.{bits_length, bits_below, num_bits, pack_length, unpack_pack}
use Rattle.bits.proofs.Places.{number_cong, number_move, number_append, number_lt, field_is}
use Rattle.bits.proofs.Joined.{bit_unpack, run_unpack, run_byte, num_tab, number_list, packed_pack}
use borrow.Rule.Slice.PartMut.{put_mid}
use lib.Pow.{pow_pos}
use Rattle.ground.specs.Outcome.{Is}
use Rattle.wide.specs.Wide.{wider}
use Rattle.wide.proofs.Widens.{wide_put}
use Rattle.wide.specs.Held.{place_of, Held, Put}
use Rattle.wide.specs.declared.Wide.{Wide}
use Rattle.crc.specs.Crc.{crc_of, crc12_of}
use Rattle.crc.proofs.Laws.{crc_lt}
use Rattle.description.specs.Layout.{sealed}
use Rattle.to_word.specs.Laid.{Waits, Placed, Seals}

-- the bits of a list, zero past its end
abbrev pub bits_of : List ℕ → ℕ → ℕ
bits_of x j = get_or x j 0

bits_lt : (x : List ℕ) → Below 2 x → (j : ℕ) → bits_of x j < 2
bits_lt x b j = below_get 2 x j (omega arith) b

-- ---- a sink at a place
byte_number : (w : List ℕ) (k : ℕ) → Below 256 w → get_or w k 0 ≡ number (bit_at w) (8 * k) 8
byte_number w k b = sym (num_bits 8 (get_or w k 0) (below_get 256 w k (omega arith) b)) ∙ ap num (sym (run_byte w k)) ∙ num_tab (bit_at w) (8 * k) 8

pub waits : (w : List ℕ) (place : ℕ) {acc : ℕ} → Below 256 w → acc ≡ field_at w (place - place % 32) (place % 32)
    → Waits w place (record { acc = acc; used = place % 32; at = place / 32 * 4 })
waits w place {acc} b e =
    let at : ℕ = 8 * (place / 32 * 4) in
    let used : ℕ = place % 32 in
    let i : place - used ≡ at = omega arith in
    record {
      room = omega arith;
      stands = omega arith;
      step = omega arith;
      holds = λ f bit same.
          let v : acc ≡ number f at used =
          e ∙ ap (λ (j : ℕ). field_at w j used) i ∙ field_is w at used (omega arith) ∙ number_cong (bit_at w) f at used (λ k l. same (at + k) (omega arith)) in
          record {
            bytes = λ k l. byte_number w k b ∙ number_cong (bit_at w) f (8 * k) 8 (λ j m. same (8 * k + j) (omega arith));
            part = ap (λ (y : ℕ). y % 2 ^ used) v ∙ mod-eq_of_lt (number_lt f bit at used);
          };
    }

-- ---- sections

-- d sections of the bytes w, so far apart, went into a sink: whatever f it held before, it holds it 12 d places further, where the sections are those bits of f
pub record Puts (w : List ℕ) (at apart d : ℕ) (out : List ℕ) (s : Wide) (out' : List ℕ) (r : Wide) : Type 0 where
  pub room : r.used < 32
  pub moved : place_of r ≡ place_of s + 12 * d
  pub step : r.at % 4 ≡ s.at % 4
  pub len : length out' ≡ length out
  pub keeps : (f : ℕ → ℕ) → ((j : ℕ) → f j < 2) → Held f out s
      → ((k : ℕ) → k < d → field_at w (at + apart * k) 12 ≡ number f (place_of s + 12 * k) 12) → Held f out' r

module _ (w : List ℕ) (at apart : ℕ) (out : List ℕ) (s : Wide) where
  pub puts_none : s.used < 32 → Puts w at apart 0 out s out s
  puts_none h = record { room = h; moved = omega arith; step = refl; len = refl; keeps = λ f bit k e. k }

  pub puts_more : {k v : ℕ} {o o' : List ℕ} {r r' : Wide} → Puts w at apart k out s o r → v ≡ field_at w (at + apart * k) 12 → Put v 12 o r o' r'
      → Puts w at apart (k + 1) out s o' r'
  puts_more {k} p e q = record {
    room = q.room;
    moved = omega (arith, q.moved, p.moved);
    step = q.step ∙ p.step;
    len = q.len ∙ p.len;
    keeps = λ f bit h there.
        q.keeps f bit (p.keeps f bit h (λ j l. there j (omega arith))) (e ∙ there k (omega arith) ∙ ap (λ (z : ℕ). number f z 12) (sym p.moved));
  }

-- ---- zeros
number_zero : (f : ℕ → ℕ) (i n : ℕ) → ((k : ℕ) → k < n → f (i + k) ≡ 0) → 0 ≡ number f i n
unfolding number
number_zero f i zero h = refl
number_zero f i (suc n) h = omega (arith, number_zero f i n (λ k l. h k (omega arith)), h n (omega arith))

zeros : (f : ℕ → ℕ) (i n : ℕ) → ((k : ℕ) → i ≤ k → f k ≡ 0) → 0 ≡ number f i n
zeros f i n h = number_zero f i n (λ k l. h (i + k) (omega arith))

-- a sink that holds whole groups of four bytes, behind the place where zeros begin
pub record Flushed (out : List ℕ) (s : Wide) (o : List ℕ) (r : Wide) : Type 0 where
  pub empty : r.used ≡ 0
  pub within : r.at ≤ 96
  pub behind : place_of s ≤ place_of r
  pub len : length o ≡ 96
  pub keeps : (x : List ℕ) → Below 2 x → Held (bits_of x) out s → ((j : ℕ) → place_of s ≤ j → get_or x j 0 ≡ 0) → Held (bits_of x) o r

pub flushed : {out o : List ℕ} {s r : Wide} → s.used < 32 → s.at % 4 ≡ 0 → place_of s ≤ 750 → length out ≡ 96 → Is (wider out s 0 (32 - s.used)) r o → Flushed out s o r
flushed {out} {o} {s} {r} u m p n e =
    let q : Put 0 (32 - s.used) out s o r = wide_put 0 (32 - s.used) out s r o u (omega arith) (pow_pos (32 - s.used)) (omega arith) e in
    record {
      empty = omega (arith, q.moved, q.step, q.room);
      within = omega (arith, q.moved, q.step, q.room);
      behind = omega (arith, q.moved);
      len = q.len ∙ n;
      keeps = λ x b h z. q.keeps (bits_of x) (bits_lt x b) h (zeros (bits_of x) (place_of s) (32 - s.used) z);
    }

-- all bytes are there
whole : (x o : List ℕ) → length x ≡ 768 → length o ≡ 96 → ((k : ℕ) → k < 96 → get_or o k 0 ≡ number (bits_of x) (8 * k) 8) → o ≡ pack 96 x
unfolding packed
whole x o n m h = tab_ext (λ k. number (bits_of x) (8 * k) 8) 0 96 o m h ∙ packed_pack 96 x (omega arith)

-- zeros behind the bits that are in the sink, to the end of a word: the word is that of 768 bits x that it held the front of, where the rest of them is zero
abbrev Padded : List ℕ → Wide → List ℕ → Type 0
Padded out s out' =
    (x : List ℕ) → Below 2 x → length x ≡ 768 → Held (bits_of x) out s → ((j : ℕ) → place_of s ≤ j → get_or x j 0 ≡ 0) → out' ≡ pack 96 x

-- zeros behind what was flushed
flushed_all : {out o : List ℕ} {s r : Wide} (m : List ℕ) → Flushed out s o r → length m ≡ 96 - r.at → ((k : ℕ) → k < length m → get_or m k 0 ≡ 0) → Padded out s (put_mid r.at (96 - r.at) o m)
flushed_all {out} {o} {s} {r} m f l z = λ x b n h w.
    let held : Held (bits_of x) o r = f.keeps x b h w in
    let front : List ℕ = take r.at o in
    let rest : List ℕ = drop (96 - r.at) (drop r.at o) in
    let e : length front ≡ r.at = length-take-le r.at o (omega (arith, f.within, f.len)) in
    let long : length (front ++ (m ++ rest)) ≡ 96 = simp (length-append, length-drop) (omega (arith, e, l, f.within, f.len)) in
    whole x (front ++ (m ++ rest)) n long
    (λ k p.
    elim (dec_lt k r.at) [
      | yes q ↦ get_or-append front (m ++ rest) 0 k (omega (arith, e)) ∙ get_or-take r.at o k 0 q ∙ held.bytes k q
      | no q ↦ (
          let i : length front + (k - r.at) ≡ k = omega (arith, e) in
          ap (λ (u : ℕ). get_or (front ++ (m ++ rest)) u 0) (sym i) ∙ get_or-append-add front (m ++ rest) (k - r.at) 0
          ∙ get_or-append m rest 0 (k - r.at) (omega (arith, l)) ∙ z (k - r.at) (omega (arith, l))
          ∙ zeros (bits_of x) (8 * k) 8 (λ u g. w u (omega (arith, f.behind, f.empty))))
    ])

-- sections and zeros
module _ {sh : List ℕ} {at apart d place : ℕ} {out o o' : List ℕ} {s r e : Wide} (w : Waits out place s) (q : Puts sh at apart d out s o r) (long : length out ≡ 96)
    (fits : place + 12 * d ≤ 750) (z : Is (wider o r 0 (32 - r.used)) e o') where
  pub ended : Flushed o r o' e
  ended = flushed q.room (omega (arith, q.step, w.step)) (omega (arith, q.moved, w.stands)) (q.len ∙ long) z

  pub placed : (m : List ℕ) → length m ≡ 96 - e.at → ((k : ℕ) → k < length m → get_or m k 0 ≡ 0) → Placed sh at apart d place out (put_mid e.at (96 - e.at) o' m)
  placed m l y = λ x b n same fields zero.
      let f : ℕ → ℕ = bits_of x in
      let bit = bits_lt x b in
      let there : (k : ℕ) → k < d → field_at sh (at + apart * k) 12 ≡ number f (place_of s + 12 * k) 12 =
      λ k i. fields k i ∙ ap (λ (j : ℕ). number f (j + 12 * k) 12) (sym w.stands) in
      flushed_all m ended l y x b n (q.keeps f bit (w.holds f bit same) there) (λ j i. zero j (omega (arith, q.moved, w.stands)))

-- ---- the CRC
module _ (x : List ℕ) (b : Below 2 x) (n : length x ≡ 750) where
  abbrev plain : List ℕ
  plain = x ++ replicate 18 0

  abbrev crc : ℕ
  crc = crc_of 12 0x80F x

  plain_below : Below 2 plain
  plain_below = below_append 2 x (replicate 18 0) b (below_replicate 2 18 0 (omega arith))

  plain_length : length plain ≡ 768
  plain_length = length-append x (replicate 18 0) ∙ omega (arith, length-replicate {A = ℕ} 18 0)

  sealed_below : Below 2 (sealed x)
  unfolding sealed
  sealed_below = below_append 2 x (bits 12 crc ++ replicate 6 0) b (below_append 2 (bits 12 crc) (replicate 6 0) (bits_below 12 crc) (below_replicate 2 6 0 (omega arith)))

  sealed_length : length (sealed x) ≡ 768
  unfolding sealed
  sealed_length =
      length-append x (bits 12 crc ++ replicate 6 0)
      ∙ omega (arith, length-append (bits 12 crc) (replicate 6 0), bits_length 12 crc, length-replicate {A = ℕ} 6 0)

  -- before the CRC both have the same bits
  same_bits : (j : ℕ) → j < 750 → bits_of plain j ≡ bits_of (sealed x) j
  unfolding sealed
  same_bits j h = get_or-append x (replicate 18 0) 0 j (omega arith) ∙ sym (get_or-append x (bits 12 crc ++ replicate 6 0) 0 j (omega arith))

  module _ (w : List ℕ) (e : w ≡ pack 96 (x ++ replicate 18 0)) where
    unpacked : unpack w ≡ plain
    unpacked = ap unpack e ∙ unpack_pack 96 (x ++ replicate 18 0) plain_below plain_length

    crc_is : crc12_of w 0 750 ≡ crc
    unfolding crc12_of
    crc_is =
        let l : length w ≡ 96 = ap length e ∙ pack_length 96 _ in
        ap (crc_of 12 0x80F) (run_unpack w 0 750 (omega (arith, l)) ∙ ap (take 750) unpacked ∙ take_at x (replicate 18 0) 750 n)

    value_is : crc * 64 ≡ number (bits_of (sealed x)) 750 18
    unfolding sealed
    value_is =
        let g : ℕ → ℕ = bits_of (sealed x) in
        let c : ℕ = crc_of 12 0x80F x in
        let y : List ℕ = bits 12 c ++ replicate 6 0 in
        let there : (j : ℕ) → g (750 + j) ≡ get_or y j 0 = λ j. ap (λ (k : ℕ). get_or (x ++ y) (k + j) 0) (sym n) ∙ get_or-append-add x y j 0 in
        let a : number g 750 12 ≡ c =
        number_move g (bits_of y) 750 0 12 (λ k l. there k ∙ ap (λ (i : ℕ). get_or y i 0) (sym (zero-add k))) ∙ number_list y 0 12 (omega (arith, length-append (bits 12 c) (replicate 6 0), bits_length 12 c, length-replicate {A = ℕ} 6 0))
        ∙ ap num (take_at (bits 12 c) (replicate 6 0) 12 (bits_length 12 c)) ∙ num_bits 12 c (crc_lt 12 0x80F x) in
        let shift : (k : ℕ) → g (762 + k) ≡ g (750 + (12 + k)) = λ k. let i : 762 + k ≡ 750 + (12 + k) = omega arith in ap g i in
        let z : 0 ≡ number g 762 6 = number_zero g 762 6 (λ k l. shift k ∙ there (12 + k) ∙ ap (λ (i : ℕ). get_or y (i + k) 0) (sym (bits_length 12 c)) ∙ get_or-append-add (bits 12 c) (replicate 6 0) k 0 ∙ get_or-replicate 6 k 0 0 l) in
        sym (number_append g 750 12 6 ∙ omega (arith, a, z))

    bit_is : (j : ℕ) → j < 750 → bit_at w j ≡ bits_of (sealed x) j
    bit_is j h = bit_unpack w j ∙ ap (λ (y : List ℕ). get_or y j 0) unpacked ∙ same_bits j h

pub seals : {w w' : List ℕ} {c : ℕ} {s r : Wide} → length w ≡ 96 → c ≡ crc12_of w 0 750 → Waits w 750 s → Put (c * 64) 18 w s w' r → Seals w w'
seals {w} {w'} {c} {s} m f t q = λ x b n e.
    let g : ℕ → ℕ = bits_of (sealed x) in
    let bit = bits_lt (sealed x) (sealed_below x b n) in
    let v : c * 64 ≡ number g (place_of s) 18 = ap (λ (y : ℕ). y * 64) (f ∙ crc_is x b n w e) ∙ value_is x b n w e ∙ ap (λ (y : ℕ). number g y 18) (sym t.stands) in
    whole (sealed x) w' (sealed_length x b n) (q.len ∙ m)
    (λ k p. (q.keeps g bit (t.holds g bit (bit_is x b n w e)) v).bytes k (omega (arith, q.moved, q.step, q.room, t.step, t.stands)))

pub crc_small : (w : List ℕ) → crc12_of w 0 750 < 4096
unfolding crc12_of
crc_small w = crc_lt 12 0x80F (tab (bit_at w) 0 750)
