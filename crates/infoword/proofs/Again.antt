-- Laws of a word that is taken apart: it ends as the word that is written from its fields, and with its payload packet, and its parity parts
-- where it has them, it is that word.
-- Assumes nothing.
use Prim.Native.Nat.{ℕ, zero, suc, ◌+◌, ◌-◌, ◌*◌, ◌/◌, ◌%◌, ◌^◌, ◌≤◌, ◌<◌}
use mathlib.Core.Bool.{true, false}
use mathlib.Core.Path.{◌≡◌, refl, sym, ap, ap₂, ◌∙◌}
use mathlib.Core.List.{List, ◌++◌, append_assoc, append-nil}
use native.Mathlib.Nat.{add-zero, zero-add}
use native.Mathlib.Omega.{arith}
use borrow.Author.Tests.{eqb-true}
use lib.ListN.{length, take, drop, replicate, take-append-drop, length-drop}
use lib.Seq.{drop_at, take-add, drop-drop, length-take-le}
use Rattle.ground.specs.Table.{tab}
use Rattle.ground.proofs.Table.{tab_cong, tab_shift}
use Rattle.bits.specs.Lists.{bits, num, unpack, pack, Below}
use Rattle.bits.specs.Places.{bit_at, number, field_at}
use Rattle.bits.proofs.Below.{below_append, below_take, below_drop, below_replicate}
use Rattle.bits.proofs.Lists.{unpack_take, bits_below, bits_num, unpack_length, unpack_below, unpack_drop, unpack_inj, pack_below}
use Rattle.bits.proofs.Places.{number_append, field_is}
use Rattle.bits.proofs.Joined.{number_num}
use Rattle.parity.specs.Part.{part_of, parts_of, held_of}
use Rattle.parity.proofs.Received.{holds_at}
use Rattle.parity.proofs.Which.{held_set}
use Rattle.infoword.specs.Suffix.{id_of, kind_of, version_of, crc_field_of, spare_of, has_parity, lead_bits, covered_of, header_crc, header, closed}
use Rattle.infoword.specs.Word.{front_bytes, filled, fields49, parity_parts, word_with, word_of}
use Rattle.infoword.proofs.Closing.{has_2, by_parity}
use Rattle.infoword.proofs.Ending.{lead_long, lead_short, lead_of, ended, apart, covered_fields, closed_fields}
use Rattle.infoword.proofs.Sealing.{header_below, closed_below, parts_front}
use Rattle.infoword.proofs.Written.{front_long, front_short, parity_long, parity_short, parity_below, word_unpacked}

-- a word of bytes stays one
pub word_below : (kind id : ℕ) (p : List ℕ) → Below 256 p → Below 256 (word_of kind id p)
unfolding word_with filled
word_below kind id p b =
    let s : List ℕ = parity_parts kind p ++ closed (header (bits (lead_bits kind) 0) id kind 0) in
    below_append 256 (p ++ replicate (front_bytes kind - length p) 0) (pack (1536 - front_bytes kind) s)
    (below_append 256 p (replicate (front_bytes kind - length p) 0) b (below_replicate 256 (front_bytes kind - length p) 0 (omega arith)))
    (pack_below (1536 - front_bytes kind) s
    (below_append 2 (parity_parts kind p) (closed (header (bits (lead_bits kind) 0) id kind 0)) (parity_below kind p)
    (closed_below (header (bits (lead_bits kind) 0) id kind 0) (header_below (bits (lead_bits kind) 0) id kind 0 (bits_below (lead_bits kind) 0)))))

-- what a word must keep to be written: its length, and what stands at its end
pub record Sound (w : List ℕ) : Type 0 where
  pub word_is : length w ≡ 1536
  pub bytes : Below 256 w
  pub spare_is : spare_of w ≡ 0
  pub crc_is : crc_field_of w ≡ header_crc (covered_of w)
  pub version_is : version_of w ≡ 0
  pub lead_is : lead_of w ≡ 0

-- the end of 32 bits that are zero
pub last_four : (w : List ℕ) → field_at w 12228 32 ≡ 0 → field_at w 12256 4 ≡ 0
last_four w f =
    let g : number (bit_at w) 12228 32 ≡ number (bit_at w) 12228 28 * 16 + number (bit_at w) 12256 4 = number_append (bit_at w) 12228 28 4 in
    field_is w 12256 4 (omega arith) ∙ omega (arith, f, g, field_is w 12228 32 (omega arith))

-- the end of what stands before STS_ID, which is 0 where all of it is
pub last_lead : (w : List ℕ) → lead_of w ≡ 0 → field_at w 12256 4 ≡ 0
unfolding lead_of
last_lead w z =
    by_parity (kind_of w)
    (λ e. last_four w (ap (λ (r : ℕ). field_at w (12260 - r) r) (sym (lead_long (kind_of w) e)) ∙ z))
    (λ e. ap (λ (r : ℕ). field_at w (12260 - r) r) (sym (lead_short (kind_of w) e)) ∙ z)

-- the last four bytes by stream id and stream type
abbrev last_bits : ℕ → ℕ → List ℕ
last_bits id kind = bits 4 0 ++ ended id kind 0 (header_crc (header (bits (lead_bits kind) 0) id kind 0)) 0

last_bits_lem : (w : List ℕ) → Sound w → unpack (drop 1532 w) ≡ last_bits (id_of w) (kind_of w)
last_bits_lem w s =
    let c : crc_field_of w ≡ header_crc (header (bits (lead_bits (kind_of w)) 0) (id_of w) (kind_of w) 0) =
    s.crc_is ∙ ap header_crc (covered_fields w s.word_is ∙ ap₂ (λ (x y : ℕ). header (bits (lead_bits (kind_of w)) x) (id_of w) (kind_of w) y) s.lead_is s.version_is) in
    let l : length (take 12256 (unpack w)) ≡ 12256 = length-take-le 12256 (unpack w) (omega (arith, unpack_length w, s.word_is)) in
    let tail : List ℕ = bits 4 (field_at w 12256 4) ++ ended (id_of w) (kind_of w) (version_of w) (crc_field_of w) (spare_of w) in
    sym (unpack_drop 1532 w (omega (arith, s.word_is)))
    ∙ ap (drop 12256) (apart w s.word_is 4 (omega arith))
    ∙ drop_at (take 12256 (unpack w)) tail 12256 l
    ∙ ap₂ (λ (x y : ℕ). bits 4 x ++ ended (id_of w) (kind_of w) y (crc_field_of w) (spare_of w)) (last_lead w s.lead_is) s.version_is
    ∙ ap₂ (λ (x y : ℕ). bits 4 0 ++ ended (id_of w) (kind_of w) 0 x y) c s.spare_is

-- two such words of one stream id and stream type end in the same four bytes
pub same_ending : (w v : List ℕ) → Sound w → Sound v → id_of w ≡ id_of v → kind_of w ≡ kind_of v → drop 1532 w ≡ drop 1532 v
same_ending w v s t i k =
    unpack_inj (drop 1532 w) (drop 1532 v) (below_drop 256 1532 w s.bytes) (below_drop 256 1532 v t.bytes)
    (last_bits_lem w s ∙ ap₂ last_bits i k ∙ sym (last_bits_lem v t))

-- runs of 49 bits, one behind the other
runs : (w : List ℕ) (at n : ℕ) → at + 49 * n ≤ 8 * length w → take (49 * n) (drop at (unpack w)) ≡ fields49 (tab (λ k. number (bit_at w) (at + 49 * k) 49) 0 n)
unfolding fields49 tab
runs w at zero h = refl
runs w at (suc n) h =
    let x : List ℕ = take 49 (drop at (unpack w)) in
    let e : 49 * suc n ≡ 49 + 49 * n = omega arith in
    let m : length x ≡ 49 = length-take-le 49 (drop at (unpack w)) (rw (length-drop, unpack_length) (omega arith)) in
    let b : Below 2 x = below_take 2 49 (drop at (unpack w)) (below_drop 2 at (unpack w) (unpack_below w)) in
    let first : x ≡ bits 49 (number (bit_at w) (at + 49 * 0) 49) =
    sym (ap (bits 49) (ap (λ (k : ℕ). number (bit_at w) k 49) (add-zero at) ∙ number_num w at 49 (omega arith)) ∙ ap (λ (j : ℕ). bits j (num x)) (sym m) ∙ bits_num x b) in
    let rest : tab (λ k. number (bit_at w) (at + 49 + 49 * k) 49) 0 n ≡ tab (λ k. number (bit_at w) (at + 49 * k) 49) 1 n =
    tab_cong (λ k. number (bit_at w) (at + 49 + 49 * k) 49) (λ k. number (bit_at w) (at + 49 * (1 + k)) 49) 0 n (λ k l. ap (λ (j : ℕ). number (bit_at w) j 49) (omega arith))
    ∙ tab_shift (λ k. number (bit_at w) (at + 49 * k) 49) 1 n in
    ap (λ (k : ℕ). take k (drop at (unpack w))) e ∙ take-add 49 (49 * n) (drop at (unpack w))
    ∙ ap₂ (λ (a c : List ℕ). a ++ c) first (ap (take (49 * n)) (drop-drop 49 at (unpack w)) ∙ runs w (at + 49) n (omega arith) ∙ ap fields49 rest)

-- where all four parts hold, Parity_Parts are those of the packets
parts_held : (w : List ℕ) → length w ≡ 1536 → held_of w ≡ 15 → take 196 (drop 12032 (unpack w)) ≡ fields49 (parts_of w)
unfolding parts_of
parts_held w n h =
    runs w 12032 4 (omega arith)
    ∙ ap fields49 (tab_cong (λ k. number (bit_at w) (12032 + 49 * k) 49) (λ k. part_of w (376 * k)) 0 4 (λ k l.
    ap (λ (j : ℕ). number (bit_at w) (12032 + 49 * j) 49) (zero-add k) ∙ one k l ∙ ap (λ (j : ℕ). part_of w (376 * j)) (sym (zero-add k))))
  where
    set : (k : ℕ) → k < 4 → held_of w / 2 ^ k % 2 ≡ 1
    set zero l = ap (λ (x : ℕ). x / 1 % 2) h
    set (suc zero) l = ap (λ (x : ℕ). x / 2 % 2) h
    set (suc (suc zero)) l = ap (λ (x : ℕ). x / 4 % 2) h
    set (suc (suc (suc zero))) l = ap (λ (x : ℕ). x / 8 % 2) h
    set (suc (suc (suc (suc k)))) l = absurd (omega arith)

    one : (k : ℕ) → k < 4 → number (bit_at w) (12032 + 49 * k) 49 ≡ part_of w (376 * k)
    one k l = eqb-true (number (bit_at w) (12032 + 49 * k) 49) (part_of w (376 * k)) (sym (holds_at w k) ∙ held_set w k l (set k l))

-- a word of stream type 1 or 2, the latter with all its parts holding, is the one that is written from it
module _ (w : List ℕ) (s : Sound w) where
  abbrev front : ℕ
  front = front_bytes (kind_of w)

  closing : unpack w ≡ take (12260 - lead_bits (kind_of w)) (unpack w) ++ closed (header (bits (lead_bits (kind_of w)) 0) (id_of w) (kind_of w) 0)
  closing =
      closed_fields w s.word_is s.spare_is s.crc_is
      ∙ ap₂ (λ (x y : ℕ). take (12260 - lead_bits (kind_of w)) (unpack w) ++ closed (header (bits (lead_bits (kind_of w)) x) (id_of w) (kind_of w) y)) s.lead_is s.version_is

  filled_is : (n : ℕ) → n ≤ 1536 → filled n (take n w) ≡ take n w
  unfolding filled
  filled_is n h =
      let e : n - length (take n w) ≡ 0 = omega (arith, length-take-le n w (omega (arith, s.word_is))) in
      ap (λ (k : ℕ). take n w ++ replicate k 0) e ∙ append-nil (take n w)

  whole : (n : ℕ) → n ≡ front → n ≤ 1532
      → take (12260 - lead_bits (kind_of w)) (unpack w) ≡ unpack (take n w) ++ parity_parts (kind_of w) (take n w) → w ≡ word_of (kind_of w) (id_of w) (take n w)
  whole n e h p =
      let l : length (take n w) ≤ front = omega (arith, length-take-le n w (omega (arith, s.word_is))) in
      let t : List ℕ = closed (header (bits (lead_bits (kind_of w)) 0) (id_of w) (kind_of w) 0) in
      unpack_inj w (word_of (kind_of w) (id_of w) (take n w)) s.bytes (word_below (kind_of w) (id_of w) (take n w) (below_take 256 n w s.bytes))
      (closing ∙ ap (λ (x : List ℕ). x ++ t) p ∙ append_assoc (unpack (take n w)) (parity_parts (kind_of w) (take n w)) t
      ∙ ap (λ (x : List ℕ). unpack x ++ (parity_parts (kind_of w) (take n w) ++ t)) (sym (filled_is n (omega arith)) ∙ ap (λ (k : ℕ). filled k (take n w)) e)
      ∙ sym (word_unpacked (kind_of w) (id_of w) 0 (take n w) l))

  pub word_again_1 : kind_of w ≡ 1 → w ≡ word_of (kind_of w) (id_of w) (take 1532 w)
  word_again_1 k =
      let n : has_parity (kind_of w) ≡ false = ap has_parity k in
      let r : lead_bits (kind_of w) ≡ 4 = lead_short (kind_of w) n in
      whole 1532 (sym (front_short (kind_of w) n)) (omega arith)
      (ap (λ (x : ℕ). take (12260 - x) (unpack w)) r ∙ unpack_take 1532 w (omega (arith, s.word_is))
      ∙ sym (ap (λ (x : List ℕ). unpack (take 1532 w) ++ x) (parity_short (kind_of w) (take 1532 w) n) ∙ append-nil (unpack (take 1532 w))))

  pub word_again_2 : kind_of w ≡ 2 → held_of w ≡ 15 → w ≡ word_of (kind_of w) (id_of w) (take 1504 w)
  word_again_2 k h =
      let e : has_parity (kind_of w) ≡ true = has_2 (kind_of w) k in
      let r : lead_bits (kind_of w) ≡ 32 = lead_long (kind_of w) e in
      let l : length (take 1504 w) ≡ 1504 = length-take-le 1504 w (omega (arith, s.word_is)) in
      let p : fields49 (parts_of w) ≡ parity_parts (kind_of w) (take 1504 w) =
      ap (λ (x : List ℕ). fields49 (parts_of x)) (sym (take-append-drop 1504 w)) ∙ ap fields49 (parts_front (take 1504 w) (drop 1504 w) l) ∙ sym (parity_long (kind_of w) (take 1504 w) e) in
      whole 1504 (sym (front_long (kind_of w) e)) (omega arith)
      (ap (λ (x : ℕ). take (12260 - x) (unpack w)) r ∙ take-add 12032 196 (unpack w)
      ∙ ap₂ (λ (x y : List ℕ). x ++ y) (unpack_take 1504 w (omega (arith, s.word_is))) (parts_held w s.word_is h ∙ p))
