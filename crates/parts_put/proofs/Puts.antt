-- Laws of Parity_Parts as they are put: what the sink holds after k numbers of 49 bits, and what they leave in a word.
-- Assumes nothing.
use Prim.Native.Nat.{ℕ, ◌+◌, ◌*◌, ◌%◌, ◌^◌, ◌≤◌, ◌<◌}
use mathlib.Core.Path.{◌≡◌, refl, sym, ap, ap₂, ◌∙◌}
use mathlib.Core.List.{List, ◌++◌, append_assoc}
use native.Mathlib.Omega.{arith}
use borrow.Author.Tests.{eq-eqb, ne_eqb}
use borrow.Rule.Slice.PartMut.{put_mid, Post-is}
use lib.ListN.{length, get_or, take, drop, length-append}
use lib.Seq.{take_all, drop_at}
use Rattle.ground.proofs.Choice.{choose_true, choose_false}
use Rattle.bits.specs.Lists.{bits, num, pack, Below}
use Rattle.bits.specs.Places.{number}
use Rattle.bits.proofs.Below.{below_append, below_get}
use Rattle.bits.proofs.Lists.{bits_length, bits_below, num_bits}
use Rattle.bits.proofs.Places.{packed_ext}
use Rattle.bits.proofs.Joined.{number_list, packed_pack}
use Rattle.wide.specs.Held.{place_of, Held, Put}
use Rattle.wide.specs.declared.Wide.{Wide}
use Rattle.parity.specs.Part.{parts_of}
use Rattle.infoword.specs.Word.{fields49}
use Rattle.infoword.specs.Steps.{parted}
use Rattle.infoword.proofs.Fields49.{fields49_length, fields49_below, fields49_at}

-- four of them and 28 zeros
pub laid : List ℕ → List ℕ
laid v = fields49 v ++ bits 28 0

-- by their places
pub bit : List ℕ → ℕ → ℕ
bit v i = get_or (laid v) i 0

-- what 28 bytes and the sink hold after k of them
pub record Done (v : List ℕ) (k : ℕ) (out : List ℕ) (s : Wide) : Type 0 where
  pub most : k ≤ 4
  pub room : s.used < 32
  pub place : place_of s ≡ 49 * k
  pub step : s.at % 4 ≡ 0
  pub len : length out ≡ 28
  pub held : Held (bit v) out s

module _ (v : List ℕ) (four : length v ≡ 4) (small : Below (2 ^ 49) v) where
  laid_length : length (laid v) ≡ 224
  unfolding laid
  laid_length = length-append (fields49 v) (bits 28 0) ∙ omega (arith, fields49_length v, bits_length 28 0, four)

  bit_lt : (i : ℕ) → bit v i < 2
  unfolding laid bit
  bit_lt i = below_get 2 (laid v) i (omega arith) (below_append 2 (fields49 v) (bits 28 0) (fields49_below v) (bits_below 28 0))

  part_number : (k : ℕ) → k < 4 → get_or v k 0 ≡ number (bit v) (49 * k) 49
  unfolding laid bit
  part_number k h =
      let room : 49 * k + 49 ≤ length (laid v) = omega (arith, laid_length, h) in
      sym (number_list (laid v) (49 * k) 49 room ∙ ap num (fields49_at v (bits 28 0) k (omega arith)) ∙ num_bits 49 (get_or v k 0) (below_get (2 ^ 49) v k (omega arith) small))

  zeros_number : 0 ≡ number (bit v) 196 28
  unfolding laid bit
  zeros_number =
      let room : 196 + 28 ≤ length (laid v) = omega (arith, laid_length) in
      let n : length (fields49 v) ≡ 196 = fields49_length v ∙ omega arith in
      sym (number_list (laid v) 196 28 room ∙ ap (λ (l : List ℕ). num (take 28 l)) (drop_at (fields49 v) (bits 28 0) 196 n)
      ∙ ap num (take_all 28 (bits 28 0) (omega (arith, bits_length 28 0))) ∙ num_bits 28 0 (omega arith))

  pub done_none : (out : List ℕ) → length out ≡ 28 → Done v 0 out (record { acc = 0; used = 0; at = 0 })
  unfolding number
  done_none out n = record { most = omega arith; room = omega arith; place = refl; step = refl; len = n; held = record { bytes = λ k h. absurd (omega arith); part = refl } }

  pub done_more : (k : ℕ) (out m : List ℕ) (s r : Wide) → k < 4 → Done v k out s → Put (get_or v k 0) 49 out s m r → Done v (k + 1) m r
  done_more k out m s r h d p = record {
    most = omega arith;
    room = p.room;
    place = omega (arith, p.moved, d.place);
    step = p.step ∙ d.step;
    len = p.len ∙ d.len;
    held = p.keeps (bit v) bit_lt d.held (part_number k h ∙ ap (λ (x : ℕ). number (bit v) x 49) (sym d.place));
  }

  pub done_all : (k : ℕ) (out m : List ℕ) (s r : Wide) → 4 ≤ k → Done v k out s → Put 0 28 out s m r → m ≡ pack 28 (fields49 v ++ bits 28 0)
  unfolding laid bit
  done_all k out m s r h d p =
      let e : place_of s ≡ 196 = omega (arith, d.place, d.most, h) in
      let at : r.at ≡ 28 = whole r.at r.used (p.moved ∙ omega arith) p.room (p.step ∙ d.step) in
      let q = p.keeps (bit v) bit_lt d.held (zeros_number ∙ ap (λ (x : ℕ). number (bit v) x 28) (sym e)) in
      packed_ext (bit v) m 28 (p.len ∙ d.len) (λ k l. q.bytes k (omega arith))
      ∙ packed_pack 28 (laid v) (omega (arith, laid_length))
    where
      whole : (a u : ℕ) → 8 * a + u ≡ 224 → u < 32 → a % 4 ≡ 0 → a ≡ 28
      whole a u e h m = omega arith

-- the parts of a word put behind its first 1,504 bytes
pub parted_by : (w m : List ℕ) → length w ≡ 1536 → m ≡ pack 28 (fields49 (parts_of w) ++ bits 28 0) → put_mid 1504 28 w m ≡ parted w
unfolding parted
parted_by w m n e =
    let h : 1504 ≤ 1532 = omega arith in
    ap₂ (λ (x y : List ℕ). take 1504 w ++ (x ++ y)) e (Post-is 1504 1532 w h)
    ∙ sym (append_assoc (take 1504 w) (pack 28 (fields49 (parts_of w) ++ bits 28 0)) (drop 1532 w))
    ∙ sym (choose_true (take 1504 w ++ pack 28 (fields49 (parts_of w) ++ bits 28 0) ++ drop 1532 w) w (eq-eqb (length w) 1536 n))

-- any other buffer is left alone
pub parted_none : (w : List ℕ) → (length w ≡ 1536 → ⊥) → w ≡ parted w
unfolding parted
parted_none w n = sym (choose_false (take 1504 w ++ pack 28 (fields49 (parts_of w) ++ bits 28 0) ++ drop 1532 w) w (ne_eqb (length w) 1536 n))
