-- Laws of the block that is copied of a word, and of what is unpacked of it.
-- Assumes nothing.
use Prim.Native.Nat.{ℕ, ◌+◌, ◌-◌, ◌*◌, ◌/◌, ◌%◌, ◌^◌, ◌≤◌, ◌<◌, min}
use mathlib.Core.Path.{◌≡◌, sym, ap, ap₂, ◌∙◌}
use mathlib.Core.List.{List, ◌++◌}
use native.Mathlib.Nat.{mod-lt, div-lt_iff_lt-mul, mul-le-mul_right}
use native.Mathlib.Decide.{dec_lt}
use native.Mathlib.Omega.{arith}
use lib.ListN.{length, get_or, take, drop, replicate, length-append, length-drop, length-replicate, get_or-append, get_or-replicate, get_or-eq_default}
use borrow.Author.Tests.{eq-eqb, ne_eqb}
use Rattle.std.proofs.lemmas.List.{get_or-append_right, get_or-take, get_or-drop, length-take-le}
use Rattle.ground.proofs.Choice.{choose_true, choose_false}
use Rattle.ground.proofs.Table.{tab_cong}
use Rattle.bits.specs.Places.{bit_at}
use Rattle.pairs.specs.Pairs.{couple, fellow, pairs_of, unpacked}
use Rattle.pairs.specs.Inside.{Copied}

-- the word's front, and zeros behind it
pub copied : (w p : List ℕ) (n : ℕ) → n ≡ min (length w) 1536 → p ≡ take n w → Copied w (p ++ drop n (replicate 1536 0))
copied w p n e q =
    let z : List ℕ = replicate 1536 0 in
    let l : length p ≡ n = ap length q ∙ length-take-le n w (omega arith) in
    record {
      len = length-append p (drop n z) ∙ omega (arith, l, length-drop n z, length-replicate {A = ℕ} 1536 0);
      bytes = λ k h. elim (dec_lt k n) [
        | yes m ↦ get_or-append p (drop n z) 0 k (omega (arith, l)) ∙ ap (λ (x : List ℕ). get_or x k 0) q ∙ get_or-take n w k 0 m
        | no m ↦ get_or-append_right p (drop n z) n k 0 l (omega arith) ∙ get_or-drop n z (k - n) 0 ∙ get_or-replicate 1536 (n + (k - n)) 0 0 (omega arith)
            ∙ sym (get_or-eq_default w 0 {n = k} (omega arith))
      ];
    }

-- ---- the block's bits are the word's
bit_copied : (w l : List ℕ) → Copied w l → (a : ℕ) → a < 12288 → bit_at l a ≡ bit_at w a
unfolding bit_at
bit_copied w l c a h = ap (λ (x : ℕ). x / 2 ^ (7 - a % 8) % 2) (c.bytes (a / 8) (omega arith))

-- a place half a segment on stands in the segments too
fellow_lt : (size a : ℕ) → 0 < size → a < 24 * size → fellow size a < 24 * size
fellow_lt size a some h =
    let s : a / size < 24 = (div-lt_iff_lt-mul some).1 h in
    let q : (a % size + size / 2) % size < size = mod-lt (a % size + size / 2) some in
    let r : (a / size + 1) * size ≤ 24 * size = mul-le-mul_right size (omega arith) in
    omega arith

pub pairs_copied : (w l : List ℕ) (size : ℕ) → Copied w l → 0 < size → size ≤ 512 → pairs_of l size ≡ pairs_of w size
unfolding pairs_of
pairs_copied w l size c some most =
    tab_cong (λ a. couple l a (fellow size a)) (λ a. couple w a (fellow size a)) 0 (24 * size)
    (λ k h.
    let f : fellow size (0 + k) < 24 * size = fellow_lt size (0 + k) some (omega arith) in
    ap₂ (λ (x y : ℕ). x + 64 * y) (bit_copied w l c (0 + k) (omega arith)) (bit_copied w l c (fellow size (0 + k)) (omega (arith, f))))

-- ---- by the length of the lent bytes
pub unpacked_long : (w d : List ℕ) → length d ≡ 12288 → unpacked w d ≡ pairs_of w 512
unfolding unpacked
unpacked_long w d e = choose_true (pairs_of w 512) _ (eq-eqb (length d) 12288 e)

pub unpacked_short : (w d : List ℕ) → length d ≡ 768 → unpacked w d ≡ pairs_of w 32
unfolding unpacked
unpacked_short w d e = choose_false (pairs_of w 512) _ (ne_eqb (length d) 12288 (λ z. absurd (omega arith))) ∙ choose_true (pairs_of w 32) d (eq-eqb (length d) 768 e)

pub unpacked_none : (w d : List ℕ) → (length d ≡ 12288 → ⊥) → (length d ≡ 768 → ⊥) → unpacked w d ≡ d
unfolding unpacked
unpacked_none w d h k = choose_false (pairs_of w 512) _ (ne_eqb (length d) 12288 h) ∙ choose_false (pairs_of w 32) d (ne_eqb (length d) 768 k)
