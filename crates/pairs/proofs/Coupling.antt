-- Laws of the bits in pairs: a segment's bytes with their fellows, and all segments.
-- Assumes nothing.
use Prim.Native.Nat.{ℕ, ◌+◌, ◌-◌, ◌*◌, ◌/◌, ◌%◌, ◌^◌, ◌≤◌, ◌<◌}
use mathlib.Core.Path.{◌≡◌, sym, ap, ap₂, ◌∙◌, subst}
use mathlib.Core.List.{List}
use native.Mathlib.Nat.{zero-add, mod-lt, mod-eq_of_lt, div-eq_of_lt, add-mul-div_right, add-mul-mod_self_right, add-mod_right, div-add-mod', div-lt_iff_lt-mul, mul-le-mul_right}
use native.Mathlib.Decide.{dec_lt}
use native.Mathlib.Omega.{arith}
use lib.ListN.{length, get_or, get_or-eq_default}
use Rattle.ground.proofs.Table.{length_tab, get_or_tab, tab_ext}
use Rattle.bits.specs.Places.{bit_at}
use Rattle.bits.proofs.Places.{bit_lt}
use Rattle.pairs.specs.Pairs.{couple, fellow, pairs_of, Paired}
use Rattle.pairs.specs.Inside.{spread, Stored, Coupled}
use Rattle.pairs.proofs.Spreading.{spread_digit, bit_of_byte}

-- eight bytes of two spread bytes are the pairs of their bits
pairs_stored : (w : List ℕ) (i j x : ℕ) (l l' : List ℕ) → x ≡ spread (get_or w i 0) + 64 * spread (get_or w j 0)
    → Stored l (8 * i) (λ k. x / 256 ^ k % 256) l' 8 → (k : ℕ) → k < 8 → get_or l' (8 * i + k) 0 ≡ couple w (8 * i + k) (8 * j + k)
pairs_stored w i j x l l' e s k h =
    s.here k h ∙ ap (λ (z : ℕ). z / 256 ^ k % 256) e ∙ spread_digit (get_or w i 0) (get_or w j 0) k h
    ∙ ap₂ (λ (a b : ℕ). a + 64 * b) (sym (bit_of_byte w i k h)) (sym (bit_of_byte w j k h))

module _ (w : List ℕ) (from half : ℕ) (d₀ d d' d'' : List ℕ) (y x x' : ℕ) (h : Coupled w from half d₀ d y) (ly : y < half)
    (e : x ≡ spread (get_or w (from + y) 0) + 64 * spread (get_or w (from + half + y) 0)) (s : Stored d (8 * (from + y)) (λ k. x / 256 ^ k % 256) d' 8)
    (e' : x' ≡ spread (get_or w (from + half + y) 0) + 64 * spread (get_or w (from + y) 0)) (s' : Stored d' (8 * (from + half + y)) (λ k. x' / 256 ^ k % 256) d'' 8) where
  pub coupled_more : Coupled w from half d₀ d'' (y + 1)
  coupled_more = record {
    len = s'.len ∙ s.len ∙ h.len;
    first = λ k l. elim (dec_lt k (8 * y)) [
      | yes m ↦ s'.before (8 * from + k) (omega arith) ∙ s.before (8 * from + k) (omega arith) ∙ h.first k m
      | no m ↦ (
          let a : 8 * (from + y) + (k - 8 * y) ≡ 8 * from + k = omega arith in
          let b : 8 * (from + half + y) + (k - 8 * y) ≡ 8 * (from + half) + k = omega arith in
          s'.before (8 * from + k) (omega arith) ∙ ap (λ (z : ℕ). get_or d' z 0) (sym a)
          ∙ pairs_stored w (from + y) (from + half + y) x d d' e s (k - 8 * y) (omega arith) ∙ ap₂ (couple w) a b)
    ];
    second = λ k l. elim (dec_lt k (8 * y)) [
      | yes m ↦ s'.before (8 * (from + half) + k) (omega arith) ∙ s.behind (8 * (from + half) + k) (omega arith) ∙ h.second k m
      | no m ↦ (
          let a : 8 * (from + y) + (k - 8 * y) ≡ 8 * from + k = omega arith in
          let b : 8 * (from + half + y) + (k - 8 * y) ≡ 8 * (from + half) + k = omega arith in
          ap (λ (z : ℕ). get_or d'' z 0) (sym b)
          ∙ pairs_stored w (from + half + y) (from + y) x' d' d'' e' s' (k - 8 * y) (omega arith) ∙ ap₂ (couple w) b a)
    ];
    before = λ k l. s'.before k (omega arith) ∙ s.before k (omega arith) ∙ h.before k l;
  }

-- ---- s segments
pub record Segments (w : List ℕ) (half : ℕ) (d₀ d : List ℕ) (s : ℕ) : Type 0 where
  pub len : length d ≡ length d₀
  pub first : (r k : ℕ) → r < s → k < 8 * half → get_or d (r * (16 * half) + k) 0 ≡ couple w (r * (16 * half) + k) (r * (16 * half) + 8 * half + k)
  pub second : (r k : ℕ) → r < s → k < 8 * half → get_or d (r * (16 * half) + 8 * half + k) 0 ≡ couple w (r * (16 * half) + 8 * half + k) (r * (16 * half) + k)

pub segments_more : (w : List ℕ) (half : ℕ) (d₀ d d' : List ℕ) (s : ℕ) → Segments w half d₀ d s → Coupled w (s * (half * 2)) half d d' half → Segments w half d₀ d' (s + 1)
segments_more w half d₀ d d' s h c =
    let size : ℕ = 16 * half in
    let at : 8 * (s * (half * 2)) ≡ s * (16 * half) = omega arith in
    let at' : 8 * (s * (half * 2) + half) ≡ s * (16 * half) + 8 * half = omega arith in
    record {
      len = c.len ∙ h.len;
      first = λ r k l m. elim (dec_lt r s) [
        | yes q ↦ (
            let p : (r + 1) * (16 * half) ≤ s * (16 * half) = mul-le-mul_right (16 * half) (omega arith) in
            c.before (r * (16 * half) + k) (omega arith) ∙ h.first r k q m)
        | no q ↦ subst (λ (z : ℕ). get_or d' (z * (16 * half) + k) 0 ≡ couple w (z * (16 * half) + k) (z * (16 * half) + 8 * half + k)) {x = s} {y = r} (omega arith)
            (ap (λ (z : ℕ). get_or d' (z + k) 0) (sym at) ∙ c.first k m ∙ ap₂ (λ (y z : ℕ). couple w (y + k) (z + k)) at at')
      ];
      second = λ r k l m. elim (dec_lt r s) [
        | yes q ↦ (
            let p : (r + 1) * (16 * half) ≤ s * (16 * half) = mul-le-mul_right (16 * half) (omega arith) in
            c.before (r * (16 * half) + 8 * half + k) (omega arith) ∙ h.second r k q m)
        | no q ↦ subst (λ (z : ℕ). get_or d' (z * (16 * half) + 8 * half + k) 0 ≡ couple w (z * (16 * half) + 8 * half + k) (z * (16 * half) + k)) {x = s} {y = r} (omega arith)
            (ap (λ (z : ℕ). get_or d' (z + k) 0) (sym at') ∙ c.second k m ∙ ap₂ (λ (y z : ℕ). couple w (y + k) (z + k)) at' at)
      ];
    }

module _ (w : List ℕ) (half : ℕ) (d₀ d : List ℕ) (h : Segments w half d₀ d 24) (n : length d ≡ 24 * (16 * half)) (some : 0 < half) where
  abbrev size : ℕ
  size = 16 * half

  -- a pair by its segment and its place there
  cell : (r x : ℕ) → r < 24 → x < size → get_or d (r * size + x) 0 ≡ couple w (r * size + x) (r * size + (x + size / 2) % size)
  cell r x l m =
      let e : 16 * half / 2 ≡ 8 * half = omega arith in
      elim (dec_lt x (8 * half)) [
        | yes q ↦ (
            let f : (x + 16 * half / 2) % (16 * half) ≡ 8 * half + x = mod-eq_of_lt (omega arith) ∙ omega arith in
            h.first r x l q ∙ ap (couple w (r * (16 * half) + x)) (omega (arith, f)))
        | no q ↦ (
            let k : ℕ = x - 8 * half in
            let g : x + 16 * half / 2 ≡ k + 16 * half = omega arith in
            let f : (x + 16 * half / 2) % (16 * half) ≡ k = ap (λ (z : ℕ). z % (16 * half)) g ∙ add-mod_right k (16 * half) ∙ mod-eq_of_lt (omega arith) in
            let a : r * (16 * half) + 8 * half + k ≡ r * (16 * half) + x = omega arith in
            ap (λ (z : ℕ). get_or d z 0) (sym a) ∙ h.second r k l (omega arith) ∙ ap₂ (couple w) a (ap (λ (z : ℕ). r * (16 * half) + z) (sym f)))
      ]

  pub segments_all : d ≡ pairs_of w (16 * half)
  unfolding pairs_of
  segments_all =
      tab_ext (λ a. couple w a (fellow size a)) 0 (24 * size) d n
      (λ a l.
      let m : 0 < 16 * half = omega arith in
      let e : a / (16 * half) * (16 * half) + a % (16 * half) ≡ a = div-add-mod' a (16 * half) in
      subst (λ (z : ℕ). get_or d z 0 ≡ couple w z (fellow size a)) e (cell (a / (16 * half)) (a % (16 * half)) ((div-lt_iff_lt-mul m).1 l) (mod-lt a m)))

-- ---- the pairs of a word
module _ (w : List ℕ) (size : ℕ) (some : 0 < size) where
  pair_at_lem : (a : ℕ) → a < 24 * size → get_or (pairs_of w size) a 0 ≡ couple w a (fellow size a)
  unfolding pairs_of
  pair_at_lem a l = get_or_tab (λ z. couple w z (fellow size z)) 0 0 (24 * size) a l ∙ ap (λ (z : ℕ). couple w z (fellow size z)) (zero-add a)

  halves : (v w₁ w₂ : ℕ) → v ≡ w₁ + 64 * w₂ → w₁ < 2 → (v % 64 ≡ w₁) × (v / 64 ≡ w₂)
  halves v w₁ w₂ e l = (omega arith, omega arith)

  parts : (a : ℕ) → a < 24 * size → (get_or (pairs_of w size) a 0 % 64 ≡ bit_at w a) × (get_or (pairs_of w size) a 0 / 64 ≡ bit_at w (fellow size a))
  parts a l = halves (get_or (pairs_of w size) a 0) (bit_at w a) (bit_at w (fellow size a)) (pair_at_lem a l) (bit_lt w a)

  -- the first bits are the word's
  pub paired_bit : (a : ℕ) → a < 24 * size → get_or (pairs_of w size) a 0 % 64 ≡ bit_at w a
  paired_bit a l = (parts a l).0

  len : length (pairs_of w size) ≡ 24 * size
  unfolding pairs_of
  len = length_tab (λ a. couple w a (fellow size a)) 0 (24 * size)

  fellow_in : (s x : ℕ) → x < size → fellow size (s * size + x) ≡ s * size + (x + size / 2) % size
  fellow_in s x h =
      let c : s * size + x ≡ x + s * size = omega arith in
      let q : (s * size + x) / size ≡ s = ap (λ (z : ℕ). z / size) c ∙ add-mul-div_right x s some ∙ ap (λ (z : ℕ). z + s) (div-eq_of_lt h) ∙ zero-add s in
      let r : (s * size + x) % size ≡ x = ap (λ (z : ℕ). z % size) c ∙ add-mul-mod_self_right x s size ∙ mod-eq_of_lt h in
      ap₂ (λ (y z : ℕ). y * size + (z + size / 2) % size) q r

  pub paired : Paired size (pairs_of w size)
  paired = record {
    len = len;
    first = λ k. elim (dec_lt k (24 * size)) [
      | yes l ↦ subst (λ (z : ℕ). z < 2) (sym (parts k l).0) (bit_lt w k)
      | no l ↦ subst (λ (z : ℕ). z % 64 < 2) (sym (get_or-eq_default (pairs_of w size) 0 {n = k} (omega (arith, len)))) (omega arith)
    ];
    second = λ k. elim (dec_lt k (24 * size)) [
      | yes l ↦ subst (λ (z : ℕ). z < 2) (sym (parts k l).1) (bit_lt w (fellow size k))
      | no l ↦ subst (λ (z : ℕ). z / 64 < 2) (sym (get_or-eq_default (pairs_of w size) 0 {n = k} (omega (arith, len)))) (omega arith)
    ];
    fellow = λ s x l m.
        let p : ℕ = s * size + (x + size / 2) % size in
        let q : (x + size / 2) % size < size = mod-lt (x + size / 2) some in
        let r : (s + 1) * size ≤ 24 * size = mul-le-mul_right size (omega arith) in
        (parts (s * size + x) (omega arith)).1 ∙ ap (bit_at w) (fellow_in s x m) ∙ sym (parts p (omega arith)).0;
  }
