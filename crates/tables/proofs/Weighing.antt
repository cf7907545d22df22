-- Laws of what the places of a half of a pattern weigh.
-- Assumes nothing.
use Prim.Native.Nat.{ℕ, zero, suc, ◌+◌, ◌-◌, ◌*◌, ◌/◌, ◌%◌, ◌^◌, ◌≤◌, ◌<◌}
use mathlib.Core.Path.{◌≡◌, refl, sym, ap, ap₂, ◌∙◌, subst}
use mathlib.Core.List.{List}
use native.Mathlib.Nat.{zero-add, zero-mul, one-mul}
use native.Mathlib.Decide.{dec_lt, ℕ_discrete}
use native.Mathlib.Omega.{arith}
use lib.Pow.{pow_mono}
use lib.ListN.{length, get_or, set, length-set, get_or-eq_default}
use lib.Seq.{get_or-set_same, get_or-set_other}
use borrow.Author.Tests.{lt-ltb, le-ltb}
use Rattle.ground.proofs.Choice.{choose_true, choose_false}
use Rattle.ground.proofs.Table.{length_tab, get_or_tab, tab_ext}
use Rattle.patterns.specs.Sent.{total}
use Rattle.patterns.proofs.Totals.{total_more, total_mono, total_add}
use Rattle.constituent.specs.Segment.{digit_at, weight}
use Rattle.tables.specs.Plan.{half_at}
use Rattle.tables.specs.Tables.{weights_of, HalfOf, Light, weighed}
use Rattle.tables.specs.declared.weights.Half.{Half}

module _ (rows : List ℕ) (h : ℕ) where
  pub half_data : (k : ℕ) → k < 30 → half_at rows h k ≡ digit_at rows (30 * h + k) % 2
  unfolding half_at
  half_data k l = choose_true _ _ (lt-ltb k 30 l)

  pub half_then : (k : ℕ) → 30 ≤ k → half_at rows h k ≡ 1
  unfolding half_at
  half_then k l = choose_false _ _ (le-ltb k 30 l)

  pub half_once : (k : ℕ) → half_at rows h k ≤ 1
  half_once k =
      elim (dec_lt k 30) [
        | yes l ↦ omega (arith, half_data k l)
        | no l ↦ omega (arith, half_then k (omega arith))
      ]

  -- the registers' six bits are the last
  pub half_six : total (half_at rows h) 36 ≡ total (half_at rows h) 30 + 6
  unfolding total
  half_six =
      let six : total (λ k. half_at rows h (30 + k)) 6 ≡ 6 = ones (λ k. half_at rows h (30 + k)) 6 (λ k l. half_then (30 + k) (omega arith)) in
      total_add (half_at rows h) 30 6 ∙ ap (λ (x : ℕ). total (half_at rows h) 30 + x) six
    where
      ones : (d : ℕ → ℕ) (n : ℕ) → ((k : ℕ) → k < n → d k ≡ 1) → total d n ≡ n
      ones d zero e = refl
      ones d (suc n) e = omega (arith, ones d n (λ k l. e k (omega arith)), e n (omega arith))

total_most : (d : ℕ → ℕ) (n : ℕ) → ((t : ℕ) → d t ≤ 1) → total d n ≤ n
unfolding total
total_most d zero h = omega arith
total_most d (suc n) h = omega (arith, total_most d n h, h n)

pub half_most : (rows : List ℕ) (h : ℕ) → total (half_at rows h) 30 ≤ 30
half_most rows h = total_most (half_at rows h) 30 (half_once rows h)

-- what is sent behind a place
pub behind_most : (rows : List ℕ) (h i : ℕ) → i ≤ 36 → total (half_at rows h) 36 - total (half_at rows h) i ≤ 36 - i
behind_most rows h i hi =
    let d : ℕ → ℕ = half_at rows h in
    let e : total d 36 ≡ total d i + total (λ k. d (i + k)) (36 - i) = ap (total d) (omega arith) ∙ total_add d i (36 - i) in
    omega (arith, total_most (λ k. d (i + k)) (36 - i) (λ t. half_once rows h (i + t)))

pub bit_times : (d x m : ℕ) → d ≤ 1 → x ≤ m → d * x ≤ m
bit_times d x m h l =
    elim (ℕ_discrete d 0) [
      | yes e ↦ subst (λ (z : ℕ). z * x ≤ m) (sym e) (omega (arith, zero-mul x))
      | no e ↦ subst (λ (z : ℕ). z * x ≤ m) {x = 1} {y = d} (omega arith) (omega (arith, one-mul x))
    ]

pub shifted_bit : (d k : ℕ) → d ≤ 1 → k ≤ 35 → d * 2 ^ k % 18446744073709551616 ≡ d * 2 ^ k
shifted_bit d k hd hk =
    let l : 2 ^ k ≤ 34359738368 = pow_mono {i = k} {j = 35} hk in
    omega (arith, bit_times d (2 ^ k) 34359738368 hd l)

weight_most : (rows : List ℕ) (h t : ℕ) → t < 36 → weight (half_at rows h) 36 t ≤ 34359738368
unfolding weight
weight_most rows h t ht =
    let q : ℕ = total (half_at rows h) 36 - total (half_at rows h) (t + 1) in
    let l : 2 ^ q ≤ 34359738368 = pow_mono {i = q} {j = 35} (omega (arith, behind_most rows h (t + 1) (omega arith))) in
    bit_times (half_at rows h t) (2 ^ q) 34359738368 (half_once rows h t) l

pub weights_at : (rows : List ℕ) (h j : ℕ) → j < 36 → get_or (weights_of rows h) j 0 ≡ weight (half_at rows h) 36 j
weights_at rows h j l = get_or_tab (weight (half_at rows h) 36) 0 0 36 j l ∙ ap (weight (half_at rows h) 36) (zero-add j)

pub light : (rows : List ℕ) (h : ℕ) → Light (weights_of rows h)
light rows h = record {
  most = λ j. elim (dec_lt j 36) [
    | yes l ↦ subst (λ (x : ℕ). x ≤ 34359738368) (sym (weights_at rows h j l)) (weight_most rows h j l)
    | no l ↦ subst (λ (x : ℕ). x ≤ 34359738368) (sym (get_or-eq_default (weights_of rows h) 0 (omega (arith, length_tab (weight (half_at rows h) 36) 0 36)))) (omega arith)
  ];
}

-- the weights from the place i on are there
pub record Weighing (rows : List ℕ) (h : ℕ) (w : List ℕ) (bits i : ℕ) : Type 0 where
  pub top : i ≤ 36
  pub len : length w ≡ 36
  pub count : bits ≡ total (half_at rows h) 36 - total (half_at rows h) i
  pub here : (j : ℕ) → i ≤ j → j < 36 → get_or w j 0 ≡ weight (half_at rows h) 36 j

pub weighing_more : (rows : List ℕ) (h : ℕ) (w : List ℕ) (bits i d x : ℕ) → Weighing rows h w bits (i + 1) → d ≡ half_at rows h i → x ≡ d * 2 ^ bits → Weighing rows h (set w i x) (bits + d) i
unfolding weight
weighing_more rows h w bits i d x k ed ex = record {
  top = omega (arith, k.top);
  len = length-set w i x ∙ k.len;
  count = omega (arith, k.count, k.top, ed, total_more (half_at rows h) i, total_mono (half_at rows h) (i + 1) 36 k.top);
  here = λ j l m. elim (ℕ_discrete j i) [
    | yes e ↦ ap (λ (z : ℕ). get_or (set w i x) z 0) e ∙ get_or-set_same w i x 0 (omega (arith, k.len, k.top)) ∙ ex ∙ ap₂ (λ (a b : ℕ). a * 2 ^ b) ed k.count
        ∙ sym (ap (λ (z : ℕ). half_at rows h z * 2 ^ (total (half_at rows h) 36 - total (half_at rows h) (z + 1))) e)
    | no e ↦ get_or-set_other w i j x 0 (omega arith) ∙ k.here j (omega arith) m
  ];
}

pub weighing_all : (rows : List ℕ) (h : ℕ) (r : Half) → Weighing rows h r.weights r.bits 0 → HalfOf rows h r
unfolding total
weighing_all rows h r k = record {
  weights = tab_ext (weight (half_at rows h) 36) 0 36 r.weights k.len (λ j l. k.here j (omega arith) l);
  bits = k.count ∙ omega arith;
}

-- ---- what bits weigh together

-- t of 36 bits are weighed
pub record Summed (w : List ℕ) (x sum t : ℕ) : Type 0 where
  pub top : t ≤ 36
  pub sums : sum ≡ total (weighed w x) t
  pub small : sum ≤ 34359738368 * t

pub summed_none : (w : List ℕ) (x : ℕ) → Summed w x 0 0
unfolding total
summed_none w x = record { top = omega arith; sums = refl; small = omega arith }

pub weighed_most : (w : List ℕ) (x t : ℕ) → Light w → weighed w x t ≤ 34359738368
weighed_most w x t L = bit_times (x / 2 ^ (35 - t) % 2) (get_or w t 0) 34359738368 (omega arith) (L.most t)

pub summed_more : (w : List ℕ) (x sum t : ℕ) → Light w → Summed w x sum t → t < 36 → Summed w x (sum + weighed w x t) (t + 1)
summed_more w x sum t L S l = record {
  top = omega arith;
  sums = ap (λ (y : ℕ). y + weighed w x t) S.sums ∙ sym (total_more (weighed w x) t);
  small = omega (arith, S.small, weighed_most w x t L);
}
