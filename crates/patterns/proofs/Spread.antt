-- Laws of what is spread: how long it is, and what stands where.
-- Assumes nothing.
use Prim.Native.Nat.{ℕ, zero, suc, ◌+◌, ◌-◌, ◌≤◌, ◌<◌}
use mathlib.Core.Path.{◌≡◌, refl, sym, ap, ap₂, ◌∙◌, subst}
use mathlib.Core.List.{◌++◌}
use native.Mathlib.Nat.{not-suc-le-zero}
use native.Mathlib.Decide.{dec_lt}
use native.Mathlib.Omega.{arith}
use lib.ListN.{length, get_or, replicate, length-append, length-replicate, get_or-replicate, get_or-append}
use lib.Seq.{get_or-append-add}
use Rattle.patterns.specs.Sent.{spread, total}
use Rattle.patterns.proofs.Totals.{total_more, total_mono}

module _ {A : Type 0} (c : ℕ → ℕ) (x : ℕ → A) where
  pub length_spread : (n : ℕ) → length (spread c x n) ≡ total c n
  unfolding spread total
  length_spread zero = refl
  length_spread (suc n) = length-append (spread c x n) (replicate (c n) (x n)) ∙ ap₂ ◌+◌ (length_spread n) (length-replicate (c n) (x n))

  -- of the copies of place k, which begin where the copies before it end, each is x k
  pub spread_at : (k n t : ℕ) (d : A) → k < n → t < c k → get_or (spread c x n) (total c k + t) d ≡ x k
  unfolding spread
  spread_at k zero t d h l = absurd (not-suc-le-zero h)
  spread_at k (suc n) t d h l =
      elim (dec_lt k n) [
        | yes q ↦ get_or-append (spread c x n) (replicate (c n) (x n)) d (total c k + t) (omega (arith, length_spread n, total_mono c (k + 1) n (omega arith), total_more c k))
            ∙ spread_at k n t d q l
        | no q ↦ last (omega arith) l
      ]
    where
      last : k ≡ n → t < c k → get_or (spread c x n ++ replicate (c n) (x n)) (total c k + t) d ≡ x k
      last e m =
          ap (λ (i : ℕ). get_or (spread c x n ++ replicate (c n) (x n)) (total c i + t) d) e
          ∙ ap (λ (i : ℕ). get_or (spread c x n ++ replicate (c n) (x n)) (i + t) d) (sym (length_spread n))
          ∙ get_or-append-add (spread c x n) (replicate (c n) (x n)) t d ∙ get_or-replicate (c n) t (x n) d (subst (λ (i : ℕ). t < c i) e m) ∙ ap x (sym e)

-- what stands at k is x of the place that stands at k where the places themselves are spread
pub spread_from : {A : Type 0} (c : ℕ → ℕ) (x : ℕ → A) (n k : ℕ) (d : A) → k < total c n → get_or (spread c x n) k d ≡ x (get_or (spread c (λ i. i) n) k 0)
unfolding spread total
spread_from c x zero k d h = absurd (not-suc-le-zero h)
spread_from c x (suc n) k d h =
    elim (dec_lt k (total c n)) [
      | yes l ↦ get_or-append (spread c x n) (replicate (c n) (x n)) d k (subst (λ (m : ℕ). k < m) (sym (length_spread c x n)) l)
          ∙ spread_from c x n k d l
          ∙ sym (ap x (get_or-append (spread c (λ i. i) n) (replicate (c n) n) 0 k (subst (λ (m : ℕ). k < m) (sym (length_spread c (λ i. i) n)) l)))
      | no l ↦ last (k - total c n) (omega arith) (omega arith)
    ]
  where
    last : (t : ℕ) → k ≡ total c n + t → t < c n
        → get_or (spread c x n ++ replicate (c n) (x n)) k d ≡ x (get_or (spread c (λ i. i) n ++ replicate (c n) n) k 0)
    last t e m =
        ap (λ (j : ℕ). get_or (spread c x (suc n)) j d) e ∙ spread_at c x n (suc n) t d (omega arith) m
        ∙ sym (ap x (ap (λ (j : ℕ). get_or (spread c (λ i. i) (suc n)) j 0) e ∙ spread_at c (λ i. i) n (suc n) t 0 (omega arith) m))

-- q is the place from which the copy k comes: k is one of its copies, which begin where those of the places before it end
pub record From (c : ℕ → ℕ) (n k q : ℕ) : Type 0 where
  pub inside : q < n
  pub begun : total c q ≤ k
  pub within : k < total c q + c q

pub spread_place : (c : ℕ → ℕ) (n k : ℕ) → k < total c n → From c n k (get_or (spread c (λ i. i) n) k 0)
unfolding spread total
spread_place c zero k h = absurd (not-suc-le-zero h)
spread_place c (suc n) k h =
    elim (dec_lt k (total c n)) [
      | yes l ↦ (
          let f : From c n k (get_or (spread c (λ i. i) n) k 0) = spread_place c n k l in
          let e : get_or (spread c (λ i. i) (suc n)) k 0 ≡ get_or (spread c (λ i. i) n) k 0 =
          get_or-append (spread c (λ i. i) n) (replicate (c n) n) 0 k (subst (λ (m : ℕ). k < m) (sym (length_spread c (λ i. i) n)) l) in
          subst (From c (suc n) k) (sym e) (record { inside = omega (arith, f.inside); begun = f.begun; within = f.within }))
      | no l ↦ (
          let t : ℕ = k - total c n in
          let at : k ≡ total c n + t = omega arith in
          let e : get_or (spread c (λ i. i) (suc n)) k 0 ≡ n = ap (λ (j : ℕ). get_or (spread c (λ i. i) (suc n)) j 0) at ∙ spread_at c (λ i. i) n (suc n) t 0 (omega arith) (omega arith) in
          subst (From c (suc n) k) (sym e) (record { inside = omega arith; begun = omega arith; within = omega arith }))
    ]

pub spread_cong : {A : Type 0} (c : ℕ → ℕ) (x y : ℕ → A) (n : ℕ) → ((k : ℕ) → k < n → x k ≡ y k) → spread c x n ≡ spread c y n
unfolding spread
spread_cong c x y zero h = refl
spread_cong c x y (suc n) h = ap₂ (λ l z. l ++ replicate (c n) z) (spread_cong c x y n (λ k l. h k (omega arith))) (h n (omega arith))
