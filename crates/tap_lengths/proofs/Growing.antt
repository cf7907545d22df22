-- Lengths grow from tap to tap, and how far.
-- Assumes nothing.
use Prim.Native.Nat.{ℕ, ◌+◌, ◌-◌, ◌*◌, ◌≤◌, ◌<◌}
use mathlib.Core.Path.{◌≡◌, refl, sym, ap, ap₂, ◌∙◌, subst}
use mathlib.Core.List.{List, [], ◌∷◌}
use native.Mathlib.Nat.{mul-le-mul_left, mul-le-mul_right, add-zero, zero-add}
use native.Mathlib.Decide.{dec_lt}
use native.Mathlib.Omega.{arith}
use borrow.Author.Tests.{lt-ltb, le-ltb}
use lib.Dec.{ltb}
use lib.ListN.{length}
use Rattle.ground.specs.Choice.{choose}
use Rattle.ground.proofs.Choice.{choose_true, choose_false}
use Rattle.description.specs.Rows.{Each, Row, total}
use Rattle.description.proofs.Rows.{row_at_lem}
use Rattle.description.specs.Rules.{taps}
use Rattle.description.specs.Fields.{table19, tap_diff, gap_width}
use Rattle.tap_lengths.specs.Lengths.{tap_total, length_after, intermed_len}

-- ---- the same with the gap at the end of the section before it, so that the first section needs no case of its own

-- Gap_Width of the next section, where there is one
abbrev gap_before : List (List ℕ) → ℕ
gap_before [] = 0
gap_before (s ∷ l) = gap_width s

-- the length of tap k, counted over these sections, of which the first begins at a length
length_from : ℕ → List (List ℕ) → ℕ → ℕ
length_from start [] k = start
length_from start (s ∷ l) k =
    choose (ltb k (taps s)) (start + k * tap_diff s) (length_from (start + (taps s - 1) * tap_diff s + gap_before l) l (k - taps s))

after_is : (last : ℕ) (l : List (List ℕ)) (k : ℕ) → length_after last l k ≡ length_from (last + gap_before l) l k
unfolding length_after length_from
after_is last [] k = sym (add-zero last)
after_is last (s ∷ l) k =
    ap (λ (x : ℕ). choose (ltb k (taps s)) (last + gap_width s + k * tap_diff s) x) (after_is (last + gap_width s + (taps s - 1) * tap_diff s) l (k - taps s))

length_is : (sections : List (List ℕ)) (k : ℕ) → intermed_len sections k ≡ length_from 0 sections k
unfolding intermed_len length_from
length_is [] k = refl
length_is (s ∷ l) k =
    ap₂ (λ (x y : ℕ). choose (ltb k (taps s)) x y) (sym (zero-add (k * tap_diff s)))
    (after_is ((taps s - 1) * tap_diff s) l (k - taps s) ∙ ap (λ (z : ℕ). length_from (z + gap_before l) l (k - taps s)) (sym (zero-add ((taps s - 1) * tap_diff s))))

-- ---- lengths grow from tap to tap

-- where the next section begins
abbrev next : ℕ → List ℕ → List (List ℕ) → ℕ
next start s l = start + (taps s - 1) * tap_diff s + gap_before l

here : (start : ℕ) (s : List ℕ) (l : List (List ℕ)) (k : ℕ) → k < taps s → length_from start (s ∷ l) k ≡ start + k * tap_diff s
unfolding length_from
here start s l k h = choose_true _ _ (lt-ltb k (taps s) h)

beyond : (start : ℕ) (s : List ℕ) (l : List (List ℕ)) (k : ℕ) → taps s ≤ k
    → length_from start (s ∷ l) k ≡ length_from (start + (taps s - 1) * tap_diff s + gap_before l) l (k - taps s)
unfolding length_from
beyond start s l k h = choose_false _ _ (le-ltb k (taps s) h)

-- no length is below that at which the sections begin
low : (start : ℕ) (l : List (List ℕ)) (k : ℕ) → start ≤ length_from start l k
low start [] k = let e : length_from start [] k ≡ start = unfold length_from in refl in omega arith
low start (s ∷ l) k =
    elim (dec_lt k (taps s)) [
      | yes h ↦ (let e : length_from start (s ∷ l) k ≡ start + k * tap_diff s = here start s l k h in omega arith)
      | no h ↦ (
          let e : length_from start (s ∷ l) k ≡ length_from (next start s l) l (k - taps s) = beyond start s l k (omega arith) in
          let i : next start s l ≤ length_from (next start s l) l (k - taps s) = low (next start s l) l (k - taps s) in
          omega arith)
    ]

from_grows : (start : ℕ) (l : List (List ℕ)) (k m : ℕ) → k ≤ m → length_from start l k ≤ length_from start l m
from_grows start [] k m h =
    let e : length_from start [] k ≡ start = unfold length_from in refl in
    let g : length_from start [] m ≡ start = unfold length_from in refl in
    omega arith
from_grows start (s ∷ l) k m h =
    elim (dec_lt m (taps s)) [
      | yes q ↦ (
          let e : length_from start (s ∷ l) k ≡ start + k * tap_diff s = here start s l k (omega arith) in
          let g : length_from start (s ∷ l) m ≡ start + m * tap_diff s = here start s l m q in
          let x : k * tap_diff s ≤ m * tap_diff s = mul-le-mul_right (tap_diff s) h in
          omega arith)
      | no q ↦ (
          let f : length_from start (s ∷ l) m ≡ length_from (next start s l) l (m - taps s) = beyond start s l m (omega arith) in
          elim (dec_lt k (taps s)) [
            | yes p ↦ (
                let e : length_from start (s ∷ l) k ≡ start + k * tap_diff s = here start s l k p in
                let x : k * tap_diff s ≤ (taps s - 1) * tap_diff s = mul-le-mul_right (tap_diff s) (omega arith) in
                let i : next start s l ≤ length_from (next start s l) l (m - taps s) = low (next start s l) l (m - taps s) in
                omega arith)
            | no p ↦ (
                let e : length_from start (s ∷ l) k ≡ length_from (next start s l) l (k - taps s) = beyond start s l k (omega arith) in
                let i : length_from (next start s l) l (k - taps s) ≤ length_from (next start s l) l (m - taps s) = from_grows (next start s l) l (k - taps s) (m - taps s) (omega arith) in
                omega arith)
          ])
    ]

-- ---- how far

-- 7 a tap and 31 a gap, at most
span : (start : ℕ) (s : List ℕ) (l : List (List ℕ)) (k : ℕ) → Each (Row table19) (s ∷ l)
    → length_from start (s ∷ l) k + 7 + 7 * length l ≤ start + 7 * tap_total (s ∷ l) + 31 * length l
unfolding total
span start s [] k e =
    let d : tap_diff s < 8 = row_at_lem table19 s 1 e.0 (omega arith) in
    let x : (taps s - 1) * tap_diff s ≤ (taps s - 1) * 7 = mul-le-mul_left (taps s - 1) (omega arith) in
    elim (dec_lt k (taps s)) [
      | yes h ↦ (
          let f : length_from start (s ∷ []) k ≡ start + k * tap_diff s = here start s [] k h in
          let y : k * tap_diff s ≤ (taps s - 1) * tap_diff s = mul-le-mul_right (tap_diff s) (omega arith) in
          omega arith)
      | no h ↦ (
          let f : length_from start (s ∷ []) k ≡ length_from (next start s []) [] (k - taps s) = beyond start s [] k (omega arith) in
          let g : length_from (next start s []) [] (k - taps s) ≡ next start s [] = unfold length_from in refl in
          omega arith)
    ]
span start s (r ∷ l) k e =
    let d : tap_diff s < 8 = row_at_lem table19 s 1 e.0 (omega arith) in
    let w : gap_width r < 32 = row_at_lem table19 r 2 e.1.0 (omega arith) in
    let x : (taps s - 1) * tap_diff s ≤ (taps s - 1) * 7 = mul-le-mul_left (taps s - 1) (omega arith) in
    elim (dec_lt k (taps s)) [
      | yes h ↦ (
          let f : length_from start (s ∷ r ∷ l) k ≡ start + k * tap_diff s = here start s (r ∷ l) k h in
          let y : k * tap_diff s ≤ (taps s - 1) * tap_diff s = mul-le-mul_right (tap_diff s) (omega arith) in
          omega arith)
      | no h ↦ (
          let f : length_from start (s ∷ r ∷ l) k ≡ length_from (next start s (r ∷ l)) (r ∷ l) (k - taps s) = beyond start s (r ∷ l) k (omega arith) in
          let i : length_from (next start s (r ∷ l)) (r ∷ l) (k - taps s) + 7 + 7 * length l ≤ next start s (r ∷ l) + 7 * tap_total (r ∷ l) + 31 * length l =
          span (next start s (r ∷ l)) r l (k - taps s) e.1 in
          omega arith)
    ]

from_most : (sections : List (List ℕ)) (k : ℕ) → Each (Row table19) sections → length sections ≤ 8 → tap_total sections ≡ 32 → length_from 0 sections k ≤ 385
from_most [] k e l t = let f : length_from 0 [] k ≡ 0 = unfold length_from in refl in omega arith
from_most (s ∷ r) k e l t =
    let h : length_from 0 (s ∷ r) k + 7 + 7 * length r ≤ 0 + 7 * tap_total (s ∷ r) + 31 * length r = span 0 s r k e in
    omega arith

pub grows : (sections : List (List ℕ)) (k m : ℕ) → k ≤ m → intermed_len sections k ≤ intermed_len sections m
grows sections k m h =
    let a : intermed_len sections k ≡ length_from 0 sections k = length_is sections k in
    let b : intermed_len sections m ≡ length_from 0 sections m = length_is sections m in
    let g : length_from 0 sections k ≤ length_from 0 sections m = from_grows 0 sections k m h in
    omega arith

pub intermed_most : (sections : List (List ℕ)) (k : ℕ) → Each (Row table19) sections → length sections ≤ 8 → tap_total sections ≡ 32 → intermed_len sections k ≤ 385
intermed_most sections k e l t = subst (λ (x : ℕ). x ≤ 385) (sym (length_is sections k)) (from_most sections k e l t)
