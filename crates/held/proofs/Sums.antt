-- Laws of signed sums: one value more, and that what is stored is the sum.
-- Assumes nothing.
use Prim.Native.Nat.{ℕ, ◌+◌, ◌<◌}
use mathlib.Core.Path.{◌≡◌, refl, sym, ap, ◌∙◌}
use mathlib.Core.List.{List, [], ◌∷◌, ◌++◌, map}
use native.Mathlib.Numerals.{add-one}
use native.Mathlib.Omega.{arith}
use lib.ListN.{length, get_or, take, drop, length-drop}
use lib.Seq.{take-suc, get_or-drop}
use lib.IntN.{ℤ, pos, neg_ℤ, ◌+ℤ◌, +ℤ_assoc, +ℤ_idl, +ℤ_idr, neg_ℤ-+ℤ}
use lib.Signed.{mag}
use mir.Syntax.{w8, w16}
use mir.Val.{of_z, to_z}
use mir.ValLaws.{to_z-of_z}
use Rattle.held.specs.Held.{run, sum}

pub sum_more : (l : List ℤ) (v : ℤ) → sum (l ++ (v ∷ [])) ≡ sum l +ℤ v
unfolding sum
sum_more [] v = +ℤ_idr v ∙ sym (+ℤ_idl v)
sum_more (x ∷ l) v = ap (λ (s : ℤ). x +ℤ s) (sum_more l v) ∙ sym (+ℤ_assoc x (sum l) v)

-- the sum of the negatives is the negative of the sum
pub sum_neg : (l : List ℤ) → sum (map neg_ℤ l) ≡ neg_ℤ (sum l)
unfolding sum
sum_neg [] = refl
sum_neg (x ∷ l) = ap (λ (s : ℤ). neg_ℤ x +ℤ s) (sum_neg l) ∙ sym (neg_ℤ-+ℤ x (sum l))

-- one value more from the front
pub sum_next : (l : List ℤ) (i : ℕ) → i < length l → sum (take (i + 1) l) ≡ sum (take i l) +ℤ get_or l i (pos 0)
sum_next l i h = ap (λ (m : ℕ). sum (take m l)) (add-one i) ∙ ap sum (take-suc l i (pos 0) h) ∙ sum_more (take i l) (get_or l i (pos 0))

-- one value more of a run
pub run_more : (values : List ℤ) (at n : ℕ) → at + n < length values → run values at (n + 1) ≡ run values at n ++ (get_or values (at + n) (pos 0) ∷ [])
run_more values at n h =
    let k : n < length (drop at values) = rw length-drop (omega arith) in
    ap (λ (m : ℕ). take m (drop at values)) (add-one n) ∙ take-suc (drop at values) n (pos 0) k
    ∙ ap (λ (v : ℤ). run values at n ++ (v ∷ [])) (get_or-drop at values n (pos 0))

-- a signed number of 8 or 16 bits is what its bits say
pub byte_back : (x : ℤ) → mag x < 128 → to_z w8 (of_z w8 x) ≡ x
byte_back x h = to_z-of_z w8 x (record { sfits = h })

pub word_back : (x : ℤ) → mag x < 32768 → to_z w16 (of_z w16 x) ≡ x
word_back x h = to_z-of_z w16 x (record { sfits = omega arith })
