-- Laws of a copy from the front: the first i entries are those of the source, the rest is as before. (A copy to another place is `lib.Seq`'s `paste`.)
-- Assumes nothing.
use mathlib.Core.Path.{◌≡◌, sym, ap, ap₂, ◌∙◌}
use mathlib.Core.List.{List, ◌++◌, append-nil}
use Prim.Native.Nat.{ℕ, suc, ◌+◌, ◌≤◌, ◌<◌}
use native.Mathlib.Nat.{zero-add, le_of_eq}
use native.Mathlib.Numerals.{add-one}
use native.Mathlib.Omega.{arith}
use lib.ListN.{length, get_or, take, drop, set, drop_of_length-le}
use lib.Seq.{paste, paste-suc, length-paste, take_all, take_at, drop_at, drop-drop}

module _ {A : Type 0} where
  abbrev pub over : List A → List A → ℕ → List A
  over d s i = take i s ++ drop i d

  over_paste : (d s : List A) (i : ℕ) → over d s i ≡ paste d 0 s i
  over_paste d s i = ap (λ (k : ℕ). take i s ++ drop k d) (sym (zero-add i))

  -- one entry more
  pub over_more : (d s : List A) (i : ℕ) (z : A) → i < length d → i < length s → set (over d s i) i (get_or s i z) ≡ over d s (i + 1)
  over_more d s i z h k =
      ap₂ (λ (l : List A) (j : ℕ). set l j (get_or s i z)) (over_paste d s i) (sym (zero-add i))
      ∙ paste-suc d 0 s i z (omega arith) k ∙ sym (over_paste d s (suc i)) ∙ ap (over d s) (sym (add-one i))

  pub over_length : (d s : List A) (i : ℕ) → i ≤ length d → i ≤ length s → length (over d s i) ≡ length d
  over_length d s i h k = ap length (over_paste d s i) ∙ length-paste d 0 s i (omega arith) k

  -- all entries
  pub over_all : (d s : List A) (i : ℕ) → length d ≡ i → length s ≡ i → over d s i ≡ s
  over_all d s i h k = ap₂ (λ (x y : List A). x ++ y) (take_all i s (le_of_eq k)) (drop_of_length-le d (le_of_eq h)) ∙ append-nil s

  -- copied behind what stands at the front already
  pub paste_behind : (d a x : List A) (n m : ℕ) → length a ≡ n → length x ≡ m → paste (a ++ drop n d) n x m ≡ (a ++ x) ++ drop (n + m) d
  paste_behind d a x n m h k =
      let e : drop (n + m) (a ++ drop n d) ≡ drop (n + m) d =
      sym (drop-drop m n (a ++ drop n d)) ∙ ap (drop m) (drop_at a (drop n d) n h) ∙ drop-drop m n d in
      rw (take_at a (drop n d) n h, take_all m x (le_of_eq k), e)
