-- A list that is filled entry by entry with the values of a rule.
-- Assumes nothing.
use mathlib.Core.Path.{◌≡◌, ◌∙◌}
use mathlib.Core.List.{List}
use Prim.Native.Nat.{ℕ, ◌+◌, ◌<◌}
use native.Mathlib.Omega.{arith}
use borrow.Author.Count.{below_more}
use lib.ListN.{length, get_or, set}
use lib.Seq.{get_or-set_same, get_or-set_other}

-- the next entry is stored, and those before it stay
pub fill_more : {A : Type 0} (f : ℕ → A) (d : A) (l : List A) (j : ℕ) (x : A) → j < length l → x ≡ f j
    → ((k : ℕ) → k < j → get_or l k d ≡ f k) → (k : ℕ) → k < j + 1 → get_or (set l j x) k d ≡ f k
fill_more f d l j x room e before =
    below_more (λ k. get_or (set l j x) k d ≡ f k) j
    (λ k h. get_or-set_other l j k x d (omega arith) ∙ before k h)
    (get_or-set_same l j x d room ∙ e)
