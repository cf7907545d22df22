-- Laws of a copy to a place, and of one byte from a place on.
-- Assumes nothing.
use Prim.Native.Nat.{ℕ, ◌+◌, ◌-◌, ◌≤◌, ◌<◌}
use mathlib.Core.Path.{◌≡◌, sym, ap, ap₂, ◌∙◌}
use mathlib.Core.List.{List, ◌++◌, append-nil}
use native.Mathlib.Decide.{dec_le}
use native.Mathlib.Omega.{arith}
use borrow.Author.Tests.{le-leb, lt-leb}
use borrow.Rule.Slice.PartMut.{put_mid}
use lib.ListN.{length, take, drop, drop_of_length-le, replicate, length-append, length-drop, length-replicate}
use lib.Seq.{paste, take_all, length-take-le}
use Rattle.ground.proofs.Choice.{choose_true, choose_false}
use Rattle.byte_runs.specs.Runs.{copied, filled_from}

module _ (x m : List ℕ) (at : ℕ) where
  -- where they fit
  pub copied_is : at + length x ≤ length m → copied x m at ≡ take at m ++ x ++ drop (at + length x) m
  unfolding copied
  copied_is h = choose_true (take at m ++ x ++ drop (at + length x) m) m (le-leb (at + length x) (length m) h)

  -- and where not
  pub copied_not : length m < at + length x → copied x m at ≡ m
  unfolding copied
  copied_not h = choose_false (take at m ++ x ++ drop (at + length x) m) m (lt-leb (at + length x) (length m) h)

  pub copied_all : at + length x ≤ length m → (i : ℕ) → i ≡ length x → paste m at x i ≡ copied x m at
  copied_all h i e =
      ap (paste m at x) e ∙ ap (λ (l : List ℕ). take at m ++ l ++ drop (at + length x) m) (take_all (length x) x (omega arith)) ∙ sym (copied_is h)

  pub copied_length : length (copied x m at) ≡ length m
  unfolding copied
  copied_length =
      elim (dec_le (at + length x) (length m)) [
        | yes h ↦ ap length (copied_is h) ∙ length-append (take at m ++ x) (drop (at + length x) m)
            ∙ omega (arith, length-append (take at m) x, length-take-le at m (omega arith), length-drop (at + length x) m)
        | no h ↦ ap length (copied_not (omega arith))
      ]

-- all from a place on is filled
pub filled_is : (m : List ℕ) (at b : ℕ) {x : List ℕ} → x ≡ replicate (length m - at) b → put_mid at (length m - at) m x ≡ filled_from m at b
unfolding filled_from
filled_is m at b e =
    ap₂ (λ (l r : List ℕ). take at m ++ (l ++ r)) e (drop_of_length-le (drop at m) (omega (arith, length-drop at m)))
    ∙ ap (λ (l : List ℕ). take at m ++ l) (append-nil (replicate (length m - at) b))

-- nothing is left to be filled
pub fill_none : (m : List ℕ) (i b : ℕ) → length m ≤ i → filled_from m i b ≡ m
unfolding filled_from
fill_none m i b h =
    let n : length m - i ≡ 0 = omega arith in
    ap (λ (k : ℕ). take i m ++ replicate k b) n ∙ append-nil (take i m) ∙ take_all i m h

pub filled_length : (m : List ℕ) (at b : ℕ) → at ≤ length m → length (filled_from m at b) ≡ length m
unfolding filled_from
filled_length m at b h =
    length-append (take at m) (replicate (length m - at) b) ∙ omega (arith, length-take-le at m h, length-replicate {A = ℕ} (length m - at) b)
