-- `held::clip_all` meets its contract. Assumes nothing.
use Prim.Native.Nat.{ℕ, ◌≤◌, ◌<◌}
use mathlib.Core.Path.{◌≡◌}
use lib.IntN.{pos}
use lib.ListN.{get_or}
use Rattle.held.specs.Held.{clip}
use Rattle.held.proofs.clip_all.Given as goal

-- the places that were gone through are clipped, and the others are as they were
abbrev pub invariant-loop-place : goal.invariant-loop-place
invariant-loop-place l =
    ((k : ℕ) → k < l.place-index → get_or l.lane k (pos 0) ≡ clip (get_or l.initial.lane k (pos 0)))
    × ((k : ℕ) → l.place-index ≤ k → get_or l.lane k (pos 0) ≡ get_or l.initial.lane k (pos 0))
