-- Each symbol of the lane's groups is a bit.
-- Assumes nothing.
use Prim.Native.Nat.{ℕ, ◌+◌, ◌-◌, ◌<◌}
use mathlib.Core.Path.{◌≡◌, refl}
use mathlib.Core.Bool.{Bool, true, false}
use mathlib.Core.List.{List}
use native.Mathlib.Omega.{arith}
use lib.Dec.{ltb}
use lib.ListN.{length}
use Rattle.ground.specs.Choice.{choose}
use Rattle.bits.specs.Lists.{Below}
use Rattle.bits.specs.Places.{bit_at}
use Rattle.bits.proofs.Places.{bit_lt}
use Rattle.constituent.specs.Constituent.{y0, y1, state, feed, clocked}
use Rattle.constituent.specs.Symbols.{data_symbols, tail_symbols1, tail_symbols2}
use Rattle.turbo.specs.Lane.{second, group}
use Rattle.constituent.specs.declared.State.{State}

-- each symbol of a group is a bit
pub group_bits : (w : List ℕ) (n i : ℕ) → Below 2 (group w n i) × (length (group w n i) ≡ 5)
unfolding group data_symbols tail_symbols1 tail_symbols2 y0 y1 feed
group_bits w n i =
    five (ltb i n) _ _ (periods (state (bit_at w) i) (second w n i) (state (second w n) i) (bit_lt w i))
    (five (ltb i (n + 3)) _ _ (first (clocked (state (bit_at w) n) (i - n))) (last (clocked (state (second w n) n) (i - (n + 3)))))
  where
    five : (b : Bool) (l m : List ℕ) → Below 2 l × (length l ≡ 5) → Below 2 m × (length m ≡ 5) → Below 2 (choose b l m) × (length (choose b l m) ≡ 5)
    five true l m x y = x
    five false l m x y = y

    periods : (s : State) (v : ℕ) (t : State) → bit_at w i < 2 → Below 2 (data_symbols (bit_at w i) s v t) × (length (data_symbols (bit_at w i) s v t) ≡ 5)
    periods s v t h = ((h, (omega arith, (omega arith, (omega arith, (omega arith, tt))))), refl)

    first : (s : State) → Below 2 (tail_symbols1 s) × (length (tail_symbols1 s) ≡ 5)
    first s = ((omega arith, (omega arith, (omega arith, (omega arith, (omega arith, tt))))), refl)

    last : (s : State) → Below 2 (tail_symbols2 s) × (length (tail_symbols2 s) ≡ 5)
    last s = ((omega arith, (omega arith, (omega arith, (omega arith, (omega arith, tt))))), refl)
