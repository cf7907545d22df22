-- Lent bytes are bytes: what the check knows of a lent slice, as promises say it.
-- Assumes nothing.
use Prim.Native.Nat.{ℕ}
use mathlib.Core.List.{List}
use native.Mathlib.Omega.{arith}
use mir.Syntax.{w8}
use mir.Val.{Fits}
use lib.ListN.{get_or}
use Rattle.bits.specs.Lists.{Below}
use Rattle.bits.proofs.Below.{below_of}

pub bytes_below : (w : List ℕ) → ((i : ℕ) → Fits w8 (get_or w i 0)) → Below 256 w
bytes_below w h = below_of 256 w (λ i. omega (arith, h i))
