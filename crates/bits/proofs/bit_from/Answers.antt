-- `bits::bit_from` meets its contract: the byte and the bit of the place are those of the sum. Assumes nothing.
use Prim.Native.Nat.{ℕ, ◌+◌, ◌-◌, ◌/◌, ◌%◌, ◌^◌}
use mathlib.Core.Path.{◌≡◌, ap₂, ◌∙◌}
use native.Mathlib.Omega.{arith}
use lib.ListN.{get_or}
use Rattle.bits.specs.Places.{bit_at}
use Rattle.bits.proofs.bit_from.Goals as goal

pub returns : goal.returns
unfolding bit_at
returns c =
    let a = c.args in
    let k : ℕ = a.at % 8 + a.i % 8 in
    let j : a.at / 8 + a.i / 8 + k / 8 ≡ (a.at + a.i) / 8 = omega arith in
    let m : k % 8 ≡ (a.at + a.i) % 8 = omega arith in
    c.bit_of.ensures ∙ ap₂ (λ (x y : ℕ). get_or a.s.now x 0 / 2 ^ (7 - y) % 2) j m
