-- `listed::eight::Block::pack` meets its contract. Assumes nothing.
use Prim.Native.Nat.{ℕ, ◌+◌, ◌*◌}
use mathlib.Core.Path.{◌≡◌, subst}
use mathlib.Core.List.{List}
use native.Mathlib.Omega.{arith}
use lib.ListN.{set}
use Rattle.listed.specs.Inside.{read_bit}
use Rattle.listed.proofs.Packing.{eight_is, Reading, reading_none, reading_more, last_two, reading_all}
use Rattle.listed.proofs.eight.Block.pack.Goals as goal

pub loop-i-init : goal.loop-i-init
loop-i-init c = reading_none c.args.self.now.bits.now

pub loop-i-preserved : goal.loop-i-preserved
loop-i-preserved c =
    let l = c.loop-i in
    let d : List ℕ = c.args.self.now.bits.now in
    reading_more d l.out l.i (c.four.result * 16 + c.four-in-loop-i.result) l.invariant (omega arith)
    (eight_is (read_bit d) (8 * l.i) c.four.result c.four-in-loop-i.result c.four.ensures.0 c.four-in-loop-i.ensures.0)

pub returns : goal.returns
returns c =
    let l = c.loop-i in
    let d : List ℕ = c.args.self.now.bits.now in
    let v : ℕ = c.bit.result * 128 + c.bit-2.result * 64 in
    let e : l.i ≡ 95 = omega arith in
    reading_all d (set l.out 95 v)
    (reading_more d l.out 95 v (subst (Reading d l.out) e l.invariant) (omega arith) (last_two d c.bit.result c.bit-2.result c.bit.ensures.0 c.bit-2.ensures.0))
