-- `listed::eight::Block::bit` meets its contract. Assumes nothing.
use Prim.Native.Nat.{ℕ}
use mathlib.Core.Path.{ap, ◌∙◌}
use native.Mathlib.Omega.{arith}
use lib.ListN.{get_or}
use Rattle.listed.proofs.Packing.{address_lt, bit_read}
use Rattle.listed.proofs.eight.Block.bit.Goals as goal

pub bounds-self-from : goal.bounds-self-from
bounds-self-from c = let b = c.args.self.now in omega (arith, address_lt b.list.now b.bits.now b.whole c.args.p c.requires, c.from.ensures)

pub returns : goal.returns
returns c =
    let b = c.args.self.now in
    (ap (λ (i : ℕ). get_or b.bits.now i 0) c.from.ensures ∙ bit_read b.list.now b.bits.now b.whole c.args.p c.requires, b.single c.from.result)
