-- `listed::eight::Block::four` meets its contract. Assumes nothing.
use native.Mathlib.Omega.{arith}
use Rattle.listed.specs.Inside.{read_bit}
use Rattle.listed.proofs.Packing.{four_is}
use Rattle.listed.proofs.eight.Block.four.Goals as goal

pub returns : goal.returns
returns c =
    let a = c.args in (
      four_is (read_bit a.self.now.bits.now) a.p _ _ _ _ c.bit.ensures.0 c.bit-2.ensures.0 c.bit-3.ensures.0 c.bit-4.ensures.0,
      omega (arith, c.bit.ensures.1, c.bit-2.ensures.1, c.bit-3.ensures.1, c.bit-4.ensures.1),
    )
