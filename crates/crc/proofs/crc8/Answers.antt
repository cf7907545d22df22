-- `crc::crc8` meets its contract: the word fits its width. Assumes nothing.
use native.Mathlib.Omega.{arith}
use Rattle.ground.specs.Table.{tab}
use Rattle.bits.specs.Places.{bit_at}
use Rattle.crc.specs.Crc.{crc8_of}
use Rattle.crc.proofs.Laws.{crc_lt}
use Rattle.crc.proofs.crc8.Goals as goal

pub overflow_cast-result : goal.overflow_cast-result
overflow_cast-result c =
    let a = c.args in
    omega (arith, c.crc.ensures, crc_lt 8 0x2F (tab (bit_at a.word.now) a.at a.n))

pub returns : goal.returns
unfolding crc8_of
returns c = c.crc.ensures
