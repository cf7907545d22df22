-- `crc::crc12` meets its contract: the word fits its width. Assumes nothing.
use native.Mathlib.Omega.{arith}
use Rattle.ground.specs.Table.{tab}
use Rattle.bits.specs.Places.{bit_at}
use Rattle.crc.specs.Crc.{crc12_of}
use Rattle.crc.proofs.Laws.{crc_lt}
use Rattle.crc.proofs.crc12.Goals as goal

pub overflow_cast-result : goal.overflow_cast-result
overflow_cast-result c =
    let a = c.args in
    omega (arith, c.crc.ensures, crc_lt 12 0x80F (tab (bit_at a.word.now) a.at a.n))

pub returns : goal.returns
unfolding crc12_of
returns c = c.crc.ensures
