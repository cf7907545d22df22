-- `to_word::lay::seal` meets its contract. Assumes nothing.
use native.Mathlib.Omega.{arith}
use Prim.Native.Nat.{◌*◌}
use Rattle.wide.proofs.Widens.{wide_put}
use Rattle.to_word.proofs.Sinks.{seals, crc_small}
use Rattle.to_word.proofs.lay.seal.Goals as goal

pub returns : goal.returns
returns c =
    let s = c.waiting-sink in
    seals c.told-word c.crc12-crc.ensures s.ensures
    (wide_put (c.crc12-crc.result * 64) 18 c.args.word.now s.result c.put.result c.put.new.out s.ensures.room (omega arith)
    (omega (arith, c.crc12-crc.ensures, crc_small c.args.word.now)) (omega (arith, s.ensures.stands)) c.put.ensures)
