-- `walk::tour` meets its contract. Assumes nothing.
use Rattle.std.proofs.Common.{rules, arith}
use Rattle.records.proofs.Fields.{read_lt}
use Rattle.walk.proofs.Places.{found_is}
use Rattle.walk.proofs.tour.Goals as goal

pub overflow_cast-result : goal.overflow_cast-result
overflow_cast-result c = let h = read_lt _ _ 4 (omega arith) c.pipes-p.ensures in search (rules, h)

pub returns : goal.returns
returns c = let h = found_is c.args.word.now in cc
