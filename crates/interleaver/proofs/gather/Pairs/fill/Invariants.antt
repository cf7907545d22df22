-- `interleaver::gather::Pairs::fill` meets its contract. Assumes nothing.
use mathlib.Core.Path.{◌≡◌}
use lib.ListN.{length}
use Rattle.interleaver.specs.Inside.{Listed}
use Rattle.interleaver.proofs.gather.Pairs.fill.Given as goal

abbrev pub invariant-loop-i : goal.invariant-loop-i
invariant-loop-i l = (length l.rows ≡ 256) × Listed l.self.n l.self.d.now l.rows l.i
