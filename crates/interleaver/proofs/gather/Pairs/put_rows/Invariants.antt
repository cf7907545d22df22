-- `interleaver::gather::Pairs::put_rows` meets its contract. Assumes nothing.
use Prim.Native.Nat.{◌+◌, ◌*◌}
use Rattle.interleaver.specs.Inside.{half_of, Gathering}
use Rattle.interleaver.proofs.gather.Pairs.put_rows.Given as goal

abbrev pub invariant-loop-i : goal.invariant-loop-i
invariant-loop-i l = Gathering l.self.n l.self.d.now l.out l.t (l.k * half_of l.self.n + l.i)
