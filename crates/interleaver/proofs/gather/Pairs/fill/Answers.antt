-- `interleaver::gather::Pairs::fill` meets its contract. Assumes nothing.
use Prim.Native.Nat.{◌+◌}
use mathlib.Core.Path.{◌∙◌}
use native.Mathlib.Omega.{arith}
use lib.ListN.{length-set}
use Rattle.interleaver.proofs.Sinking.{block_is, rows_both, row_with, listed_none, listed_more}
use Rattle.interleaver.proofs.gather.Pairs.fill.Goals as goal

pub loop-i-init : goal.loop-i-init
loop-i-init c = let p = c.args.self.now in (omega arith, listed_none p.n p.d.now c.args.rows.now)

pub loop-i-preserved : goal.loop-i-preserved
loop-i-preserved c =
    let p = c.args.self.now in
    let l = c.loop-i in
    let r = rows_both p.n p.d.now (l.i + 1) c.rows_of-v.result p.paired (omega arith) c.rows_of-v.ensures in
    (length-set l.rows l.i _ ∙ l.invariant.0, listed_more p.n p.d.now l.rows l.i _ _ l.invariant.1 (omega arith) r.first (row_with p.n (block_is p.n p.block) p.d.now l.i _ p.paired r.second))
