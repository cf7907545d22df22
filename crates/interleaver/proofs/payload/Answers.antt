-- `interleaver::payload` meets its contract. Assumes nothing.
use Prim.Native.Nat.{ℕ}
use mathlib.Core.Path.{refl}
use mathlib.Core.Logic.{inl}
use lib.ListN.{replicate, length-replicate}
use Rattle.order.specs.Order.{parameter}
use Rattle.interleaver.proofs.Reading.{read_is, pairs_long}
use Rattle.interleaver.proofs.payload.Goals as goal

pub invariant_of-block-clause-paired : goal.invariant_of-block-clause-paired
unfolding parameter
invariant_of-block-clause-paired c = (pairs_long c.args.word.now (replicate 12288 0) c.unpack.new.d (length-replicate {A = ℕ} 12288 0) c.unpack.ensures).1

pub returns : goal.returns
unfolding parameter
returns c =
    let w = c.args.word.now in
    let d = c.unpack.new.d in
    let p = pairs_long w (replicate 12288 0) d (length-replicate {A = ℕ} 12288 0) c.unpack.ensures in
    read_is 12282 (inl refl) w d _ p.0 c.gather.ensures
