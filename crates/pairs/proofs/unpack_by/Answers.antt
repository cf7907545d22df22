-- `pairs::unpack_by` meets its contract. Assumes nothing.
use Prim.Native.Nat.{◌*◌}
use mathlib.Core.Path.{◌≡◌, ◌∙◌, subst}
use native.Mathlib.Omega.{arith}
use Rattle.pairs.proofs.Copying.{pairs_copied}
use Rattle.pairs.proofs.Coupling.{Segments, segments_more, segments_all}
use Rattle.pairs.proofs.unpack_by.Goals as goal

pub loop-s-preserved : goal.loop-s-preserved
loop-s-preserved c =
    let a = c.args in
    let l = c.loop-s in
    segments_more c.block_of-block.result a.half a.d.now l.d c.couple.new.d l.s l.invariant c.couple.ensures

pub returns : goal.returns
returns c =
    let a = c.args in
    let l = c.loop-s in
    let b = c.block_of-block in
    let e : l.s ≡ 24 = omega arith in
    segments_all b.result a.half a.d.now l.d (subst (Segments b.result a.half a.d.now l.d) e l.invariant) (l.invariant.len ∙ c.requires.2) c.requires.0
    ∙ pairs_copied a.word.now b.result (16 * a.half) b.ensures (omega arith) (omega arith)
