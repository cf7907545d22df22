-- `listed::single::unpack` meets its contract. Assumes nothing.
use Prim.Native.Nat.{ℕ}
use mathlib.Core.Path.{sym, subst}
use mathlib.Core.List.{List}
use native.Mathlib.Omega.{arith}
use Rattle.listed.proofs.Singly.{Unpacking, unpacking_none, unpacking_more, unpacking_all}
use Rattle.listed.proofs.single.unpack.Goals as goal

pub loop-i-init : goal.loop-i-init
loop-i-init c = let w = c.args.word.now in subst (λ (d : List ℕ). Unpacking w d 0) (sym c.requires) (unpacking_none w)

pub loop-i-preserved : goal.loop-i-preserved
loop-i-preserved c =
    let l = c.loop-i in
    unpacking_more c.args.word.now l.d c.put.new.d c.put-in-loop-i.new.d l.i c.from-b.result l.invariant c.from-b.ensures (omega (arith, c.type_inv.word l.i)) c.put.ensures c.put-in-loop-i.ensures

pub returns : goal.returns
returns c = let l = c.loop-i in unpacking_all c.args.word.now l.d l.i l.invariant (λ h. omega arith)
