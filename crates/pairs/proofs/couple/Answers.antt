-- `pairs::couple` meets its contract. Assumes nothing.
use Prim.Native.Nat.{ℕ, ◌+◌, ◌*◌}
use mathlib.Core.Path.{ap₂}
use Rattle.pairs.proofs.Coupling.{coupled_more}
use Rattle.pairs.proofs.couple.Goals as goal

pub loop-y-preserved : goal.loop-y-preserved
loop-y-preserved c =
    let a = c.args in
    let l = c.loop-y in
    let f = c.of-a in
    let g = c.of-b in
    coupled_more a.word.now a.from a.half a.d.now l.d c.store.new.d c.store-in-loop-y.new.d l.y (f.result + 64 * g.result) (g.result + 64 * f.result) l.invariant c.loop-y-test.true
    (ap₂ (λ (x y : ℕ). x + 64 * y) f.ensures.0 g.ensures.0) c.store.ensures (ap₂ (λ (x y : ℕ). x + 64 * y) g.ensures.0 f.ensures.0) c.store-in-loop-y.ensures
