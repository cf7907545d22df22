-- `pipe::take` meets its contract: after w slots the ring has their mixed codewords. Assumes nothing.
use Prim.Native.Nat.{ℕ, ◌/◌}
use mathlib.Core.Path.{ap, ◌∙◌}
use Rattle.std.specs.Result.{is_ok}
use Rattle.ground.proofs.Refusals.{status_ok}
use Rattle.pipe.proofs.Taking.{turn_accepted, turn_taken}
use Rattle.pipe.proofs.take.Goals as goal

pub unwrap-requires : goal.unwrap-requires
unwrap-requires c =
    let a = c.args in
    let l = c.loop-w in
    let size = ap (λ (x : ℕ). x / 8) c.code_length-size.ensures in
    ap is_ok (status_ok c.mix.result (c.mix.ensures.answer ∙ turn_accepted a.pattern a.slots a.codewords.now a.ring.now a.at c.requires _ size l.w l.ring c.loop-w-test.true l.invariant))

pub loop-w-preserved : goal.loop-w-preserved
loop-w-preserved c =
    let a = c.args in
    let l = c.loop-w in
    let size = ap (λ (x : ℕ). x / 8) c.code_length-size.ensures in
    turn_taken a.pattern a.slots a.codewords.now a.ring.now a.at c.requires _ size l.w l.ring _ _ c.loop-w-test.true l.invariant c.mix.ensures
