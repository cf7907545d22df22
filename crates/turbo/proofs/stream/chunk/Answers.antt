-- `turbo::stream::chunk` meets its contract. Assumes nothing.
use Prim.Native.Nat.{ℕ, ◌*◌, ◌/◌, ◌%◌}
use mathlib.Core.Path.{◌≡◌, sym, ap, ◌∙◌, subst}
use borrow.Author.Tests.{eq-eqb, ne_eqb}
use Rattle.ground.specs.Outcome.{Is}
use Rattle.ground.proofs.Choice.{choose_true, choose_false}
use Rattle.wide.specs.Wide.{wider}
use Rattle.wide.specs.declared.Wide.{Wide}
use Rattle.turbo.specs.Stream.{told, half_bits, chunked}
use Rattle.turbo.specs.declared.stream.Coder.{Coder}
use Rattle.turbo.proofs.stream.chunk.Goals as goal
use Rattle.turbo.proofs.stream.chunk.Goals.{then-h-eq0, else-h-eq0}

pub returns : goal.returns
unfolding chunked
returns c =
    let a = c.args in
    let z : ℕ = told a.plan.now.look (192 * a.h) a.u a.v a.c.both in
    let bits : c.if-h-eq0.k ≡ half_bits a.plan.now a.h =
    elim c.if-h-eq0.branch [
      | then-h-eq0 w ↦ w.k-is ∙ sym (choose_true _ _ (eq-eqb a.h 0 w.if-h-eq0.true))
      | else-h-eq0 w ↦ w.k-is ∙ sym (choose_false _ _ (ne_eqb a.h 0 w.if-h-eq0.false))
    ] in
    let q = subst (λ (k : ℕ). Is (wider a.out.now a.c.sink (z / 64) k) c.put-sink.result c.put-sink.new.out) bits c.put-sink.ensures in
    record { answer = ap {A = Wide} {B = Coder} (λ s. record { sink = s; both = z % 64 }) q.answer; memory = q.memory }
