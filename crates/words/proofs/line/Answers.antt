-- `words::line` meets its contract: after i turns i signs are put. Assumes nothing.
use Rattle.std.proofs.Common.{rules, ap, ◌∙◌}
use Rattle.std.specs.Option.{unwrap_or}
use Rattle.words.proofs.Filled.{next_number, passed_none, passed_number, passed_self, passed_all}
use Rattle.words.proofs.line.Goals.{then-c-eq35, else-c-eq35}
use Rattle.words.proofs.line.Goals as goal

pub loop-c-init : goal.loop-c-init
loop-c-init c =
    let a = c.args in
    rw c.iter-left.ensures.rest (passed_none a.out.now a.at a.text.now a.numbers.now)

pub loop-c-preserved : goal.loop-c-preserved
loop-c-preserved c =
    let l = c.loop-c in
    elim c.if-c-eq35.branch [
      | then-c-eq35 w ↦ rw (w.out-is, w.to-is, w.left-is) (
          let n = next_number _ _ _ w.next.ensures.steps in
          rw n.1 (passed_number l.invariant c.loop-c-test.true w.if-c-eq35.true (w.unwrap_or.ensures ∙ ap (λ o. unwrap_or o 0) w.copied.ensures ∙ n.0) w.number-to.ensures))
      | else-c-eq35 w ↦ rw (w.out-is, w.to-is, w.left-is) (passed_self l.invariant c.loop-c-test.true w.if-c-eq35.false w.byte-to.ensures)
    ]

pub returns : goal.returns
returns c = passed_all c.loop-c.invariant (search rules)
