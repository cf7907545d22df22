-- `ip_queue::out_of_place` meets its contract. Assumes nothing.
use mathlib.Core.Path.{sym, ◌∙◌}
use native.Mathlib.Omega.{arith}
use borrow.Author.Rules.{rules}
use borrow.Author.Tests.{eq-eqb}
use Rattle.ip_queue.proofs.Places.{waiting}
use Rattle.ip_queue.proofs.First.{misplaced_none, misplaced_one, misplaced_above}
use Rattle.ip_queue.proofs.out_of_place.Goals as goal

pub returns-then-is_empty : goal.returns-then-is_empty
returns-then-is_empty c = sym (misplaced_none c.args.sent c.args.queue.now (search rules))

pub first_length-requires : goal.first_length-requires
first_length-requires c = omega (arith, (waiting c.args.queue.now 0 c.requires (search rules)).ends)

pub returns-then-sent-eq1 : goal.returns-then-sent-eq1
returns-then-sent-eq1 c =
    eq-eqb c.args.sent 1 c.if-sent-eq1.true ∙ sym (misplaced_one c.args.queue.now c.requires (search rules) c.args.sent c.if-sent-eq1.true)

pub returns-else-sent-eq1 : goal.returns-else-sent-eq1
returns-else-sent-eq1 c =
    sym (misplaced_above c.args.queue.now c.requires (search rules) c.args.sent c.first_length.result c.if-sent-eq1.false c.first_length.ensures.0)
