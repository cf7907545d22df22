-- `ip_queue::fault` meets its contract: what is wrong in the queue is wrong in what is left of it. Assumes nothing.
use mathlib.Core.Path.{sym}
use borrow.Author.Rules.{rules}
use Rattle.ip_queue.proofs.Faults.{fault_none, fault_short, fault_unfit, fault_cut, fault_more}
use Rattle.ip_queue.proofs.fault.Goals as goal

pub returns-then-unsendable : goal.returns-then-unsendable
returns-then-unsendable c =
    sym (fault_unfit c.loop-rest.rest.now _ c.loop-rest.invariant c.in-len4-up.len_at_least c.two-n.result c.two-n.ensures.0
    c.unsendable.result c.unsendable.ensures c.if-unsendable.true)

pub returns-then-behind-n : goal.returns-then-behind-n
returns-then-behind-n c =
    sym (fault_cut c.loop-rest.rest.now _ c.loop-rest.invariant c.in-len4-up.len_at_least c.two-n.result c.two-n.ensures.0
    c.unsendable.result c.unsendable.ensures c.if-unsendable.false c.if-behind-n.true)

pub loop-rest-preserved : goal.loop-rest-preserved
loop-rest-preserved c =
    fault_more c.loop-rest.rest.now _ c.loop-rest.invariant c.in-len4-up.len_at_least c.two-n.result c.two-n.ensures.0
    c.unsendable.result c.unsendable.ensures c.if-unsendable.false c.if-behind-n.false

pub returns-then-is_empty : goal.returns-then-is_empty
returns-then-is_empty c = sym (fault_none c.loop-rest.rest.now _ c.loop-rest.invariant (search rules))

pub returns-else-is_empty : goal.returns-else-is_empty
returns-else-is_empty c = sym (fault_short c.loop-rest.rest.now _ c.loop-rest.invariant (search rules) c.in_default.len_below)
