-- `ip_queue::to_come` meets its contract. Assumes nothing.
use mathlib.Core.Path.{sym}
use native.Mathlib.Omega.{arith}
use borrow.Author.Rules.{rules}
use Rattle.ip_queue.proofs.First.{to_come_zero, partly}
use Rattle.ip_queue.proofs.to_come.Goals as goal

pub returns-then-sent-eq0 : goal.returns-then-sent-eq0
returns-then-sent-eq0 c = sym (to_come_zero c.args.sent _ c.if-sent-eq0.true)

pub first_length-requires : goal.first_length-requires
first_length-requires c = omega (arith, (partly c.args.queue.now c.args.sent c.requires (search rules)).ends)

pub overflow_sub-result : goal.overflow_sub-result
overflow_sub-result c = omega (arith, (partly c.args.queue.now c.args.sent c.requires (search rules)).high, c.first_length.ensures.0)

pub returns : goal.returns
returns c =
    let k = partly c.args.queue.now c.args.sent c.requires (search rules) in
    omega (arith, k.to_come_lem, c.first_length.ensures.0)
