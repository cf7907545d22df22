-- `ip_queue::look` meets its contract. Assumes nothing.
use mathlib.Core.Path.{sym, ap, ◌∙◌}
use Rattle.std.proofs.lemmas.Result.{err_from_is_err_and}
use Rattle.ip.specs.Write.{announced}
use Rattle.ip_queue.proofs.Seen.{queue_wrong, sent_wrong, none_wrong}
use Rattle.ip_queue.proofs.look.Goals as goal

pub returns-in_err-fault : goal.returns-in_err-fault
returns-in_err-fault c =
    let p = err_from_is_err_and c.from_residual.result c.from_residual.ensures.1 in
    rw (p.1, p.2) (queue_wrong c.args.sent c.args.queue.now _ c.in_err-fault.ensures)

pub returns-then-out_of_place : goal.returns-then-out_of_place
returns-then-out_of_place c =
    sent_wrong c.args.sent c.args.queue.now (sym c.in_ok-fault.ensures) (sym c.out_of_place.ensures ∙ c.if-out_of_place.true)

pub returns : goal.returns
returns c =
    none_wrong c.args.sent c.args.queue.now (sym c.in_ok-fault.ensures, sym c.out_of_place.ensures ∙ c.if-out_of_place.false) c.address_after.result
    (c.address_after.ensures.0 ∙ ap announced c.to_come-rest.ensures)
