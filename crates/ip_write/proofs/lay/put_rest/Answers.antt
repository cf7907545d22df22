-- `ip_write::lay::put_rest` meets its contract. Assumes nothing.
use Rattle.ip_write.proofs.Laying.{ended_from}
use Rattle.ip_write.proofs.lay.put_rest.Goals as goal

pub returns : goal.returns
returns c =
    ended_from c.args.queue.now c.args.payload.now c.put_packets-end.new.payload c.put_end.new.payload c.args.place.at c.args.place.from
    c.put_packets-end.result.at c.put_packets-end.result.from c.put_end.result.done c.put_end.result.sent c.put_packets-end.ensures.1 c.put_end.ensures
