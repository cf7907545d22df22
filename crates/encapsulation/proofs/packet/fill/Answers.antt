-- `encapsulation::packet::fill` meets its contract. Assumes nothing.
use Rattle.encapsulation.proofs.Stores.{filled_by}
use Rattle.encapsulation.proofs.packet.fill.Goals as goal

pub returns : goal.returns
returns c =
    filled_by c.args.payload.now c.copy.new.out c.fill.new.self c.args.word.now c.requires c.told-word c.copy.ensures (c.fill.ensures.after (λ y e. e))
