-- `addresses::signalling` meets its contract: one computed test over the whole list holds it to the rule at every place. Assumes nothing.
use Rattle.ground.specs.Table.{same}
use Rattle.ground.proofs.Table.{same_is}
use Rattle.order.specs.Order.{parameter, entries5, entries9, entry, reversed, address, kept, order}
use Rattle.addresses.proofs.signalling.Goals as goal

-- the list is the code's own: of another the test is false
pub returns : goal.returns
unfolding same parameter entries5 entries9 entry reversed address kept order
returns c = same_is _ (order 762) tt
