-- `parity::table::of_bytes` meets its contract: the table is that of the rule, by one computed test. Assumes nothing.
use Rattle.bits.specs.Lists.{bits}
use Rattle.bits.specs.Sums.{ones}
use Rattle.parity.specs.Division.{reduce, divide}
use Rattle.parity.specs.Part.{powers, generator, remainder, at_one, outer, parity_of}
use Rattle.parity.proofs.Doubling.{byte_part, grown, doubled, all_bytes}
use Rattle.parity.proofs.table.of_bytes.Goals as goal

pub returns : goal.returns
unfolding doubled grown byte_part parity_of remainder divide reduce generator powers at_one outer ones bits
returns c = all_bytes
