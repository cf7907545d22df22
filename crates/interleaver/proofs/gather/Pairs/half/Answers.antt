-- `interleaver::gather::Pairs::half` meets its contract. Assumes nothing.
use mathlib.Core.Path.{sym}
use native.Mathlib.Omega.{arith}
use borrow.Author.Tests.{eq-eqb, ne_eqb}
use Rattle.ground.proofs.Choice.{choose_true, choose_false}
use Rattle.interleaver.specs.Inside.{half_of}
use Rattle.interleaver.proofs.gather.Pairs.half.Goals as goal

pub returns-then-self-eq-PAYLOAD_BLOCK : goal.returns-then-self-eq-PAYLOAD_BLOCK
unfolding half_of
returns-then-self-eq-PAYLOAD_BLOCK c = (sym (choose_true 256 16 (eq-eqb c.args.self.now.n 12282 c.if-self-eq-PAYLOAD_BLOCK.true)), omega arith)

pub returns-else-self-eq-PAYLOAD_BLOCK : goal.returns-else-self-eq-PAYLOAD_BLOCK
unfolding half_of
returns-else-self-eq-PAYLOAD_BLOCK c = (sym (choose_false 256 16 (ne_eqb c.args.self.now.n 12282 c.if-self-eq-PAYLOAD_BLOCK.false)), omega arith)
