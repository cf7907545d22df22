-- `interleaver::gather::Pairs::is_short` meets its contract. Assumes nothing.
use mathlib.Core.Logic.{⊎_elim}
use Rattle.interleaver.proofs.Sinking.{block_is, short_long, short_short}
use Rattle.interleaver.proofs.gather.Pairs.is_short.Goals as goal

pub returns-then-self-eq-PAYLOAD_BLOCK : goal.returns-then-self-eq-PAYLOAD_BLOCK
returns-then-self-eq-PAYLOAD_BLOCK c = short_long c.args.self.now.n c.args.j c.if-self-eq-PAYLOAD_BLOCK.true

pub returns-else-self-eq-PAYLOAD_BLOCK : goal.returns-else-self-eq-PAYLOAD_BLOCK
returns-else-self-eq-PAYLOAD_BLOCK c =
    let p = c.args.self.now in
    short_short p.n c.args.j (⊎_elim (λ e. absurd (c.if-self-eq-PAYLOAD_BLOCK.false e)) (λ e. e) (block_is p.n p.block))
