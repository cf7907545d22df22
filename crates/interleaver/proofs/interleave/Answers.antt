-- `interleaver::interleave` meets its contract. Assumes nothing.
use Prim.Native.Nat.{ℕ}
use mathlib.Core.Path.{sym, ap, ◌∙◌}
use Rattle.interleaver.specs.Read.{interleaved}
use Rattle.interleaver.proofs.Reading.{block_long, block_short, listed_is}
use Rattle.interleaver.proofs.interleave.Goals as goal

pub returns-then-n-ne-PAYLOAD_BLOCK : goal.returns-then-n-ne-PAYLOAD_BLOCK
returns-then-n-ne-PAYLOAD_BLOCK c =
    let a = c.args in
    c.read_into.ensures ∙ listed_is a.word.now ∙ ap (λ (n : ℕ). interleaved n a.word.now) (sym (block_short a.n c.if-n-ne-PAYLOAD_BLOCK.true))

pub returns : goal.returns
returns c =
    let a = c.args in
    c.payload.ensures ∙ ap (λ (n : ℕ). interleaved n a.word.now) (sym (block_long a.n c.if-n-ne-PAYLOAD_BLOCK.false))
