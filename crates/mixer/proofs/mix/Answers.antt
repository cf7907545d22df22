-- `mixer::mix` meets its contract. Assumes nothing.
use Rattle.ground.specs.Choice.{first_of}
use Rattle.patterns.specs.Blocks.{block_faults}
use mathlib.Core.Path.{◌≡◌, ap, ◌∙◌}
use native.Mathlib.Omega.{arith}
use Rattle.mixer.specs.Mixer.{increment}
use borrow.Author.Rules.{rules}
use Rattle.mixer.specs.Mixing.{block_of, mixing, mix_faults}
use Rattle.mixer.proofs.Mixes.{block_told, mix_able, mix_done}
use Rattle.mixer.proofs.mix.Goals as goal
use Rattle.mixer.proofs.mix.Goals.{then-is_err-via-then-is_err, then-is_err-via-else-is_err+then-out-codeword}

pub returns-then-p-ge-PATTERNS : goal.returns-then-p-ge-PATTERNS
unfolding mixing mix_faults
returns-then-p-ge-PATTERNS c = search rules

pub returns-then-is_err : goal.returns-then-is_err
unfolding mixing mix_faults
returns-then-is_err c =
    let a = c.args in
    let block = block_told a.pattern a.codeword.now c.code_length.ensures c.block_by-n.ensures in
    grind arith

pub mix_bits-requires : goal.mix_bits-requires
mix_bits-requires c =
    let a = c.args in
    let x = a.codeword.now in
    let block = block_told a.pattern x c.code_length.ensures c.block_by-n.ensures in
    let fit : first_of (block_faults a.pattern (block_of a.pattern x)) ≡ 0 = grind arith in
    mix_able a.pattern x a.out.now (omega arith) fit c.if-out-codeword.false c.from.result (omega arith)

pub returns : goal.returns
returns c =
    let a = c.args in
    let x = a.codeword.now in
    let block = block_told a.pattern x c.code_length.ensures c.block_by-n.ensures in
    let fit : first_of (block_faults a.pattern (block_of a.pattern x)) ≡ 0 = grind arith in
    mix_done a.pattern x a.out.now (omega arith) fit c.if-out-codeword.false c.from.result _ (c.from.ensures ∙ c.increment.ensures.0 ∙ ap (increment a.pattern) block) c.mix_bits.ensures
