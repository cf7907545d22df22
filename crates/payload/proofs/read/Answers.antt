-- `payload::read` meets its contract. Assumes nothing.
use Rattle.std.proofs.lemmas.Result.{err_from_is_err_and}
use native.Mathlib.Omega.{arith}
use Rattle.bits.specs.Lists.{Below}
use Rattle.bits.proofs.Below.{below_of}
use Rattle.payload.proofs.Answers.{tells_refusal, tells_header}
use Rattle.payload.proofs.read.Goals as goal

pub returns-in_err-refusal : goal.returns-in_err-refusal
returns-in_err-refusal c =
    let bytes : Below 256 c.args.word.now = below_of 256 c.args.word.now (λ i. omega (arith, c.type_inv.word i)) in
    let p = err_from_is_err_and c.from_residual.result c.from_residual.ensures.1 in
    rw (p.1, p.2) (tells_refusal c.args.word.now _ c.in_err-refusal.ensures, bytes)

pub returns : goal.returns
returns c =
    let bytes : Below 256 c.args.word.now = below_of 256 c.args.word.now (λ i. omega (arith, c.type_inv.word i)) in
    (tells_header c.args.word.now c.header_of.result c.in_ok-refusal.ensures c.header_of.ensures, bytes)
