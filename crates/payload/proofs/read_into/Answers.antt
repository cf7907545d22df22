-- `payload::read_into` meets its contract. Assumes nothing.
use Prim.Native.Nat.{ℕ}
use mathlib.Core.Path.{ap, ◌∙◌}
use mathlib.Core.List.{List}
use native.Mathlib.Omega.{arith}
use Rattle.std.proofs.lemmas.Result.{err_from_is_err_and}
use Rattle.header_bytes.specs.Bytes.{header_bytes}
use Rattle.header_bytes.proofs.Stores.{header_put_lem}
use Rattle.payload.proofs.Answers.{refusal_told, header_told, into_room, into_refused, into_done}
use Rattle.payload.proofs.read_into.Goals as goal

pub returns-then-header-ne-HEADER_BYTES : goal.returns-then-header-ne-HEADER_BYTES
returns-then-header-ne-HEADER_BYTES c =
    into_room c.args.word.now c.args.header.now (λ e. omega (arith, c.if-header-ne-HEADER_BYTES.true))

pub returns-in_err-h : goal.returns-in_err-h
returns-in_err-h c =
    let a = c.args in
    let p = err_from_is_err_and c.from_residual.result c.from_residual.ensures.1 in
    rw (p.1, p.2) (into_refused a.word.now a.header.now (omega (arith, c.if-header-ne-HEADER_BYTES.false)) _ (refusal_told a.word.now _ c.in_err-h.ensures.0))

pub returns : goal.returns
returns c =
    let a = c.args in
    let w : List ℕ = a.word.now in
    let f = header_told w c.in_ok-h.h c.in_ok-h.ensures.0 in
    into_done w a.header.now (omega (arith, c.if-header-ne-HEADER_BYTES.false)) f.0 c.put_header.new.out
    (c.put_header.ensures ∙ header_put_lem c.in_ok-h.h 0 a.header.now (omega (arith, c.if-header-ne-HEADER_BYTES.false)) ∙ ap header_bytes f.1)
