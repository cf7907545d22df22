-- `ip_read::read` meets its contract. Assumes nothing.
use mathlib.Core.Path.{◌≡◌, ap, ◌∙◌}
use native.Mathlib.Omega.{arith}
use borrow.Author.Rules.{rules}
use Rattle.std.proofs.lemmas.Option.{MatchOption-at_some}
use Rattle.std.proofs.lemmas.Result.{err_from_is_err_and}
use Rattle.ground.proofs.Refusals.{number_not_0}
use Rattle.infoword.specs.Types.{stream_type}
use Rattle.infoword.specs.declared.StreamType.TheVariants.{IpStream}
use Rattle.infoword.proofs.Types.{number_of}
use Rattle.ip_read.proofs.Outcomes.{read_refused, payload_there, memory_long, other_read, may_take, word_read}
use Rattle.ip_read.proofs.read.Goals as goal

pub returns-in_err-refusal : goal.returns-in_err-refusal
returns-in_err-refusal c =
    let a = c.args in
    let p = err_from_is_err_and c.from_residual.result c.from_residual.ensures.1 in
    rw (p.1, p.2) (read_refused a.word.now a.memory.now a.packets.now a.header.now _ c.in_err-refusal.ensures (number_not_0 _))

pub returns-then-ne : goal.returns-then-ne
returns-then-ne c =
    let a = c.args in
    let other : c.from-2.result ≡ IpStream → ⊥ = search rules in
    other_read a.word.now a.memory.now a.packets.now a.header.now c.in_ok-refusal.ensures c.header_of-h.ensures
    (λ e. other (c.from-2.ensures ∙ ap stream_type (c.from.ensures ∙ e))) _ c.put_header.ensures

pub unwrap-payload-requires : goal.unwrap-payload-requires
unwrap-payload-requires c =
    let a = c.args in
    c.first_chunk.ensures.variant.1 (payload_there a.word.now a.memory.now a.packets.now a.header.now c.in_ok-refusal.ensures c.header_of-h.ensures)

pub unwrap-held-requires : goal.unwrap-held-requires
unwrap-held-requires c =
    let a = c.args in
    c.as_mut_array.ensures.variant.1 (memory_long a.word.now a.memory.now a.packets.now a.header.now c.in_ok-refusal.ensures c.header_of-h.ensures)

pub take_in-handed-requires : goal.take_in-handed-requires
take_in-handed-requires c =
    let a = c.args in
    let ip : c.from-2.result ≡ IpStream = search rules in
    may_take a.word.now a.memory.now a.packets.now a.header.now c.in_ok-refusal.ensures c.header_of-h.ensures
    (omega (arith, number_of c.from.result c.from-2.result IpStream c.from-2.ensures ip, c.from.ensures))
    (MatchOption-at_some _ _ _ c.unwrap-payload.ensures c.first_chunk.ensures.cases).same (MatchOption-at_some _ _ _ c.unwrap-held.ensures c.as_mut_array.ensures.cases).same

pub returns : goal.returns
returns c =
    let a = c.args in
    let ip : c.from-2.result ≡ IpStream = search rules in
    word_read a.word.now a.memory.now a.packets.now a.header.now c.in_ok-refusal.ensures c.header_of-h.ensures
    (omega (arith, number_of c.from.result c.from-2.result IpStream c.from-2.ensures ip, c.from.ensures))
    (MatchOption-at_some _ _ _ c.unwrap-payload.ensures c.first_chunk.ensures.cases).same (MatchOption-at_some _ _ _ c.unwrap-held.ensures c.as_mut_array.ensures.cases).same
    _ _ _ _ c.take_in-handed.ensures c.put_header-2.ensures
