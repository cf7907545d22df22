-- `write_faults::refusal` meets its contract. Assumes nothing.
use Prim.Native.Nat.{◌<◌}
use mathlib.Core.Logic.{inl, inr}
use mathlib.Core.Path.{◌≡◌, sym, ◌∙◌}
use native.Mathlib.Omega.{arith}
use Rattle.std.proofs.lemmas.Result.{err_from_is_err_and}
use Rattle.ground.proofs.Refusals.{number_not_0}
use Rattle.infoword.specs.declared.StreamType.TheVariants.{Empty, Transparent, TransportStream, IpStream, Other}
use Rattle.infoword.proofs.Types.{number_of}
use Rattle.write_faults.proofs.Faults.{write_15, write_1, write_1_word, write_0, write_packets, Lent, lent_empty, lent_transparent, lent_transport}
use Rattle.write_faults.proofs.refusal.Goals as goal
use Rattle.write_faults.proofs.refusal.Goals.{in-Empty, in-Transparent, in-TransportStream+in_ok-refusal-in-TransportStream}

pub returns-in_err-refusal-in-TransportStream : goal.returns-in_err-refusal-in-TransportStream
returns-in_err-refusal-in-TransportStream c =
    let a = c.args in
    let two : a.kind ≡ 2 = omega (arith, number_of a.kind c.from.result TransportStream c.from.ensures c.in-TransportStream.is) in
    let p = err_from_is_err_and c.from_residual.result c.from_residual.ensures.1 in
    let e = c.in_err-refusal-in-TransportStream.ensures in
    rw (p.1, p.2) (write_packets a.kind a.count a.payload a.null a.word two _ e (omega (arith, number_not_0 c.in_err-refusal-in-TransportStream.field-0.0)))

pub returns-in-IpStream : goal.returns-in-IpStream
returns-in-IpStream c =
    let a = c.args in
    let above : 2 < a.kind = elim c.in-IpStream.is [
      | inl e ↦ omega (arith, number_of a.kind c.from.result IpStream c.from.ensures e)
      | inr e ↦ omega (arith, number_of a.kind c.from.result Other c.from.ensures e)
    ] in
    write_15 a.kind a.count a.payload a.null a.word above

pub returns-then-payload-lent : goal.returns-then-payload-lent
returns-then-payload-lent c =
    let a = c.args in
    let l : Lent a.kind a.count a.null c.match-from.lent = elim c.match-from.branch [
      | in-Empty w ↦ lent_empty a.kind a.count a.null _ (omega (arith, number_of a.kind c.from.result Empty c.from.ensures w.in-Empty.is)) w.lent-is
      | in-Transparent w ↦ lent_transparent a.kind a.count a.null _ (omega (arith, number_of a.kind c.from.result Transparent c.from.ensures w.in-Transparent.is)) w.lent-is
      | in-TransportStream+in_ok-refusal-in-TransportStream w ↦
          lent_transport a.kind a.count a.null _ (omega (arith, number_of a.kind c.from.result TransportStream c.from.ensures w.in-TransportStream.is)) w.in_ok-refusal-in-TransportStream.ensures w.lent-is
    ] in
    elim c.then-payload-lent.either [
      | inl n ↦ write_1 a.kind a.count a.payload a.null a.word l.kind_is l.count_is l.null_is (λ e. n (e ∙ sym l.bytes_is))
      | inr (e, n) ↦ write_1_word a.kind a.count a.payload a.null a.word l.kind_is l.count_is l.null_is (e ∙ l.bytes_is) n
    ]

pub returns : goal.returns
returns c =
    let a = c.args in
    let l : Lent a.kind a.count a.null c.match-from.lent = elim c.match-from.branch [
      | in-Empty w ↦ lent_empty a.kind a.count a.null _ (omega (arith, number_of a.kind c.from.result Empty c.from.ensures w.in-Empty.is)) w.lent-is
      | in-Transparent w ↦ lent_transparent a.kind a.count a.null _ (omega (arith, number_of a.kind c.from.result Transparent c.from.ensures w.in-Transparent.is)) w.lent-is
      | in-TransportStream+in_ok-refusal-in-TransportStream w ↦
          lent_transport a.kind a.count a.null _ (omega (arith, number_of a.kind c.from.result TransportStream c.from.ensures w.in-TransportStream.is)) w.in_ok-refusal-in-TransportStream.ensures w.lent-is
    ] in
    write_0 a.kind a.count a.payload a.null a.word l.kind_is l.count_is l.null_is (c.if-payload-lent.false ∙ l.bytes_is) c.if-word-ne-PAYLOAD_WORD.false
