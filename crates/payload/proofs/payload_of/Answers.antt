-- `payload::payload_of` meets its contract. Assumes nothing.
use mathlib.Core.Path.{sym, ap, ◌∙◌}
use native.Mathlib.Omega.{arith}
use lib.Seq.{length-take-le}
use Rattle.infoword.specs.Word.{packet_bytes}
use Rattle.fields.proofs.Faults.{readable}
use Rattle.payload.proofs.Answers.{shows, shows_nothing}
use Rattle.payload.proofs.payload_of.Goals as goal

pub returns-in-Err : goal.returns-in-Err
returns-in-Err c = shows_nothing c.args.word.now _ c.in-Err.ensures

pub slice_bounds-result-end : goal.slice_bounds-result-end
slice_bounds-result-end c =
    let w = c.args.word.now in
    sym (length-take-le _ w (omega (arith, (readable w (sym c.in-Ok.ensures)).word_is, c.bytes-n.ensures.1)))

pub returns-in-Ok : goal.returns-in-Ok
returns-in-Ok c =
    let w = c.args.word.now in
    shows w _ c.in-Ok.ensures (c.bytes-n.ensures.0 ∙ ap packet_bytes c.field.ensures)
