-- `forms::check` meets its contract. Assumes nothing.
use Rattle.std.proofs.Common.{refl, sym, ◌∙◌}
use Rattle.std.proofs.lemmas.Result.{err_from_is_err_and}
use Rattle.ground.proofs.Refusals.{number_not_0}
use Rattle.sheets.proofs.Bytes.{bytes_below}
use Rattle.forms.proofs.Checked.{header_faulty, faulty, sound}
use Rattle.forms.proofs.check.Goals as goal

pub returns-then-header_wrong : goal.returns-then-header_wrong
returns-then-header_wrong c =
    (header_faulty c.args.sheet.now (sym c.header_wrong.ensures ∙ c.if-header_wrong.true), bytes_below _ c.type_inv.sheet)

pub returns-in_err-record_fault : goal.returns-in_err-record_fault
returns-in_err-record_fault c =
    let p = err_from_is_err_and c.from_residual.result c.from_residual.ensures.1 in
    rw (p.1, p.2) (
      faulty c.args.sheet.now (sym c.header_wrong.ensures ∙ c.if-header_wrong.false) c.byte.ensures c.byte-2.ensures
          c.byte-3.ensures c.in_err-record_fault.ensures (number_not_0 _),
      bytes_below _ c.type_inv.sheet,
    )

pub returns : goal.returns
returns c = (
  sound c.args.sheet.now (sym c.header_wrong.ensures ∙ c.if-header_wrong.false) c.byte.ensures c.byte-2.ensures
      c.byte-3.ensures c.in_ok-record_fault.ensures refl,
  bytes_below _ c.type_inv.sheet,
)
