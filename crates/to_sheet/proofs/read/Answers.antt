-- `to_sheet::read` meets its contract. Assumes nothing.
use Rattle.std.proofs.Common.{rules}
use Rattle.std.proofs.lemmas.Result.{err_from_is_err_and}
use Rattle.sheets.proofs.Bytes.{bytes_below}
use Rattle.to_sheet.proofs.Readings.{room_length, reading_refused, reading_done, fillable}
use Rattle.to_sheet.proofs.read.Goals as goal

pub returns-then-sheet-lt-ROOM : goal.returns-then-sheet-lt-ROOM
returns-then-sheet-lt-ROOM c = (room_length c.args.word.now c.args.sheet.now (search rules), bytes_below _ c.type_inv.word)

pub returns-in_err-counts : goal.returns-in_err-counts
returns-in_err-counts c =
    let p = err_from_is_err_and c.from_residual.result c.from_residual.ensures.1 in
    rw (p.1, p.2) (reading_refused c.args.word.now c.args.sheet.now (search rules) _ c.in_err-counts.ensures, bytes_below _ c.type_inv.word)

pub fill-requires : goal.fill-requires
fill-requires c =
    let n = c.in_ok-counts.counts in
    fillable c.args.word.now c.args.sheet.now (search rules) n.p n.s n.d c.in_ok-counts.ensures

pub returns : goal.returns
returns c =
    let n = c.in_ok-counts.counts in
    (reading_done c.args.word.now c.args.sheet.now (search rules) n.p n.s n.d c.in_ok-counts.ensures _ c.fill.ensures, bytes_below _ c.type_inv.word)
