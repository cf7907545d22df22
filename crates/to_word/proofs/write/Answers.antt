-- `to_word::write` meets its contract. Assumes nothing.
use Rattle.std.proofs.lemmas.Result.{err_from_is_err_and}
use Rattle.sheets.proofs.Bytes.{bytes_below}
use Rattle.to_word.proofs.Written.{denied_length, denied, stated, written}
use Rattle.to_word.proofs.write.Goals as goal

pub returns-in_default : goal.returns-in_default
returns-in_default c = (denied_length c.args.sheet.now c.args.word.now c.in_default.ensures.cases, bytes_below _ c.type_inv.sheet)

pub returns-in_err-counts : goal.returns-in_err-counts
returns-in_err-counts c =
    let a = c.args in
    let p = err_from_is_err_and c.from_residual.result c.from_residual.ensures.1 in
    let same = c.in-Some.ensures.cases in
    rw (p.1, p.2) (denied a.sheet.now a.word.now same.long _ same.same c.in_err-counts.ensures.0, c.in_err-counts.ensures.1)

pub lay-requires : goal.lay-requires
lay-requires c = let n = c.in_ok-counts.counts in stated c.args.sheet.now n.p n.s n.d c.in_ok-counts.ensures.0

pub returns : goal.returns
returns c =
    let a = c.args in
    let n = c.in_ok-counts.counts in
    (written a.sheet.now a.word.now c.in-Some.ensures.cases.long n.p n.s n.d c.in_ok-counts.ensures.0 _ c.lay.ensures, c.in_ok-counts.ensures.1)
