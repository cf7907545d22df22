-- `lines::lines` meets its contract: the lines stand one behind the other. Assumes nothing.
use Rattle.description.specs.Sheet.{form1}
use Rattle.lines.proofs.Lined.{lines_put}
use Rattle.lines.proofs.lines.Goals as goal

pub returns : goal.returns
returns c =
    let a = c.args in
    let n = a.counts in
    lines_put a.out.now a.sheet.now c.of_sheet-v.result form1 n.p n.s n.d c.of_sheet-v.ensures c.multiplex_at-m.result c.multiplex_at-m.ensures
    c.line-to.ensures c.pipes-to.ensures c.tail-to.ensures c.line.ensures
