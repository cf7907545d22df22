-- `pipe_lines::tail` meets its contract. Assumes nothing.
use Rattle.words.proofs.Puts.{put_same}
use Rattle.pipe_lines.proofs.Lined.{tail_unused, tail_used}
use Rattle.pipe_lines.proofs.tail.Goals as goal

pub returns-then-width-eq0 : goal.returns-then-width-eq0
returns-then-width-eq0 c =
    let a = c.args in
    put_same a.out.now a.to (tail_unused a.sheet.now a.at c.tail_at-width.ensures c.if-width-eq0.true) c.line.ensures

pub returns : goal.returns
returns c =
    let a = c.args in
    put_same a.out.now a.to (tail_used a.sheet.now a.at c.tail_at-width.ensures c.if-width-eq0.false) c.line-2.ensures
