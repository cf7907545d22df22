-- `text::list` meets its contract. Assumes nothing.
use Rattle.std.proofs.Common.{ℕ, subst, rules}
use Rattle.ground.specs.Outcome.{Is}
use Rattle.sheets.proofs.Bytes.{bytes_below}
use Rattle.words.specs.Words.{put}
use Rattle.text.specs.Listing.{refused}
use Rattle.text.proofs.Listed.{no_room, accepted_put, refused_put}
use Rattle.text.proofs.list.Goals as goal

pub returns-then-out-lt-ROOM : goal.returns-then-out-lt-ROOM
returns-then-out-lt-ROOM c = (no_room c.args.sheet.now c.args.out.now (search rules), bytes_below _ c.type_inv.sheet)

pub returns-in-Ok : goal.returns-in-Ok
returns-in-Ok c =
    let a = c.args in
    let n = c.in-Ok.counts in
    (accepted_put a.sheet.now a.out.now (search rules) n.p n.s n.d c.in-Ok.ensures.0 c.lines.ensures, c.in-Ok.ensures.1)

pub returns-in-Err : goal.returns-in-Err
unfolding refused
returns-in-Err c =
    let a = c.args in
    let text = subst (λ (n : ℕ). Is (put a.out.now 0 (refused n)) c.line-n.result c.line-n.new.out) c.number.ensures c.line-n.ensures in
    (refused_put a.sheet.now a.out.now (search rules) _ c.in-Err.ensures.0 text, c.in-Err.ensures.1)
