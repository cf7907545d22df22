-- `parts::more` meets its contract. Assumes nothing.
use Rattle.parity.proofs.Steps.{place_lt, run_lt, run_more}
use Rattle.parts.proofs.more.Goals as goal

pub bounds-table-k : goal.bounds-table-k
bounds-table-k c =
    let a = c.args in
    place_lt a.v c.byte.result (rw c.requires.1 (run_lt a.word.now a.from a.i)) c.byte.type_inv

pub returns : goal.returns
returns c =
    let a = c.args in
    run_more a.table.now a.word.now a.from a.i a.v c.byte.result c.requires.0 c.requires.1 c.byte.ensures c.byte.type_inv
