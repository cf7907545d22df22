-- `records::pipe_at` meets its contract. Assumes nothing.
use Prim.Native.Nat.{◌+◌, ◌*◌}
use native.Mathlib.Omega.{arith}
use Rattle.records.proofs.Fields.{read_lt, pipe_read}
use Rattle.records.proofs.pipe_at.Goals as goal

pub own-requires : goal.own-requires
own-requires c = let a = c.args in read_lt a.w.now (a.at + 48 * a.k + 16) 5 (omega arith) c.field-2.ensures

pub own-requires-2 : goal.own-requires-2
own-requires-2 c = let a = c.args in let h = read_lt a.w.now (a.at + 48 * a.k + 21) 3 (omega arith) c.field-3.ensures in omega arith

pub returns : goal.returns
returns c =
    let a = c.args in
    pipe_read a.w.now a.at a.k c.field.ensures c.field-width.ensures
    c.field-2.ensures c.field-3.ensures c.own.ensures c.own-2.ensures
