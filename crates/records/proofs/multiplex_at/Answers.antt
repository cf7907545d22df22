-- `records::multiplex_at` meets its contract. Assumes nothing.
use Prim.Native.Nat.{◌+◌}
use native.Mathlib.Omega.{arith}
use Rattle.records.proofs.Fields.{read_lt, multiplex_read}
use borrow.Author.Rules.{rules}
use Rattle.records.proofs.multiplex_at.Goals as goal

pub overflow_cast-result : goal.overflow_cast-result
overflow_cast-result c = let a = c.args in let h = read_lt a.w.now (a.at + 52) 4 (omega arith) c.field-4.ensures in search (rules, h)

pub returns : goal.returns
returns c =
    let a = c.args in
    multiplex_read a.w.now a.at c.field.ensures c.field-2.ensures c.field-3.ensures c.field-4.ensures
