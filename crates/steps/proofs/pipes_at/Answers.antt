-- `steps::pipes_at` meets its contract. Assumes nothing.
use native.Mathlib.Omega.{arith}
use Rattle.records.proofs.Fields.{read_lt}
use borrow.Author.Rules.{rules}
use Rattle.steps.proofs.pipes_at.Goals as goal

pub overflow_cast-result : goal.overflow_cast-result
overflow_cast-result c = let a = c.args in let h = read_lt a.word.now a.at 4 (omega arith) c.field.ensures in search (rules, h)
