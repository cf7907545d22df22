-- `views::lists_end` meets its contract. Assumes nothing.
use native.Mathlib.Omega.{arith}
use Rattle.views.proofs.Views.{word_places}
use borrow.Author.Rules.{rules}
use Rattle.views.proofs.lists_end.Goals as goal

pub overflow_add-result : goal.overflow_add-result
overflow_add-result c = let n = c.args.counts in let v = word_places n.p n.s _ c.of_word.ensures in search (rules, v.sections, v.streams)

pub returns : goal.returns
returns c = let n = c.args.counts in omega (arith, (word_places n.p n.s _ c.of_word.ensures).sections)
