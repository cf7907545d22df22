-- `words::byte` meets its contract. Assumes nothing.
use mathlib.Core.List.{[], ◌∷◌}
use borrow.Author.Rules.{rules}
use Rattle.words.proofs.Puts.{put_one, put_past}
use Rattle.words.proofs.byte.Goals as goal

pub returns-then-at-out : goal.returns-then-at-out
returns-then-at-out c = let a = c.args in put_one a.out.now a.at a.b c.if-at-out.true

pub returns : goal.returns
returns c = let a = c.args in put_past a.out.now a.at (a.b ∷ []) (search rules)
