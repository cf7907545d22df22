-- `puncturing::entry_from` meets its contract. Assumes nothing.
use mathlib.Core.Path.{sym, ◌∙◌}
use borrow.Author.Tests.{lt-ltb, le-ltb}
use Rattle.ground.proofs.Choice.{choose_true}
use Rattle.puncturing.specs.Inside.{entry_from}
use Rattle.puncturing.proofs.entry_from.Goals as goal

pub returns-then-j-lt12 : goal.returns-then-j-lt12
unfolding entry_from
returns-then-j-lt12 c = c.spaced.ensures ∙ sym (choose_true _ _ (lt-ltb _ _ c.if-j-lt12.true))

pub returns-then-j-lt15 : goal.returns-then-j-lt15
unfolding entry_from
returns-then-j-lt15 c = simp (le-ltb _ _ c.if-j-lt12.false, lt-ltb _ _ c.if-j-lt15.true)

pub returns : goal.returns
unfolding entry_from
returns c = simp (le-ltb _ _ c.if-j-lt12.false, le-ltb _ _ c.if-j-lt15.false)
