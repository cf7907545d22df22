-- `views::of_word` meets its contract. Assumes nothing.
use Rattle.views.proofs.Views.{word_viewed}
use Rattle.views.proofs.of_word.Goals as goal

pub returns : goal.returns
returns c = rw (c.from.ensures, c.from-2.ensures) (word_viewed c.args.p c.args.s)
