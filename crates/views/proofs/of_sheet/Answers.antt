-- `views::of_sheet` meets its contract. Assumes nothing.
use Rattle.views.proofs.Views.{sheet_viewed}
use Rattle.views.proofs.of_sheet.Goals as goal

pub returns : goal.returns
returns c = rw (c.from-multiplex.ensures, c.from.ensures, c.from-2.ensures) (sheet_viewed c.args.h c.args.p c.args.s)
