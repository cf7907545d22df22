-- `held::of` meets its contract. Assumes nothing.
use mathlib.Core.Path.{ap, ◌∙◌}
use Rattle.held.specs.Held.{clip, held}
use Rattle.held.proofs.Sums.{byte_back, word_back}
use Rattle.held.proofs.of.Goals as goal

pub returns : goal.returns
unfolding held
returns c = byte_back c.clip.result c.clip.type_inv ∙ c.clip.ensures ∙ ap clip (word_back c.sum.result c.sum.type_inv ∙ c.sum.ensures)
