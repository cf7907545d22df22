-- `survey::any_set` meets its contract. Assumes nothing.
use Rattle.std.proofs.Common.{rules, tests, refl, ap, ◌-◌, ◌∙◌}
use Rattle.std.proofs.lemmas.Iterator.{YieldsList-from_range}
use Rattle.std.proofs.lemmas.Iterator.Search.{any_from_yields_List}
use Rattle.bits.specs.Places.{bit_at}
use Rattle.description.specs.Tests.{is_set, any_set}
use Rattle.views.proofs.Rows.{any_tab}
use Rattle.survey.proofs.Surveys.{bits_between}
use Rattle.survey.proofs.any_set.Goals as goal

pub returns : goal.returns
unfolding any_set
returns c =
    let a = c.args in
    any_from_yields_List (λ i. is_set (bit_at a.word.now i)) _ _ _ c.any.ensures.ran
    (YieldsList-from_range a.from a.to (a.to - a.from) refl refl) (λ x b q k. search (rules, tests))
    ∙ any_tab is_set (bit_at a.word.now) a.from (a.to - a.from) ∙ ap any_set (bits_between a.word.now a.from a.to c.requires.0 c.requires.1)
