-- `forms::judge::top_set` meets its contract. Assumes nothing.
use Rattle.std.proofs.Common.{rules, tests, refl, ◌+◌, ◌*◌, ◌∙◌, arith}
use Rattle.std.proofs.lemmas.Iterator.{YieldsList-from_range}
use Rattle.std.proofs.lemmas.Iterator.Search.{any_from_yields_List}
use Rattle.bits.specs.Places.{field_at, fields_at}
use Rattle.description.specs.Tests.{is_set, any_set}
use Rattle.views.proofs.Rows.{any_tab}
use Rattle.forms.proofs.judge.top_set.Goals as goal

pub returns : goal.returns
unfolding any_set fields_at
returns c =
    let a = c.args in
    any_from_yields_List (λ k. is_set (field_at a.sheet.now (a.at + 16 * k) 4)) _ _ _ c.any.ensures.ran
    (YieldsList-from_range 0 a.d a.d refl (omega arith)) (λ x b q k. search (rules, tests)) ∙ any_tab is_set (λ k. field_at a.sheet.now (a.at + 16 * k) 4) 0 a.d
