-- `faults::any_width_wrong` meets its contract. Assumes nothing.
use Rattle.std.proofs.Common.{rules, tests, refl, ◌∙◌, arith}
use Rattle.std.proofs.lemmas.Iterator.{YieldsList-from_range}
use Rattle.std.proofs.lemmas.Iterator.Search.{any_from_yields_List}
use Rattle.records.specs.Records.{pipe_at}
use Rattle.faults.proofs.Searches.{wide, widths}
use Rattle.faults.proofs.any_width_wrong.Goals as goal

pub returns : goal.returns
returns c =
    let a = c.args in
    any_from_yields_List (λ i. wide (pipe_at a.w.now a.at i)) _ _ _ c.any.ensures.ran
    (YieldsList-from_range 0 a.p a.p refl (omega arith)) (λ x b q k. search (rules, tests)) ∙ widths a.w.now a.at a.p
