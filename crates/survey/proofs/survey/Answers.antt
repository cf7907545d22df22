-- `survey::survey` meets its contract. Assumes nothing.
use Rattle.std.proofs.Common.{rules, refl, ◌∙◌}
use Rattle.std.proofs.lemmas.Result.{err_from_is_err_and}
use borrow.Author.Tests.{ne_eqb}
use Rattle.ground.proofs.Refusals.{number_not_0}
use Rattle.survey.proofs.Surveys.{surveyed_is}
use Rattle.survey.proofs.survey.Goals as goal

pub returns-then-word-ne-SIGNALLING_WORD : goal.returns-then-word-ne-SIGNALLING_WORD
returns-then-word-ne-SIGNALLING_WORD c = let e = surveyed_is c.args.word.now _ refl _ refl in search rules

pub returns-then-any_set : goal.returns-then-any_set
returns-then-any_set c = let e = surveyed_is c.args.word.now _ refl _ refl in search rules

pub returns-then-sent-crc : goal.returns-then-sent-crc
returns-then-sent-crc c = let e = surveyed_is c.args.word.now _ refl _ refl in search rules

pub returns-then-t-ne0 : goal.returns-then-t-ne0
returns-then-t-ne0 c = let e = surveyed_is c.args.word.now _ c.tour-t.ensures _ refl in search rules

pub returns-then-end-gt-SIGNALLING_LISTS : goal.returns-then-end-gt-SIGNALLING_LISTS
returns-then-end-gt-SIGNALLING_LISTS c = let e = surveyed_is c.args.word.now _ c.tour-t.ensures _ refl in search rules

pub returns-then-any_set-2 : goal.returns-then-any_set-2
returns-then-any_set-2 c = let e = surveyed_is c.args.word.now _ c.tour-t.ensures _ refl in search rules

pub returns-in_err-list_fault : goal.returns-in_err-list_fault
returns-in_err-list_fault c =
    let p = err_from_is_err_and c.from_residual.result c.from_residual.ensures.1 in
    let e = surveyed_is c.args.word.now _ c.tour-t.ensures _ c.of_word.ensures in
    let m = c.in_err-list_fault.ensures in
    let f = ne_eqb _ 0 (λ z. number_not_0 _ (m ∙ z)) in
    rw (p.1, p.2) (search rules)

pub returns : goal.returns
returns c = let e = surveyed_is c.args.word.now _ c.tour-t.ensures _ c.of_word.ensures in search rules
