-- `sheets::owned::places_of` meets its contract. Assumes nothing.
use Rattle.sheets.proofs.Owning.{apart_small, places_are}
use borrow.Author.Rules.{rules}
use Rattle.sheets.proofs.owned.places_of.Goals as goal

pub overflow_mul-result-3 : goal.overflow_mul-result-3
overflow_mul-result-3 c =
    let a = c.args.v.apart in
    let h = apart_small a c.owned_at-own.result.d (search rules) (search rules) in
    let k = apart_small a c.owned_at-own.result.s (search rules) (search rules) in
    search (rules, h, k)

pub overflow_add-result-3 : goal.overflow_add-result-3
overflow_add-result-3 c =
    let a = c.args.v.apart in
    let h = apart_small a c.owned_at-own.result.d (search rules) (search rules) in
    let k = apart_small a c.owned_at-own.result.s (search rules) (search rules) in
    search (rules, h, k)

pub returns : goal.returns
returns c =
    let a = c.args in
    places_are a.w.now a.v a.k c.owned_at-own.result c.owned_at-own.ensures
