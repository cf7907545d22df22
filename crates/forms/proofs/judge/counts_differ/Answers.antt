-- `forms::judge::counts_differ` meets its contract. Assumes nothing.
use Rattle.std.proofs.Common.{rules}
use Rattle.sheets.proofs.Owning.{owned_small, tail_small}
use Rattle.forms.proofs.Counts.{count_is}
use Rattle.forms.proofs.judge.counts_differ.Goals as goal

pub overflow_add-own : goal.overflow_add-own
overflow_add-own c =
    let a = c.args in
    let h = owned_small a.sheet.now a.v.pipes a.counts.p _ c.owned_at-own.ensures in
    let t = tail_small a.sheet.now a.v.tail c.tail_owned_at.ensures in
    search (rules, h.0, t)

pub returns-then-counts-own : goal.returns-then-counts-own
returns-then-counts-own c =
    let a = c.args in
    let e = count_is a.sheet.now a.v a.counts.p a.counts.s a.counts.d in
    search rules

pub returns-else-counts-own : goal.returns-else-counts-own
returns-else-counts-own c =
    let a = c.args in
    let e = count_is a.sheet.now a.v a.counts.p a.counts.s a.counts.d in
    search rules
