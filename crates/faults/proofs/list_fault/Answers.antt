-- `faults::list_fault` meets its contract: found is what the three tests found. Assumes nothing.
use Rattle.std.proofs.Common.{rules}
use Rattle.faults.proofs.Searches.{judged_is}
use Rattle.faults.proofs.list_fault.Goals as goal

pub returns-then-wide : goal.returns-then-wide
returns-then-wide c =
    let a = c.args in
    let found = judged_is a.w.now a.v a.p a.s c.any_width_wrong-wide.ensures c.any_taps_wrong-untapped.ensures c.id_twice-twice.ensures in
    search rules

pub returns-then-untapped : goal.returns-then-untapped
returns-then-untapped c =
    let a = c.args in
    let found = judged_is a.w.now a.v a.p a.s c.any_width_wrong-wide.ensures c.any_taps_wrong-untapped.ensures c.id_twice-twice.ensures in
    search rules

pub returns-then-twice : goal.returns-then-twice
returns-then-twice c =
    let a = c.args in
    let found = judged_is a.w.now a.v a.p a.s c.any_width_wrong-wide.ensures c.any_taps_wrong-untapped.ensures c.id_twice-twice.ensures in
    search rules

pub returns : goal.returns
returns c =
    let a = c.args in
    let found = judged_is a.w.now a.v a.p a.s c.any_width_wrong-wide.ensures c.any_taps_wrong-untapped.ensures c.id_twice-twice.ensures in
    search rules
