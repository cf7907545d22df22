-- `forms::judge::record_fault` meets its contract. Assumes nothing.
use Rattle.std.proofs.Common.{rules}
use Rattle.forms.proofs.Counts.{above, fault_is}
use Rattle.forms.proofs.judge.record_fault.Goals as goal

pub overflow_sub-v : goal.overflow_sub-v
overflow_sub-v c = let a = c.args in above a.h a.counts.p a.counts.s _ c.of_sheet-v.ensures

pub returns-then-top_set : goal.returns-then-top_set
returns-then-top_set c =
    let n = c.args.counts in
    let e = fault_is c.args.h n.p n.s n.d c.args.sheet.now _ c.of_sheet-v.ensures in
    search rules

pub returns-then-multiplex_at-ne0 : goal.returns-then-multiplex_at-ne0
returns-then-multiplex_at-ne0 c =
    let n = c.args.counts in
    let e = fault_is c.args.h n.p n.s n.d c.args.sheet.now _ c.of_sheet-v.ensures in
    search rules

pub returns-then-counts_differ : goal.returns-then-counts_differ
returns-then-counts_differ c =
    let n = c.args.counts in
    let e = fault_is c.args.h n.p n.s n.d c.args.sheet.now _ c.of_sheet-v.ensures in
    search rules

pub returns-then-lists_end-gt-SIGNALLING_LISTS : goal.returns-then-lists_end-gt-SIGNALLING_LISTS
returns-then-lists_end-gt-SIGNALLING_LISTS c =
    let n = c.args.counts in
    let e = fault_is c.args.h n.p n.s n.d c.args.sheet.now _ c.of_sheet-v.ensures in
    search rules

pub returns : goal.returns
returns c =
    let n = c.args.counts in
    let e = fault_is c.args.h n.p n.s n.d c.args.sheet.now _ c.of_sheet-v.ensures in
    search rules
