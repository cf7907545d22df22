-- `listing::main` meets its contract: what is written lies within the room. Assumes nothing.
use Rattle.std.proofs.Common.{sym, arith}
use lib.Seq.{length-take-le}
use Rattle.text.proofs.Listed.{told_short}
use Rattle.listing.proofs.main.Goals as goal

pub slice_bounds-out-end-in-Err-Refused : goal.slice_bounds-out-end-in-Err-Refused
slice_bounds-out-end-in-Err-Refused c =
    let f = c.in-Err-Refused in
    let h = told_short _ _ (rw f.field-0-is at f.ensures.0) in
    omega arith

pub slice_bounds-write_all-end-in-Err-Refused : goal.slice_bounds-write_all-end-in-Err-Refused
slice_bounds-write_all-end-in-Err-Refused c =
    let f = c.in-Err-Refused in
    let h = told_short _ _ (rw f.field-0-is at f.ensures.0) in
    sym (length-take-le f.n c.list.new.out (omega arith))

pub slice_bounds-out-end : goal.slice_bounds-out-end
slice_bounds-out-end c = let h = told_short _ _ c.in-Ok.ensures.0 in omega arith

pub slice_bounds-write_all-end : goal.slice_bounds-write_all-end
slice_bounds-write_all-end c =
    let h = told_short _ _ c.in-Ok.ensures.0 in
    sym (length-take-le c.in-Ok.n c.list.new.out (omega arith))
