-- `profile::put` meets its contract. Assumes nothing.
use mathlib.Core.Path.{◌≡◌, sym, ◌∙◌}
use native.Mathlib.Omega.{arith}
use borrow.Author.Rules.{rules}
use lib.ListN.{length}
use lib.Seq.{length-take-le}
use Rattle.profile.proofs.Giving.{numbers_are}
use Rattle.profile.proofs.put.Goals as goal

pub slice_bounds-copy_from_slice-end-2 : goal.slice_bounds-copy_from_slice-end-2
slice_bounds-copy_from_slice-end-2 c = sym (length-take-le 32 c.args.out.now (omega arith))

pub copy_from_slice-requires : goal.copy_from_slice-requires
copy_from_slice-requires c =
    let long : length c.args.p.taps ≡ 32 = search rules in
    length-take-le 32 c.args.out.now (omega arith) ∙ sym long

pub returns : goal.returns
returns c =
    let long : length c.args.p.taps ≡ 32 = search rules in
    numbers_are c.args.p c.args.out.now long c.requires c.copy_from_slice.ensures.after
