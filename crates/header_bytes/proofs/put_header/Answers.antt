-- `header_bytes::put_header` meets its contract: four runs of bytes in 16 zeros. Assumes nothing.
use Prim.Native.Nat.{ℕ}
use mathlib.Core.Path.{◌≡◌, sym, ap, ◌∙◌}
use borrow.Author.Tests.{ne_eqb}
use lib.ListN.{length, replicate}
use Rattle.ground.proofs.Choice.{choose_false}
use Rattle.std.specs.Int.{w16, w32, to_be_bytes}
use Rattle.header_bytes.specs.Bytes.{header_with, header_put}
use Rattle.header_bytes.proofs.Stores.{sixteen, header_put_lem}
use Rattle.header_bytes.proofs.put_header.Goals as goal

pub returns-then-out-ne-HEADER_BYTES : goal.returns-then-out-ne-HEADER_BYTES
unfolding header_put
returns-then-out-ne-HEADER_BYTES c =
    let a = c.args in
    sym (choose_false (header_with a.h a.handed) a.out.now (ne_eqb (length a.out.now) 16 (λ e. c.if-out-ne-HEADER_BYTES.true e)))

pub returns : goal.returns
returns c =
    let h = c.args.h in
    let n : length c.args.out.now ≡ 16 = c.if-out-ne-HEADER_BYTES.false in
    let zeros : c.fill.new.self ≡ replicate 16 0 = c.fill.ensures.after (λ y p. p) ∙ ap (λ (k : ℕ). replicate k 0) n in
    let rfu : c.copy_from_slice.new.self ≡ to_be_bytes w32 h.rfu = c.copy_from_slice.ensures.after ∙ c.to_be_bytes.ensures in
    let address : c.copy_from_slice-3.new.self ≡ to_be_bytes w16 h.address = c.copy_from_slice-3.ensures.after ∙ c.to_be_bytes-2.ensures in
    let handed : c.copy_from_slice-4.new.self ≡ to_be_bytes w16 c.args.handed = c.copy_from_slice-4.ensures.after ∙ c.to_be_bytes-3.ensures in
    sixteen h c.args.handed _ _ _ _ _ zeros rfu c.copy_from_slice-2.ensures.after address handed ∙ sym (header_put_lem h c.args.handed c.args.out.now n)
