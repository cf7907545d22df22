-- `ip_write::put_progress` meets its contract. Assumes nothing.
use mathlib.Core.Path.{ap₂, ◌∙◌}
use mathlib.Core.List.{List, ◌++◌}
use Prim.Native.Nat.{ℕ}
use lib.ListN.{drop}
use borrow.Rule.Slice.PartMut.{put_mid}
use Rattle.ip_write.proofs.Closes.{eight}
use Rattle.ip_write.proofs.put_progress.Goals as goal

pub returns : goal.returns
returns c =
    let l = c.args.progress.now in
    ap₂ (λ (x y : List ℕ). put_mid 4 4 (x ++ drop 4 l) y)
    (c.copy_from_slice.ensures.after ∙ c.to_be_bytes.ensures) (c.copy_from_slice-2.ensures.after ∙ c.to_be_bytes-2.ensures)
    ∙ eight l c.args.p.done c.args.p.sent c.told-progress
