-- `pairs::store` meets its contract. Assumes nothing.
use mathlib.Core.Path.{ap, ◌∙◌}
use mathlib.Core.List.{List}
use Prim.Native.Nat.{ℕ}
use native.Mathlib.Omega.{arith}
use lib.ListN.{get_or}
use Rattle.pairs.proofs.Spreading.{stored_part, byte_of}
use Rattle.pairs.proofs.store.Goals as goal

pub returns : goal.returns
returns c =
    let copied = c.copy_from_slice.ensures in
    stored_part _ _ _ _ _ _ c.requires (omega arith) copied.len (λ k h. ap (λ (l : List ℕ). get_or l k 0) (copied.after ∙ c.to_le_bytes.ensures) ∙ byte_of 8 c.args.x k h)
