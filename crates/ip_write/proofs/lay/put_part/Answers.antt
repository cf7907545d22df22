-- `ip_write::lay::put_part` meets its contract. Assumes nothing.
use Prim.Native.Nat.{ℕ, ◌+◌, ◌-◌}
use mathlib.Core.Path.{◌≡◌, ap, ◌∙◌}
use native.Mathlib.Omega.{arith}
use lib.ListN.{take, drop}
use Rattle.byte_runs.specs.Runs.{copied}
use Rattle.ip_write.proofs.lay.put_part.Goals as goal

pub returns : goal.returns
returns c =
    let a = c.args in
    let e : a.from + a.n - a.from ≡ a.n = omega arith in
    c.copy.ensures ∙ ap (λ (k : ℕ). copied (take k (drop a.from a.queue.now)) a.payload.now a.at) e
