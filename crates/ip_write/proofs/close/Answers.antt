-- `ip_write::close` meets its contract. Assumes nothing.
use Prim.Native.Nat.{ℕ, ◌+◌, ◌*◌, ◌/◌, ◌%◌}
use mathlib.Core.Path.{ap₂, ◌∙◌}
use mathlib.Core.List.{List}
use native.Mathlib.Omega.{arith}
use lib.ListN.{set}
use Rattle.infoword.specs.Steps.{closing}
use Rattle.ip_write.proofs.Closes.{closes}
use Rattle.ip_write.proofs.close.Goals as goal

pub returns : goal.returns
returns c =
    let a = c.args in
    c.close.ensures
    ∙ ap₂ (λ (x : List ℕ) (i : ℕ). closing (set x 1531 (a.address / 16)) (a.address % 16 * 0x4000 + (i * 64 + 3 * 8))) c.put_parts.ensures c.from.ensures
    ∙ closes a.word.now a.id a.address c.told-word (omega (arith, c.ranges.id)) c.requires
