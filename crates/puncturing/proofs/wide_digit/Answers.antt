-- `puncturing::wide_digit` meets its contract. Assumes nothing.
use Prim.Native.Nat.{ℕ, ◌-◌, ◌*◌, ◌/◌, ◌%◌, ◌^◌}
use mathlib.Core.Path.{ap, ◌∙◌}
use Rattle.patterns.specs.Rows.{digit}
use Rattle.puncturing.proofs.Packed.{eights}
use Rattle.puncturing.proofs.wide_digit.Goals as goal

pub returns : goal.returns
unfolding digit
returns c =
    let a = c.args in
    ap (λ (m : ℕ). a.group / 2 ^ (3 * m) % 8) c.saturating_sub.ensures ∙ ap (λ (x : ℕ). a.group / x % 8) (eights (4 - a.s))
