-- `patterns::code_length` meets its contract. Assumes nothing.
use Prim.Native.Nat.{ℕ, ◌+◌, ◌*◌, ◌/◌}
use mathlib.Core.Path.{sym, ap, ◌∙◌}
use borrow.Author.Tests.{le-ltb}
use Rattle.ground.proofs.Choice.{choose_false}
use Rattle.patterns.proofs.Rates.{length_units}
use Rattle.patterns.proofs.code_length.Goals as goal

pub returns-then-n-le-PAYLOAD_BLOCK : goal.returns-then-n-le-PAYLOAD_BLOCK
returns-then-n-le-PAYLOAD_BLOCK c =
    let a = c.args in
    ap (λ (x : ℕ). (a.n + 6) * x / 6) c.units.ensures ∙ sym (choose_false _ _ (le-ltb 12282 a.n c.if-n-le-PAYLOAD_BLOCK.true) ∙ length_units a.pattern a.n)
