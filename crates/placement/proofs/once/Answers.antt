-- `placement::once` meets its contract. Assumes nothing.
use mathlib.Core.Path.{ap, ap₂, ◌∙◌}
use mathlib.Core.List.{[], ◌∷◌}
use native.Mathlib.Omega.{arith}
use lib.IntN.{ℤ, ◌*ℤ◌}
use lib.ListN.{take}
use mir.Syntax.{w16}
use mir.Val.{of_z, to_z}
use Rattle.placement.specs.Place.{held}
use Rattle.held.proofs.Sums.{byte_back, word_back}
use Rattle.placement.proofs.Sums.{product_is, once_mag}
use Rattle.placement.proofs.once.Goals as goal

pub returns : goal.returns
returns c =
    let v : ℤ = c.args.value in
    let h = c.ranges.value.sfits in
    let e = ap₂ ◌*ℤ◌ (word_back c.from.result c.from.type_inv ∙ c.from.ensures ∙ byte_back v h) (word_back c.from-2.result c.from-2.type_inv ∙ c.from-2.ensures) ∙ product_is v c.args.n c.requires in
    ap (λ (z : ℤ). to_z w16 (of_z w16 z)) e ∙ word_back (held (take c.args.n (v ∷ []))) (omega (arith, once_mag v c.args.n h c.requires))
