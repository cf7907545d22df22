-- `pairs::Spread::of` meets its contract. Assumes nothing.
use Prim.Native.Nat.{ℕ, ◌≤◌}
use mathlib.Core.Path.{◌≡◌, ap, sym, ◌∙◌, subst}
use native.Mathlib.Omega.{arith}
use lib.ListN.{get_or}
use Rattle.pairs.specs.Inside.{spread}
use Rattle.pairs.proofs.Spreading.{spread_most}
use Rattle.pairs.proofs.Spread.of.Goals as goal

pub returns : goal.returns
returns c =
    let t = c.args.self.now in
    let e : get_or t.table c.from.result 0 ≡ spread c.args.b = ap (λ (i : ℕ). get_or t.table i 0) c.from.ensures ∙ t.entries c.args.b (omega arith) in
    (e, subst (λ (x : ℕ). x ≤ 0x0101_0101_0101_0101) (sym e) (spread_most c.args.b (omega arith)))
