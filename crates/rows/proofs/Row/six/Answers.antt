-- `rows::Row::six` meets its contract. Assumes nothing.
use Prim.Native.Nat.{ℕ}
use mathlib.Core.Path.{sym, ap, ◌∙◌}
use native.Mathlib.Nat.{add-zero}
use native.Mathlib.Omega.{arith}
use lib.ListN.{get_or}
use Rattle.rows.specs.Inside.{pair_at, six_of}
use Rattle.rows.proofs.Columns.{small_at, six_is}
use Rattle.rows.proofs.Row.six.Goals as goal

pub pair-requires-6 : goal.pair-requires-6
pair-requires-6 c = (omega arith, small_at c.args.entries c.requires.1 5)

pub returns : goal.returns
unfolding six_of
returns c =
    let a = c.args in
    let r = a.self.now in (
      six_is (six_of r.d.now r.size r.j a.t a.entries) c.pair.result c.pair-2.result c.pair-3.result c.pair-4.result c.pair-5.result c.pair-6.result
          (c.pair.ensures.0 ∙ ap (λ (t : ℕ). pair_at r.d.now r.size r.j t (get_or a.entries 0 0)) (sym (add-zero a.t)))
          c.pair-2.ensures.0 c.pair-3.ensures.0 c.pair-4.ensures.0 c.pair-5.ensures.0 c.pair-6.ensures.0,
      omega arith,
    )
