-- `rows::Row::pair` meets its contract. Assumes nothing.
use Prim.Native.Nat.{ℕ, ◌+◌, ◌*◌, ◌%◌}
use mathlib.Core.Path.{ap, ◌∙◌}
use native.Mathlib.Omega.{arith}
use borrow.Author.Rules.{rules}
use lib.ListN.{get_or}
use Rattle.rows.specs.Inside.{pair_at}
use Rattle.rows.proofs.Columns.{segment_fits, column_fits, place_in}
use Rattle.rows.proofs.Row.pair.Goals as goal

pub overflow_mul-reversed : goal.overflow_mul-reversed
overflow_mul-reversed c = let r = c.args.self.now in omega (arith, segment_fits r.size c.args.t c.reversed.result r.some r.most c.requires.0 c.reversed.ensures)

pub overflow_add-reversed : goal.overflow_add-reversed
overflow_add-reversed c = let r = c.args.self.now in record { fits = column_fits r.size c.args.t c.reversed.result r.some r.most c.requires.0 c.reversed.ensures _ }

pub bounds-self-reversed : goal.bounds-self-reversed
bounds-self-reversed c =
    let r = c.args.self.now in
    omega (arith, r.len, place_in r.size c.args.t c.reversed.result r.some r.most c.requires.0 c.reversed.ensures (r.j * c.args.entry))

pub returns : goal.returns
unfolding pair_at
returns c =
    let r = c.args.self.now in
    (c.from.ensures ∙ ap (λ (y : ℕ). get_or r.d.now (y * r.size + r.j * c.args.entry % r.size) 0) c.reversed.ensures, search rules)
