-- `interleaver::gather::Pairs::put_row` meets its contract. Assumes nothing.
use Prim.Native.Nat.{◌+◌, ◌*◌, ◌/◌, ◌%◌}
use mathlib.Core.Path.{sym, ◌∙◌, subst}
use mathlib.Core.Bool.{Bool}
use native.Mathlib.Omega.{arith}
use Rattle.wide.specs.Held.{Put}
use Rattle.wide.proofs.Widens.{wide_put}
use Rattle.interleaver.specs.Inside.{row_value, row_width}
use Rattle.interleaver.proofs.gather.Pairs.put_row.Goals as goal

pub returns-then-is_short : goal.returns-then-is_short
returns-then-is_short c =
    let a = c.args in
    subst (λ (t : Bool). Put (row_value t a.v) (row_width t) a.out.now a.s c.put.new.out c.put.result)
    (sym c.if-is_short.true ∙ c.is_short.ensures)
    (wide_put (a.v / 4 * 2 + a.v % 2) 23 a.out.now a.s c.put.result c.put.new.out c.requires.1 (omega arith) (omega arith) (omega arith) c.put.ensures)

pub returns : goal.returns
returns c =
    let a = c.args in
    subst (λ (t : Bool). Put (row_value t a.v) (row_width t) a.out.now a.s c.put-2.new.out c.put-2.result)
    (sym c.if-is_short.false ∙ c.is_short.ensures)
    (wide_put a.v 24 a.out.now a.s c.put-2.result c.put-2.new.out c.requires.1 (omega arith) c.requires.2 (omega arith) c.put-2.ensures)
