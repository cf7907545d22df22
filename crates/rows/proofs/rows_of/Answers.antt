-- `rows::rows_of` meets its contract. Assumes nothing.
use mathlib.Core.Path.{sym, ◌∙◌}
use Rattle.bits.specs.Places.{number}
use Rattle.order.specs.Order.{entries9, entries5, entry}
use Rattle.order.specs.Rows.{row_address}
use Rattle.rows.specs.Spelt.{row_pair}
use Rattle.rows.specs.Inside.{pair_at, six_of}
use Rattle.rows.proofs.Columns.{both_by, parameter_long, parameter_short, rows_behind, rows_are, rows_none}
use Rattle.rows.proofs.rows_of.Goals as goal

pub returns-then-j-ge-PAYLOAD_ROWS : goal.returns-then-j-ge-PAYLOAD_ROWS
returns-then-j-ge-PAYLOAD_ROWS c = let a = c.args in sym (rows_behind a.n a.d.now a.j c.if-j-ge-PAYLOAD_ROWS.true)

pub returns-then-d : goal.returns-then-d
returns-then-d c = let a = c.args in sym (rows_none a.n a.d.now a.j c.if-j-ge-PAYLOAD_ROWS.false 9 (parameter_long a.n c.if-n-eq-PAYLOAD_BLOCK.true) c.if-d.true)

pub returns-then-n-eq-PAYLOAD_BLOCK : goal.returns-then-n-eq-PAYLOAD_BLOCK
unfolding number six_of pair_at row_pair row_address entry entries9
returns-then-n-eq-PAYLOAD_BLOCK c =
    let a = c.args in
    c.two.ensures
    ∙ both_by 9 a.d.now a.j _ _ _ _ c.six.ensures.0 c.six-then-n-eq-PAYLOAD_BLOCK.ensures.0 c.six-then-n-eq-PAYLOAD_BLOCK-2.ensures.0 c.six-then-n-eq-PAYLOAD_BLOCK-3.ensures.0
    ∙ sym (rows_are a.n a.d.now a.j c.if-j-ge-PAYLOAD_ROWS.false 9 (parameter_long a.n c.if-n-eq-PAYLOAD_BLOCK.true) c.if-d.false)

pub returns-then-d-2 : goal.returns-then-d-2
returns-then-d-2 c = let a = c.args in sym (rows_none a.n a.d.now a.j c.if-j-ge-PAYLOAD_ROWS.false 5 (parameter_short a.n c.if-n-eq-PAYLOAD_BLOCK.false) c.if-d-2.true)

pub returns : goal.returns
unfolding number six_of pair_at row_pair row_address entry entries5
returns c =
    let a = c.args in
    c.two-2.ensures
    ∙ both_by 5 a.d.now a.j _ _ _ _ c.six-2.ensures.0 c.six-3.ensures.0 c.six-4.ensures.0 c.six-5.ensures.0
    ∙ sym (rows_are a.n a.d.now a.j c.if-j-ge-PAYLOAD_ROWS.false 5 (parameter_short a.n c.if-n-eq-PAYLOAD_BLOCK.false) c.if-d-2.false)
