-- `header::header_of` meets its contract. Assumes nothing.
use mathlib.Core.Path.{◌≡◌}
use native.Mathlib.Omega.{arith}
use lib.Dec.{eqb}
use Rattle.ground.specs.Choice.{choose}
use Rattle.bits.proofs.Places.{field_lt}
use Rattle.infoword.specs.Suffix.{id_of, kind_of, version_of, rfu_of, address_of}
use Rattle.fields.specs.Report.{holding_of, header_of}
use Rattle.header.proofs.header_of.Goals as goal

pub overflow_cast-result : goal.overflow_cast-result
overflow_cast-result c = omega (arith, c.field.ensures, field_lt c.args.word.now 12260 8 (omega arith))

pub overflow_cast-result-2 : goal.overflow_cast-result-2
overflow_cast-result-2 c = omega (arith, c.field-kind.ensures, field_lt c.args.word.now 12268 3 (omega arith))

pub overflow_cast-result-3 : goal.overflow_cast-result-3
overflow_cast-result-3 c = omega (arith, c.field-2.ensures, field_lt c.args.word.now 12271 3 (omega arith))

pub returns : goal.returns
unfolding header_of
returns c =
    let w = c.args.word.now in
    let rfu : c.rfu_of.result ≡ rfu_of w = c.rfu_of.ensures in
    let id : c.field.result ≡ id_of w = c.field.ensures in
    let kind : c.field-kind.result ≡ kind_of w = c.field-kind.ensures in
    let version : c.field-2.result ≡ version_of w = c.field-2.ensures in
    let parity : c.parity_of.result ≡ holding_of w = c.parity_of.ensures in
    let address : c.address_of.result ≡ choose (eqb c.field-kind.result 3) (address_of w) 0 = c.address_of.ensures.0 in
    cc (rfu, id, kind, version, parity, address)
