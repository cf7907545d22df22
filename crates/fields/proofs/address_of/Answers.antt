-- `fields::address_of` meets its contract. Assumes nothing.
use Prim.Native.Nat.{◌<◌}
use mathlib.Core.Path.{◌≡◌}
use native.Mathlib.Omega.{arith}
use borrow.Author.Tests.{eq-eqb}
use Rattle.bits.proofs.Places.{field_lt}
use Rattle.infoword.specs.declared.StreamType.TheVariants.{IpStream}
use Rattle.infoword.proofs.Types.{number_of}
use Rattle.fields.proofs.address_of.Goals as goal

pub returns-in-IpStream : goal.returns-in-IpStream
returns-in-IpStream c =
    let three : c.args.kind ≡ 3 = omega (arith, number_of c.args.kind c.from.result IpStream c.from.ensures c.in-IpStream.is) in
    let small : c.field.result < 4096 = omega (arith, c.field.ensures, field_lt c.args.word.now 12248 12 (omega arith)) in
    (simp (eq-eqb c.args.kind 3 three) c.field.ensures, small)
