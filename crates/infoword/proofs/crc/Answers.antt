-- `infoword::crc` meets its contract. Assumes nothing.
use mathlib.Core.Path.{◌≡◌, sym, ap, ◌∙◌}
use Rattle.crc.specs.Crc.{crc8_of}
use Rattle.infoword.specs.Suffix.{has_parity, kind_of}
use Rattle.infoword.proofs.Closing.{covered_long, covered_short, crc_over}
use Rattle.infoword.proofs.crc.Goals as goal

pub returns-then-has_parity : goal.returns-then-has_parity
returns-then-has_parity c =
    let told : c.has_parity.result ≡ has_parity (kind_of c.args.word.now) = c.has_parity.ensures ∙ ap has_parity c.field.ensures in
    let w = c.args.word.now in
    let e : c.crc8.result ≡ crc8_of w 12228 46 = c.crc8.ensures in
    e ∙ crc_over w 46 (covered_long (kind_of w) (sym (told) ∙ c.if-has_parity.true))

pub returns : goal.returns
returns c =
    let told : c.has_parity.result ≡ has_parity (kind_of c.args.word.now) = c.has_parity.ensures ∙ ap has_parity c.field.ensures in
    let w = c.args.word.now in
    let e : c.crc8-2.result ≡ crc8_of w 12256 18 = c.crc8-2.ensures in
    e ∙ crc_over w 18 (covered_short (kind_of w) (sym (told) ∙ c.if-has_parity.false))
