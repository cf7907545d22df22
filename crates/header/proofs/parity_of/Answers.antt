-- `header::parity_of` meets its contract. Assumes nothing.
use mathlib.Core.Bool.{true, false}
use mathlib.Core.Path.{◌≡◌, refl, ap, ◌∙◌}
use mathlib.Core.Logic.{inl, inr}
use native.Mathlib.Omega.{arith}
use Rattle.infoword.specs.Suffix.{has_parity, kind_of}
use Rattle.infoword.specs.Types.{stream_type}
use Rattle.infoword.specs.declared.StreamType.TheVariants.{TransportStream, IpStream}
use Rattle.infoword.proofs.Types.{number_of}
use Rattle.infoword.proofs.Closing.{has_not}
use Rattle.fields.specs.Report.{holding_of}
use Rattle.header.proofs.parity_of.Goals as goal

pub returns-in-TransportStream : goal.returns-in-TransportStream
unfolding holding_of
returns-in-TransportStream c =
    let k = kind_of c.args.word.now in
    let has : has_parity k ≡ true = elim c.in-TransportStream.is [
      | inl e ↦ let two : k ≡ 2 = omega (arith, number_of k c.args.stream TransportStream c.requires e) in ap has_parity two
      | inr e ↦ let three : k ≡ 3 = omega (arith, number_of k c.args.stream IpStream c.requires e) in ap has_parity three
    ] in
    simp has c.held.ensures

pub returns-in_default : goal.returns-in_default
unfolding holding_of
returns-in_default c =
    let k = kind_of c.args.word.now in
    let not-2 : k ≡ 2 → ⊥ = λ e. c.in_default.not-TransportStream (c.requires ∙ ap stream_type e) in
    let not-3 : k ≡ 3 → ⊥ = λ e. c.in_default.not-IpStream (c.requires ∙ ap stream_type e) in
    let none : has_parity k ≡ false = has_not k not-2 not-3 in
    simp none refl
