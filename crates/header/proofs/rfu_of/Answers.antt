-- `header::rfu_of` meets its contract. Assumes nothing.
use Prim.Native.Nat.{ℕ, ◌-◌}
use mathlib.Core.Path.{◌≡◌, sym, ap, ◌∙◌}
use mathlib.Core.List.{List}
use native.Mathlib.Omega.{arith}
use Rattle.bits.specs.Places.{field_at}
use Rattle.infoword.specs.Suffix.{kind_of, lead_bits, rfu_bits, rfu_of}
use Rattle.infoword.specs.Types.{stream_type}
use Rattle.infoword.specs.declared.StreamType.TheVariants.{TransportStream, IpStream}
use Rattle.infoword.proofs.Types.{number_of}
use Rattle.infoword.proofs.Closing.{has_not}
use Rattle.infoword.proofs.Ending.{lead_short, rfu_of_other}
use Rattle.header.proofs.rfu_of.Goals as goal

-- where it stands in a word of a type
rfu_at : (w : List ℕ) (k : ℕ) → kind_of w ≡ k → field_at w (12260 - lead_bits k) (rfu_bits k) ≡ rfu_of w
unfolding rfu_of
rfu_at w k e = ap (λ (x : ℕ). field_at w (12260 - lead_bits x) (rfu_bits x)) (sym e)

pub returns-in-IpStream : goal.returns-in-IpStream
unfolding rfu_bits lead_bits
returns-in-IpStream c =
    let k = kind_of c.args.word.now in
    let three : k ≡ 3 = omega (arith, number_of k c.args.stream IpStream c.requires c.in-IpStream.is) in
    c.field.ensures ∙ rfu_at c.args.word.now 3 three

pub returns-in-TransportStream : goal.returns-in-TransportStream
unfolding rfu_bits lead_bits
returns-in-TransportStream c =
    let k = kind_of c.args.word.now in
    let two : k ≡ 2 = omega (arith, number_of k c.args.stream TransportStream c.requires c.in-TransportStream.is) in
    c.field-in-TransportStream.ensures ∙ rfu_at c.args.word.now 2 two

pub returns-in_default : goal.returns-in_default
returns-in_default c =
    let w = c.args.word.now in
    let not-2 : kind_of w ≡ 2 → ⊥ = λ e. c.in_default.not-TransportStream (c.requires ∙ ap stream_type e) in
    let not-3 : kind_of w ≡ 3 → ⊥ = λ e. c.in_default.not-IpStream (c.requires ∙ ap stream_type e) in
    let lead : lead_bits (kind_of w) ≡ 4 = lead_short (kind_of w) (has_not (kind_of w) not-2 not-3) in
    c.field-in_default.ensures ∙ ap (λ (r : ℕ). field_at w (12260 - r) r) (sym lead) ∙ sym (rfu_of_other w not-3)
