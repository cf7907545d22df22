-- `mixer::mix_bits` meets its contract: after k bytes each has its eight bits, and the next one's place is known. Assumes nothing.
use Prim.Native.Nat.{ℕ, ◌+◌, ◌*◌, ◌%◌}
use mathlib.Core.Path.{ap, ◌∙◌}
use native.Mathlib.Omega.{arith}
use lib.ListN.{length}
use Rattle.ground.proofs.Fill.{fill_more}
use Rattle.bits.specs.Places.{bit_at, number}
use Rattle.bits.proofs.Places.{packed_ext}
use Rattle.mixer.specs.Mixer.{mixed_from}
use Rattle.mixer.proofs.Round.{byte_more, byte_is}
use Rattle.mixer.proofs.mix_bits.Goals as goal

pub loop-byte-preserved : goal.loop-byte-preserved
loop-byte-preserved c =
    let l = c.loop-byte in
    let a = c.args in
    let len = 8 * length a.codeword.now in
    let f : (ℕ → ℕ) = λ i. bit_at a.codeword.now (mixed_from a.inc len i) in
    let v : ℕ = c.mixed_byte.result in (
      fill_more (λ j. number f (8 * j) 8) 0 l.out l.byte-index v (omega arith) (c.mixed_byte.ensures ∙ byte_is a.codeword.now a.inc len l.byte-index l.at l.invariant.1) l.invariant.0,
      c.onward-at.ensures.0 ∙ ap (λ (x : ℕ). (x + 8 * a.inc) % len) l.invariant.1 ∙ byte_more a.inc l.byte-index len,
      c.onward-at.ensures.1,
    )

pub returns : goal.returns
returns c =
    let l = c.loop-byte in
    let a = c.args in
    let len = 8 * length a.codeword.now in
    packed_ext (λ i. bit_at a.codeword.now (mixed_from a.inc len i)) l.out (length a.out.now) (omega arith) (λ j h. l.invariant.0 j (omega arith))
