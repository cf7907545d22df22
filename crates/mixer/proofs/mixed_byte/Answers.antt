-- `mixer::mixed_byte` meets its contract: after i bits the number is that of the i bits, and the next one's place is known. Assumes nothing.
use Prim.Native.Nat.{ℕ, ◌+◌, ◌*◌, ◌%◌}
use mathlib.Core.Path.{◌≡◌, refl, sym, ap, ap₂, ◌∙◌}
use native.Mathlib.Nat.{zero-add}
use native.Mathlib.Omega.{arith}
use lib.ListN.{length}
use Rattle.bits.specs.Places.{bit_at, number}
use Rattle.bits.proofs.Places.{bit_lt, number_more, number_lt}
use Rattle.mixer.proofs.Round.{step_more, steps_none}
use Rattle.mixer.proofs.mixed_byte.Goals as goal

pub loop-init : goal.loop-init
unfolding number
loop-init c =
    let a = c.args in
    let len = 8 * length a.codeword.now in
    (refl, omega arith, steps_none a.at a.inc len c.requires.1, c.requires.1)

pub loop-preserved : goal.loop-preserved
unfolding bit_at
loop-preserved c =
    let l = c.loop in
    let a = c.args in
    let len = 8 * length a.codeword.now in
    let f : (ℕ → ℕ) = λ k. bit_at a.codeword.now ((a.at + a.inc * k) % len) in
    let b : bit_at a.codeword.now l.from ≡ f (0 + l.counter) = ap (bit_at a.codeword.now) l.invariant.2 ∙ ap f (sym (zero-add l.counter)) in
    let e : l.v * 2 + bit_at a.codeword.now l.from ≡ number f 0 (l.counter + 1) = ap₂ (λ (x y : ℕ). x * 2 + y) l.invariant.0 b ∙ sym (number_more f 0 l.counter) in (
      e,
      rw e (number_lt f (λ k. bit_lt a.codeword.now ((a.at + a.inc * k) % len)) 0 (l.counter + 1)),
      c.onward-from.ensures.0 ∙ ap (λ (x : ℕ). (x + a.inc) % len) l.invariant.2 ∙ step_more a.at a.inc l.counter len,
      c.onward-from.ensures.1,
    )
