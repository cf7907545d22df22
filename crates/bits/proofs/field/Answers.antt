-- `bits::field` meets its contract: after i bits the number is that of the i bits, and fits them. Assumes nothing.
use Prim.Native.Nat.{ℕ, ◌+◌, ◌*◌, ◌<◌}
use mathlib.Core.Path.{◌≡◌, sym, ap, ap₂, ◌∙◌}
use native.Mathlib.Omega.{arith}
use borrow.Author.Rules.{rules}
use borrow.Author.Tests.{lt-ltb}
use lib.Pow.{pow_mono}
use Rattle.bits.specs.Places.{bit_at, number, field_at}
use Rattle.bits.proofs.Places.{bit_lt, number_more, number_lt, field_is}
use Rattle.bits.proofs.field.Goals as goal

pub returns-then-n-gt32 : goal.returns-then-n-gt32
unfolding field_at
returns-then-n-gt32 c = simp (lt-ltb 32 c.args.n c.if-n-gt32.true)

pub loop-i-init : goal.loop-i-init
unfolding number
loop-i-init c = search rules

pub overflow_add-v : goal.overflow_add-v
overflow_add-v c =
    let b : c.bit_from.result < 2 = rw c.bit_from.ensures (bit_lt _ _) in
    omega (arith, pow_mono {i = c.loop-i.i} {j = 31} (omega arith), b)

pub loop-i-preserved : goal.loop-i-preserved
loop-i-preserved c =
    let a = c.args in
    let l = c.loop-i in
    let e : l.v * 2 + c.bit_from.result ≡ number (bit_at a.s.now) a.at (l.i + 1) =
    ap₂ (λ (x y : ℕ). x * 2 + y) l.invariant.0 c.bit_from.ensures ∙ sym (number_more (bit_at a.s.now) a.at l.i) in
    (e, rw e (number_lt (bit_at a.s.now) (bit_lt a.s.now) a.at (l.i + 1)))

pub returns : goal.returns
returns c =
    let a = c.args in
    let e : c.loop-i.i ≡ a.n = omega arith in
    c.loop-i.invariant.0 ∙ ap (number (bit_at a.s.now) a.at) e ∙ sym (field_is a.s.now a.at a.n (omega arith))
