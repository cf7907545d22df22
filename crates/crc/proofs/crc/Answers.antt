-- `crc::crc` meets its contract: after i bits the register is that of the i bits, and within its stages. Assumes nothing.
use Prim.Native.Nat.{ℕ, ◌+◌, ◌-◌, ◌*◌, ◌^◌, ◌<◌}
use mathlib.Core.Path.{◌≡◌, refl, sym, ap, ap₂, ◌∙◌}
use native.Mathlib.Omega.{arith}
use lib.Pow.{pow_pos}
use Rattle.ground.specs.Table.{tab}
use Rattle.bits.specs.Places.{bit_at}
use Rattle.bits.proofs.Places.{bit_lt}
use Rattle.crc.specs.Crc.{clock, clocks, crc_of}
use Rattle.crc.proofs.Laws.{twice_top, clock_lt, clocks_more}
use Rattle.crc.proofs.crc.Goals as goal

pub loop-i-init : goal.loop-i-init
unfolding clocks tab
loop-i-init c =
    let a = c.args in
    (omega arith, refl, omega (arith, twice_top a.width c.requires.0, pow_pos a.width))

pub clocked-r-requires : goal.clocked-r-requires
clocked-r-requires c =
    let e = twice_top c.args.width c.requires.0 in
    let b : c.bit_from.result < 2 = rw c.bit_from.ensures (bit_lt c.args.word.now (c.args.at + c.loop-i.i)) in
    (omega arith, omega arith, omega arith, omega arith, b)

pub loop-i-preserved : goal.loop-i-preserved
loop-i-preserved c =
    let a = c.args in
    let l = c.loop-i in
    let t = c.top_of-top in
    let ones : ℕ = t.result * 2 - 1 in
    let f : ℕ → ℕ = bit_at a.word.now in
    let e : c.clocked-r.result ≡ clock t.result a.poly l.r (f (a.at + l.i)) =
    c.clocked-r.ensures ∙ ap (clock t.result a.poly l.r) c.bit_from.ensures in (
      omega arith,
      e ∙ ap (λ (x : ℕ). clock t.result a.poly x (f (a.at + l.i))) l.invariant.1 ∙ sym (clocks_more t.result a.poly ones f a.at l.i),
      rw (e, t.ensures.0) (clock_lt a.width a.poly l.r (f (a.at + l.i)) c.requires.0 c.requires.2),
    )

pub returns : goal.returns
unfolding crc_of
returns c =
    let a = c.args in
    let l = c.loop-i in
    let t = c.top_of-top in
    let f : ℕ → ℕ = bit_at a.word.now in
    let i : l.i ≡ a.n = omega arith in
    let ones : t.result * 2 - 1 ≡ 2 ^ a.width - 1 = omega (arith, twice_top a.width c.requires.0) in
    ap₂ (λ (x y : ℕ). x - y) ones
    (l.invariant.1 ∙ ap₂ (λ (x y : ℕ). clocks x a.poly y (tab f a.at l.i)) t.ensures.0 ones ∙ ap (λ (k : ℕ). clocks (2 ^ (a.width - 1)) a.poly (2 ^ a.width - 1) (tab f a.at k)) i)
