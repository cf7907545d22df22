-- `mixer::onward` meets its contract. Assumes nothing.
use Prim.Native.Nat.{◌+◌, ◌-◌, ◌<◌}
use mathlib.Core.Path.{sym}
use native.Mathlib.Nat.{mod-eq_of_lt}
use native.Mathlib.Omega.{arith}
use Rattle.mixer.proofs.Round.{round_end}
use Rattle.mixer.proofs.onward.Goals as goal

pub returns-then-next-len : goal.returns-then-next-len
returns-then-next-len c =
    let a = c.args in
    let less : a.at + a.step < a.len = omega (arith, c.if-next-len.true) in
    (sym (mod-eq_of_lt less), less)

pub returns-else-next-len : goal.returns-else-next-len
returns-else-next-len c =
    let a = c.args in
    let less : a.at + a.step - a.len < a.len = omega (arith, c.requires.0, c.requires.1) in
    (round_end (a.at + a.step) a.len (omega (arith, c.if-next-len.false)) less, less)
