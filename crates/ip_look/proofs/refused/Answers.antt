-- `ip_look::refused` meets its contract. Assumes nothing.
use mathlib.Core.Path.{sym, ap, ◌∙◌}
use mathlib.Core.List.{List}
use Prim.Native.Nat.{ℕ}
use native.Mathlib.Omega.{arith}
use lib.ListN.{take}
use lib.Seq.{length-take-le}
use Rattle.ip.specs.Read.{reading}
use Rattle.ip.specs.Memory.{open_in}
use Rattle.ip_look.proofs.Looks.{look_payload}
use Rattle.ip_look.proofs.refused.Goals as goal

pub slice_bounds-payload_refused-end : goal.slice_bounds-payload_refused-end
slice_bounds-payload_refused-end c = sym (length-take-le 1504 c.args.word.now (omega (arith, c.if-word-ne-PAYLOAD_WORD.false)))

pub returns : goal.returns
returns c =
    let w = c.args.word.now in
    let a = c.field-address.result in
    let whole = c.in-Some.ensures.cases in
    look_payload w c.args.memory.now c.payload_refused.result a c.if-word-ne-PAYLOAD_WORD.false whole.long c.field-address.ensures
    (c.payload_refused.ensures ∙ ap (λ (m : List ℕ). (reading (open_in m) a (take 1504 w)).refused) whole.same)
