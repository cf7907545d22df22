-- `ip_look::looking::payload_refused` meets its contract. Assumes nothing.
use Prim.Native.Nat.{ℕ}
use mathlib.Core.Path.{sym, ap, ◌∙◌}
use mathlib.Core.Bool.{not}
use mathlib.Core.List.{List}
use native.Mathlib.Omega.{arith}
use borrow.Author.Tests.{ne_eqb}
use Rattle.ip.specs.Read.{walk}
use Rattle.ip_open.proofs.Means.{means_sound}
use Rattle.ip_look.proofs.Looks.{look_none, look_other, look_begun}
use Rattle.ip_look.proofs.looking.payload_refused.Goals as goal

pub returns-in_default : goal.returns-in_default
returns-in_default c =
    look_none c.args.memory.now c.args.payload.now c.args.address _ c.in_default.ensures _
    (c.heads_refused.ensures ∙ ap (λ (l : List ℕ). (walk 0 l).refused) c.from.ensures)

pub overflow_sub-rest : goal.overflow_sub-rest
overflow_sub-rest c = omega (arith, (means_sound c.args.memory.now c.in-Ok.o c.told-memory c.in-Ok.ensures).1)

pub returns-then-address-address_after : goal.returns-then-address-address_after
returns-then-address-address_after c =
    ap not (ne_eqb _ _ c.if-address-address_after.true)
    ∙ look_other c.args.memory.now c.args.payload.now c.args.address c.in-Ok.o c.in-Ok.ensures c.told-memory
    (λ z. c.if-address-address_after.true (z ∙ sym c.address_after.ensures.0))

pub returns-else-address-address_after : goal.returns-else-address-address_after
returns-else-address-address_after c =
    look_begun c.args.memory.now c.args.payload.now c.args.address c.in-Ok.o c.in-Ok.ensures c.told-memory _
    (c.if-address-address_after.false ∙ c.address_after.ensures.0)
    (c.heads_refused-else-address-address_after.ensures ∙ ap (λ (l : List ℕ). (walk 0 l).refused) c.from-else-address-address_after.ensures)
