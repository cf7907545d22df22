-- `ip_write::lay::put_header` meets its contract: two bytes of one number. Assumes nothing.
use mathlib.Core.Path.{ap, ◌∙◌}
use mathlib.Core.List.{List}
use Prim.Native.Nat.{ℕ}
use native.Mathlib.Omega.{arith}
use Rattle.byte_runs.specs.Runs.{copied}
use Rattle.ip_queue.specs.Places.{packet_at}
use Rattle.ip_write.specs.Steps.{header_number}
use Rattle.ip_queue.proofs.Places.{waiting}
use Rattle.ip_write.proofs.Laying.{header_small, header_put_lem}
use Rattle.ip_write.proofs.lay.put_header.Goals as goal

pub length_at-n-requires : goal.length_at-n-requires
length_at-n-requires c = omega (arith, (waiting c.args.queue.now c.args.from c.requires.0.0 c.requires.0.1).ends)

pub bounds-queue-from-2 : goal.bounds-queue-from-2
bounds-queue-from-2 c = omega (arith, (waiting c.args.queue.now c.args.from c.requires.0.0 c.requires.0.1).ends)

pub overflow_cast-v : goal.overflow_cast-v
overflow_cast-v c =
    let p = packet_at c.args.queue.now c.args.from in
    omega (arith, header_small c.args.queue.now c.args.from c.requires.0 c.header_number-v.result (c.header_number-v.ensures ∙ ap (header_number p.kind p.error) c.length_at-n.ensures.0))

pub returns : goal.returns
returns c =
    let p = packet_at c.args.queue.now c.args.from in
    header_put_lem c.args.queue.now c.args.from c.requires.0 _ (c.header_number-v.ensures ∙ ap (header_number p.kind p.error) c.length_at-n.ensures.0)
    c.args.payload.now _ c.args.at (c.copy.ensures ∙ ap (λ (x : List ℕ). copied x c.args.payload.now c.args.at) c.to_be_bytes.ensures)
