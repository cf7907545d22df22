-- `taps::taps_at` meets its contract. Assumes nothing.
use Prim.Native.Nat.{ℕ, ◌+◌, ◌*◌}
use mathlib.Core.Path.{◌≡◌, ap, ◌∙◌}
use native.Mathlib.Omega.{arith}
use lib.Seq.{take_all}
use Rattle.bits.specs.Places.{fields_at}
use Rattle.bits.proofs.Places.{field_lt, fields_length}
use Rattle.description.specs.Rows.{total}
use Rattle.description.specs.Tests.{taps_of}
use Rattle.taps.proofs.Tapping.{taps_more}
use borrow.Author.Rules.{rules}
use Rattle.taps.proofs.taps_at.Goals as goal

pub loop-k-init : goal.loop-k-init
unfolding total
loop-k-init c = search rules

pub loop-k-preserved : goal.loop-k-preserved
loop-k-preserved c =
    let l = c.loop-k in
    let w = c.args.w.now in
    let small = field_lt w (c.args.at + c.args.apart * l.k) 4 (omega arith) in (
      ap (λ (x : ℕ). l.taps + (x + 1) * 2) c.field-half.ensures ∙ taps_more w c.args.at c.args.apart c.args.n l.k l.taps (search rules) l.invariant.0,
      omega (arith, c.field-half.ensures),
    )

pub returns : goal.returns
returns c =
    let l = c.loop-k in
    let e : l.k ≡ c.args.n = omega arith in
    l.invariant.0 ∙ ap (total taps_of) (take_all l.k (fields_at c.args.w.now c.args.at c.args.apart 4 c.args.n) (omega (arith, fields_length c.args.w.now c.args.at c.args.apart 4 c.args.n)))
