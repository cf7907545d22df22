-- `tap_lengths::total` meets its contract: after i sections the taps are those of the first i. Assumes nothing.
use Prim.Native.Nat.{ℕ, ◌+◌}
use mathlib.Core.Path.{ap, ◌∙◌}
use native.Mathlib.Omega.{arith}
use lib.ListN.{take}
use Rattle.tap_lengths.specs.declared.Section.{Section}
use Rattle.tap_lengths.specs.Lengths.{tap_total}
use Rattle.tap_lengths.specs.Sections.{sections_at}
use Rattle.tap_lengths.proofs.Totals.{taps_none, taps_more, taps_all}
use Rattle.tap_lengths.proofs.total.Goals as goal

pub loop-i-init : goal.loop-i-init
loop-i-init c = (taps_none c.args.n c.args.pipe.now, omega arith)

pub loop-i-preserved : goal.loop-i-preserved
loop-i-preserved c =
    let l = c.loop-i in
    let a = c.args in
    let t = c.from-taps.ensures ∙ ap (λ (x : Section). x.taps) c.section_at.ensures.0 in
    (ap (λ (x : ℕ). x + c.from-taps.result) l.invariant.0 ∙ taps_more a.n a.pipe.now l.i c.from-taps.result (omega arith) t, omega arith)

pub returns : goal.returns
returns c =
    let a = c.args in
    c.loop-i.invariant.0 ∙ ap (λ (i : ℕ). tap_total (take i (sections_at a.n a.pipe.now))) (omega arith) ∙ taps_all a.n a.pipe.now
