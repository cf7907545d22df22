-- `tap_lengths::lengths` meets its contract: after k taps the walk stands at tap k. Assumes nothing.
use Prim.Native.Nat.{ℕ, ◌+◌}
use mathlib.Core.Path.{sym, ap, ◌∙◌, subst}
use native.Mathlib.Nat.{not-suc-le-zero}
use native.Mathlib.Omega.{arith}
use Rattle.ground.specs.Table.{tab}
use Rattle.ground.proofs.Fill.{fill_more}
use Rattle.ground.proofs.Table.{tab_ext}
use Rattle.tap_lengths.specs.declared.Section.{Section}
use Rattle.tap_lengths.specs.Lengths.{intermed_len}
use Rattle.tap_lengths.specs.Sections.{sections_at}
use Rattle.tap_lengths.proofs.Walking.{Walks, first_tap, first_walks, onward_walks, walks_len, walks_narrow, none_lengths}
use Rattle.tap_lengths.proofs.lengths.Goals as goal

pub returns-then-n-eq0 : goal.returns-then-n-eq0
returns-then-n-eq0 c = let a = c.args in none_lengths a.pipe.now ∙ ap (λ (n : ℕ). tab (intermed_len (sections_at n a.pipe.now)) 0 32) (sym c.if-n-eq0.true)

pub loop-len-init : goal.loop-len-init
loop-len-init c =
    let a = c.args in (
      λ j h. absurd (not-suc-le-zero h),
      subst (λ (s : Section). Walks (sections_at a.n a.pipe.now) 0 (first_tap s)) (sym c.section_at-s.ensures.0) (first_walks a.pipe.now a.n (omega arith)),
    )

pub onward-t-requires : goal.onward-t-requires
onward-t-requires c = let a = c.args in let l = c.loop-len in walks_narrow (sections_at a.n a.pipe.now) l.len-index l.t l.invariant.1 (omega arith)

pub loop-len-preserved : goal.loop-len-preserved
loop-len-preserved c =
    let a = c.args in
    let l = c.loop-len in
    let all = sections_at a.n a.pipe.now in (
      fill_more (intermed_len all) 0 l.len-items l.len-index l.t.len (omega arith) (walks_len all l.len-index l.t l.invariant.1) l.invariant.0,
      subst (Walks all (l.len-index + 1)) (sym c.onward-t.ensures) (onward_walks a.pipe.now a.n l.len-index l.t l.invariant.1),
    )

pub returns : goal.returns
returns c =
    let a = c.args in
    let l = c.loop-len in
    tab_ext (intermed_len (sections_at a.n a.pipe.now)) 0 32 l.len-items (omega arith) (λ k h. l.invariant.0 k (omega arith))
