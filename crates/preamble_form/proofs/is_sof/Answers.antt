-- `preamble_form::is_sof` meets its contract: after i bytes it is known whether the first i are the preamble's. Assumes nothing.
use Prim.Native.Nat.{ℕ}
use mathlib.Core.Bool.{Bool, ◌&&◌}
use mathlib.Core.Path.{◌≡◌, refl, sym, ap, ap₂, ◌∙◌}
use mathlib.Core.List.{List}
use native.Mathlib.Numerals.{add-one}
use native.Mathlib.Omega.{arith}
use lib.Dec.{eqb}
use lib.ListN.{get_or, take}
use lib.Seq.{take_all}
use Rattle.preamble.specs.Preamble.{due}
use Rattle.preamble.proofs.Laws.{due_length}
use Rattle.ground.specs.Table.{same}
use Rattle.preamble_form.proofs.Telling.{same_more}
use Rattle.preamble_form.proofs.is_sof.Goals as goal

pub loop-i-init : goal.loop-i-init
unfolding same
loop-i-init c = refl

pub loop-i-preserved : goal.loop-i-preserved
loop-i-preserved c =
    let l = c.loop-i in
    let a = c.args in
    let w : List ℕ = a.bytes.now in
    let d : List ℕ = due a.inverted in
    let b : get_or c.due-sof.result l.i 0 ≡ get_or d l.i 0 = ap (λ (s : List ℕ). get_or s l.i 0) c.due-sof.ensures in
    ap₂ (λ (x : Bool) (y : ℕ). x && eqb (get_or w l.i 0) y) l.invariant b
    ∙ sym (same_more w d l.i (omega (arith, c.requires, c.loop-i-test.true)) (omega (arith, due_length a.inverted, c.loop-i-test.true)))
    ∙ ap (λ (n : ℕ). same (take n w) (take n d)) (sym (add-one l.i))

pub returns : goal.returns
returns c =
    let l = c.loop-i in
    let a = c.args in
    l.invariant ∙ ap₂ same (take_all l.i a.bytes.now (omega (arith, c.requires, c.loop-i-test.false))) (take_all l.i (due a.inverted) (omega (arith, due_length a.inverted, c.loop-i-test.false)))
