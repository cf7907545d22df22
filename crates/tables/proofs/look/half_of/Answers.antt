-- `tables::look::half_of` meets its contract. Assumes nothing.
use Prim.Native.Nat.{ℕ, ◌+◌, ◌-◌, ◌*◌, ◌^◌, ◌<◌}
use mathlib.Core.Path.{◌≡◌, refl, sym, ap, ap₂, ◌∙◌, subst}
use mathlib.Core.List.{List, ◌++◌}
use native.Mathlib.Omega.{arith}
use lib.ListN.{length, get_or, take, drop, length-take, length-drop}
use lib.Seq.{get_or-take, get_or-drop, take_all}
use Rattle.std.proofs.lemmas.Slice.{take-put_mid}
use Rattle.ground.specs.Table.{tab}
use Rattle.ground.proofs.Table.{length_tab, tab_append}
use Rattle.patterns.specs.Sent.{total}
use Rattle.constituent.specs.Six.{impulses}
use Rattle.tables.specs.Plan.{coded, look_at}
use Rattle.tables.specs.Tables.{Light, weights_of, weighed, half_look}
use Rattle.tables.proofs.Weighing.{light, half_six}
use Rattle.tables.proofs.Looking.{impulse_coded, sums_coded, table_of}
use Rattle.tables.proofs.look.half_of.Goals as goal

-- what the bits from 6 j on give by themselves
gives : (rows : List ℕ) (h j n : ℕ) (w alone : List ℕ) → w ≡ weights_of rows h → alone ≡ impulses → j < 3 → n ≡ 18 - 6 * j → (b : ℕ) → b < 6
    → total (weighed w (get_or (take n (drop (6 * j) alone)) b 0)) 36 ≡ coded rows h (2 ^ (6 * j + b))
gives rows h j n w alone ew ea hj en b hb =
    let e : get_or (take n (drop (6 * j) alone)) b 0 ≡ get_or impulses (6 * j + b) 0 =
    get_or-take n (drop (6 * j) alone) b 0 (omega arith) ∙ get_or-drop (6 * j) alone b 0 ∙ ap (λ (l : List ℕ). get_or l (6 * j + b) 0) ea in
    ap₂ (λ (l : List ℕ) (x : ℕ). total (weighed l x) 36) ew e ∙ impulse_coded rows h (6 * j + b) (omega arith)

pub loop-j-init : goal.loop-j-init
unfolding tab
loop-j-init c = refl

pub sixty_four-requires : goal.sixty_four-requires
sixty_four-requires c = (
  subst Light (sym c.weights_of-half.ensures.weights) (light c.args.rows.now c.args.h),
  simp (length-take, length-drop) (omega arith),
  simp (length-take, length-drop) (omega arith),
)

pub loop-j-preserved : goal.loop-j-preserved
loop-j-preserved c =
    let a = c.args in
    let rows : List ℕ = a.rows.now in
    let j : ℕ = c.loop-j.j in
    let from : ℕ = 192 * a.h in
    let made : c.sixty_four.new.t ≡ tab (look_at rows) (from + 64 * j) 64 =
    c.sixty_four.ensures
    ∙ sums_coded rows a.h _ (6 * j) 6 (gives rows a.h j _ _ a.alone.now c.weights_of-half.ensures.weights c.requires.0 c.loop-j-test.true refl)
    ∙ table_of rows a.h j c.requires.1 c.loop-j-test.true in
    let size : length c.sixty_four.new.t ≡ 64 = ap length made ∙ length_tab (look_at rows) (from + 64 * j) 64 in
    let more : 64 * j + 64 ≡ 64 * (j + 1) = omega arith in
    take-put_mid (64 * j) _ c.loop-j.t c.sixty_four.new.t (64 * (j + 1)) (omega (arith, size)) (omega arith)
    ∙ ap₂ (λ (x y : List ℕ). x ++ y) c.loop-j.invariant made
    ∙ sym (tab_append (look_at rows) from (64 * j) 64) ∙ ap (tab (look_at rows) from) more

pub overflow_sub-result : goal.overflow_sub-result
overflow_sub-result c = omega (arith, c.weights_of-half.ensures.bits, half_six c.args.rows.now c.args.h)

pub returns : goal.returns
unfolding half_look
returns c =
    let l = c.loop-j in
    let rows : List ℕ = c.args.rows.now in
    let e : l.j ≡ 3 = omega arith in (
      sym (take_all 192 l.t (omega arith)) ∙ ap (λ (j : ℕ). take (64 * j) l.t) (sym e) ∙ l.invariant ∙ ap (λ (j : ℕ). tab (look_at rows) (192 * c.args.h) (64 * j)) e,
      omega (arith, c.weights_of-half.ensures.bits, half_six rows c.args.h),
    )
