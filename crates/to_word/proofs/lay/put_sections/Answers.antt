-- `to_word::lay::put_sections` meets its contract: after k turns k sections are in the sink. Assumes nothing.
use Prim.Native.Nat.{ℕ, ◌+◌, ◌*◌, ◌^◌, ◌≤◌, ◌<◌}
use mathlib.Core.Path.{◌≡◌, sym, subst}
use native.Mathlib.Omega.{arith}
use borrow.Author.Rules.{rules}
use Rattle.bits.proofs.Places.{field_lt}
use Rattle.wide.proofs.Widens.{wide_put}
use Rattle.to_word.proofs.Sinks.{Puts, puts_none, puts_more, ended, placed}
use Rattle.to_word.proofs.lay.put_sections.Goals.{After-loop-k}
use Rattle.to_word.proofs.lay.put_sections.Goals as goal

pub loop-k-init : goal.loop-k-init
loop-k-init c = let a = c.args in puts_none a.sheet.now a.from.sections a.from.apart a.word.now c.waiting-sink.result c.waiting-sink.ensures.room

pub loop-k-preserved : goal.loop-k-preserved
loop-k-preserved c =
    let a = c.args in
    let l = c.loop-k in
    let p = l.invariant in
    let q = c.put-sink in
    let lt = subst (λ (x : ℕ). x < 2 ^ 12) (sym c.field-section.ensures) (field_lt a.sheet.now (a.from.sections + a.from.apart * l.k) 12 (omega arith)) in
    puts_more a.sheet.now a.from.sections a.from.apart a.word.now c.waiting-sink.result p c.field-section.ensures
    (wide_put c.field-section.result 12 _ l.sink q.result _ p.room (omega arith) lt (omega (arith, p.moved, p.len, c.waiting-sink.ensures.stands)) q.ensures)

-- all sections are in the sink
in_sink : (c : After-loop-k) → Puts c.args.sheet.now c.args.from.sections c.args.from.apart c.args.d c.args.word.now c.waiting-sink.result c.loop-k.word c.loop-k.sink
in_sink c =
    let a = c.args in
    let l = c.loop-k in
    let e : l.k ≡ a.d = search rules in
    subst (λ (k : ℕ). Puts a.sheet.now a.from.sections a.from.apart k a.word.now c.waiting-sink.result l.word l.sink) e l.invariant

pub slice_bounds-fill-count : goal.slice_bounds-fill-count
slice_bounds-fill-count c = (ended c.waiting-sink.ensures (in_sink (goal.at.slice_bounds-fill-count c).After-loop-k) c.told-word c.requires.1 c.put-end.ensures).within

pub slice_bounds-fill-start : goal.slice_bounds-fill-start
slice_bounds-fill-start c =
    let h : c.put-end.result.at ≤ 96 = (ended c.waiting-sink.ensures (in_sink (goal.at.slice_bounds-fill-start c).After-loop-k) c.told-word c.requires.1 c.put-end.ensures).within in
    search rules

pub returns : goal.returns
returns c =
    placed c.waiting-sink.ensures (in_sink (goal.at.returns c).After-loop-k) c.told-word c.requires.1 c.put-end.ensures _ (search rules) (λ k h. search rules)
