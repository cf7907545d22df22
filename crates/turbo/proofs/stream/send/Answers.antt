-- `turbo::stream::send` meets its contract. Assumes nothing.
use Prim.Native.Nat.{ℕ, ◌+◌, ◌*◌, ◌/◌, ◌≤◌}
use mathlib.Core.Path.{◌≡◌, refl, sym, ◌∙◌, subst}
use mathlib.Core.Logic.{⊎_elim}
use native.Mathlib.Omega.{arith}
use Rattle.wide.specs.declared.Wide.{Wide}
use Rattle.patterns.specs.Blocks.{Coded}
use Rattle.turbo.specs.Stream.{Sent}
use Rattle.turbo.proofs.Reading.{second_length}
use Rattle.turbo.proofs.Streaming.{sent_none, sent_both, thrice_both, eighteen_sent, last_sent}
use Rattle.turbo.proofs.stream.send.Goals as goal

-- both blocks have 18 groups behind those of three bytes
sizes : (p n : ℕ) → Coded p n → (24 * (n / 24) + 18 ≡ n) × (4 * (n / 24) + 3 ≡ n / 6) × (n ≤ 12282)
sizes p n = ⊎_elim (λ w. (omega (arith, w.1), omega (arith, w.1), omega (arith, w.1))) (λ w. (omega (arith, w.1), omega (arith, w.1), omega (arith, w.1)))

pub loop-i-init : goal.loop-i-init
loop-i-init c =
    let a = c.args in
    (subst (λ (s : Wide). Sent a.pattern a.n a.word.now a.out.now (record { sink = s; both = 0 }) 0) (sym c.new.ensures) (sent_none a.pattern a.n a.word.now a.out.now c.requires.1), refl)

pub three-y-requires : goal.three-y-requires
three-y-requires c =
    let a = c.args in
    omega (arith, second_length a.pattern a.n a.word.now a.second.now a.plan.now c.requires.0, sizes a.pattern a.n c.requires.0.coded)

pub eighteen-c-requires : goal.eighteen-c-requires
eighteen-c-requires c =
    let l = c.loop-i in
    sent_both c.args.pattern c.args.n c.args.word.now l.out l.c (4 * l.i) l.invariant.0

pub chunk-c-requires : goal.chunk-c-requires
chunk-c-requires c = (omega arith, omega arith, omega arith, thrice_both _ _ _ _ _ _ _ c.eighteen-c.ensures)

pub loop-i-preserved : goal.loop-i-preserved
loop-i-preserved c =
    let a = c.args in
    let l = c.loop-i in
    let P = c.requires.0 in
    let z = sizes a.pattern a.n P.coded in
    let s = eighteen_sent a.pattern a.n a.word.now a.second.now a.plan.now P l.i c.three-x.result c.three-y.result c.three-x.ensures c.three-y.ensures (omega (arith, z))
    l.out l.c l.invariant.0 c.eighteen-c.result c.eighteen-c.new.out c.eighteen-c.ensures in
    let g = last_sent a.pattern a.n a.word.now a.second.now a.plan.now P l.i c.three-x.result c.three-y.result c.three-x.ensures c.three-y.ensures (omega (arith, z)) (omega (arith, z))
    c.eighteen-c.new.out c.eighteen-c.result s.0 c.chunk-c.result c.chunk-c.new.out c.chunk-c.ensures in
    (g.0, g.1 ∙ s.1 ∙ l.invariant.1)

pub three-y-requires-2 : goal.three-y-requires-2
three-y-requires-2 c =
    let a = c.args in
    omega (arith, second_length a.pattern a.n a.word.now a.second.now a.plan.now c.requires.0, sizes a.pattern a.n c.requires.0.coded)

pub eighteen-requires : goal.eighteen-requires
eighteen-requires c =
    let l = c.loop-i in
    sent_both c.args.pattern c.args.n c.args.word.now l.out l.c (4 * l.i) l.invariant.0

pub returns : goal.returns
returns c =
    let a = c.args in
    let l = c.loop-i in
    let P = c.requires.0 in
    let z = sizes a.pattern a.n P.coded in
    let i : ℕ = a.n / 24 in
    let e : l.i ≡ i = omega arith in
    let s = eighteen_sent a.pattern a.n a.word.now a.second.now a.plan.now P i c.three-x-2.result c.three-y-2.result c.three-x-2.ensures c.three-y-2.ensures (omega (arith, z))
    l.out l.c (subst (λ (j : ℕ). Sent a.pattern a.n a.word.now l.out l.c (4 * j)) e l.invariant.0) c.eighteen.result c.eighteen.new.out c.eighteen.ensures in
    (subst (Sent a.pattern a.n a.word.now c.eighteen.new.out c.eighteen.result) z.1 s.0, s.1 ∙ l.invariant.1)
