-- `profile::made` meets its contract: after k places the lengths before them are those of the profile. Assumes nothing.
use Prim.Native.Nat.{ℕ}
use mathlib.Core.Path.{◌≡◌, ap, ◌∙◌}
use native.Mathlib.Omega.{arith}
use Rattle.ground.proofs.Fill.{fill_more}
use Rattle.bits.proofs.Places.{field_lt}
use Rattle.description.specs.Fields.{disperser_inv_flag}
use Rattle.tap_lengths.specs.Lengths.{intermed_len}
use Rattle.tap_lengths.specs.Sections.{sections_at}
use Rattle.profile.specs.Profile.{tap_length, by_columns, flipped, max_delay}
use Rattle.profile.specs.Lent.{lent_fields}
use Rattle.profile.proofs.Making.{tap_at, inv_is, flip_is, len_small, tap_length_is, made_is}
use Rattle.profile.proofs.made.Goals as goal

pub tap_length-requires : goal.tap_length-requires
tap_length-requires c =
    let a = c.args in
    (rw c.field-int.ensures (field_lt _ _ 4 (omega arith)), rw c.field-fract.ensures (field_lt _ _ 4 (omega arith)), len_small a.pipe.now a.n c.lengths-lens.result c.lengths-lens.ensures _ (omega arith))

pub loop-k-preserved : goal.loop-k-preserved
loop-k-preserved c =
    let a = c.args in
    let l = c.loop-k in
    let j = c.flipped-j in
    let r = c.tap_length.result in
    let fields = lent_fields a.pipe.now in
    let sections = sections_at a.n a.pipe.now in
    let t = tap_length_is a.pipe.now a.n c.lengths-lens.result c.lengths-lens.ensures (by_columns j.result) (omega arith) c.field-int.result c.field-fract.result r
    c.field-int.ensures c.field-fract.ensures c.tap_length.ensures in
    let e : j.result ≡ flipped (disperser_inv_flag fields) l.k = j.ensures.0 ∙ flip_is c.field-inv.result l.k ∙ ap (λ (x : ℕ). flipped x l.k) (c.field-inv.ensures ∙ inv_is a.pipe.now) in
    fill_more (tap_at fields sections) 0 l.tap-items l.k r (omega arith) (t ∙ ap (λ (x : ℕ). tap_length fields (intermed_len sections (by_columns x))) e) l.invariant

pub tap_length-requires-2 : goal.tap_length-requires-2
tap_length-requires-2 c =
    let a = c.args in
    (rw c.field-int.ensures (field_lt _ _ 4 (omega arith)), rw c.field-fract.ensures (field_lt _ _ 4 (omega arith)), len_small a.pipe.now a.n c.lengths-lens.result c.lengths-lens.ensures _ (omega arith))

pub returns : goal.returns
unfolding max_delay
returns c =
    let a = c.args in
    let greatest = tap_length_is a.pipe.now a.n c.lengths-lens.result c.lengths-lens.ensures 31 (omega arith) c.field-int.result c.field-fract.result c.tap_length-2.result
    c.field-int.ensures c.field-fract.ensures c.tap_length-2.ensures in
    made_is (lent_fields a.pipe.now) (sections_at a.n a.pipe.now) _ c.loop-k-test.array_long (λ k h. c.loop-k.invariant k (omega arith)) greatest
