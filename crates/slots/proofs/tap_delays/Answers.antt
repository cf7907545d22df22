-- `slots::tap_delays` meets its contract. Assumes nothing.
use Prim.Native.Nat.{ℕ, ◌-◌, ◌<◌}
use mathlib.Core.Path.{◌≡◌, sym, ap, ◌∙◌, refl}
use native.Mathlib.Nat.{mod-eq_of_lt}
use borrow.Author.Rules.{rules}
use lib.ListN.{get_or}
use Rattle.ground.proofs.Table.{tab_ext}
use Rattle.slots.specs.declared.Profile.{Profile}
use Rattle.slots.specs.Disperser.{tap_delay_rec, tap_delay}
use Rattle.slots.proofs.Mapped.{mapped_at}
use Rattle.slots.proofs.tap_delays.Goals as goal

delay_is : (p : Profile) (k : ℕ) → k < 32 → p.greatest - get_or p.taps k 0 ≡ tap_delay p k
unfolding tap_delay tap_delay_rec
delay_is p k h = ap (λ (z : ℕ). p.greatest - get_or p.taps z 0) (sym (mod-eq_of_lt h))

pub returns : goal.returns
returns c =
    let p : Profile = c.args.p in
    let m = c.map.ensures.items in
    tab_ext (tap_delay p) 0 32 c.map.result m.long
    (λ k h. mapped_at _ (λ f. f.0.now ≡ p.greatest) (λ t. p.greatest - t) (λ f q x y kept w. search rules) p.taps c.map.result 0 0 _ 32 refl m k h ∙ delay_is p k h)
