-- `held::clip_all` meets its contract. Assumes nothing.
use mathlib.Core.Path.{sym, ◌∙◌}
use mathlib.Core.List.{map}
use native.Mathlib.Omega.{arith}
use lib.IntN.{pos}
use lib.ListN.{length-map, get_or-map}
use lib.Seq.{ext_get_or}
use Rattle.held.specs.Held.{clip}
use Rattle.held.proofs.clip_all.Goals as goal

pub returns : goal.returns
unfolding clip
returns c =
    let lane = c.args.lane.now in
    ext_get_or (pos 0) c.loop-place.lane (map clip lane) (omega (arith, length-map lane clip))
    (λ k h. c.loop-place.invariant.0 k (omega arith) ∙ sym (get_or-map clip lane k (pos 0)))
