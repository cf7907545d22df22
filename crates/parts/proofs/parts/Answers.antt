-- `parts::parts` meets its contract: after i bytes of each the four numbers are the parts of the i bytes. Assumes nothing.
use Prim.Native.Nat.{ℕ, ◌*◌, ◌<◌}
use mathlib.Core.Path.{◌≡◌, ◌∙◌}
use mathlib.Core.List.{List, [], ◌∷◌}
use native.Mathlib.Omega.{arith}
use borrow.Author.Rules.{rules}
use lib.ListN.{get_or}
use Rattle.ground.proofs.Table.{tab_ext}
use Rattle.parity.specs.Part.{part_of, parts_of}
use Rattle.parity.proofs.Steps.{run_none, run_all}
use Rattle.parts.proofs.parts.Goals as goal

zeros : (k : ℕ) → k < 4 → get_or {A = ℕ} (0 ∷ 0 ∷ 0 ∷ 0 ∷ []) k 0 ≡ 0
zeros k h = search rules

pub loop-i-init : goal.loop-i-init
loop-i-init c = (omega arith, omega arith, λ k h. zeros k h ∙ run_none c.args.word.now (376 * k))

pub returns : goal.returns
unfolding parts_of
returns c =
    let w : List ℕ = c.args.word.now in
    let l = c.loop-i in
    tab_ext (λ k. part_of w (376 * k)) 0 4 l.v l.invariant.0 (λ k h. run_all w (376 * k) l.i _ (l.invariant.2 k h) (omega arith))
