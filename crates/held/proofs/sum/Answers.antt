-- `held::sum` meets its contract: the copies are the run. Assumes nothing.
use Prim.Native.Nat.{ℕ, ◌-◌, min}
use mathlib.Core.Path.{◌≡◌, ap, ◌∙◌}
use mathlib.Core.List.{List}
use native.Mathlib.Omega.{arith}
use lib.ListN.{length, take, drop, length-drop}
use lib.Seq.{take_all}
use lib.IntN.{ℤ}
use Rattle.std.proofs.lemmas.List.{take_min, drop_min}
use Rattle.held.specs.Held.{run, sum}
use Rattle.held.proofs.Sums.{word_back}
use Rattle.held.proofs.sum.Goals as goal

copies : (l : List ℤ) (at n i m : ℕ) → i ≡ min at (length l) → m ≡ min n (length (take (length l - i) (drop i l))) → take m (take (length l - i) (drop i l)) ≡ run l at n
copies l at n i m e f =
    let rest = take_all (length l - i) (drop i l) (omega (arith, length-drop i l)) in
    ap (λ (j : ℕ). take j (take (length l - i) (drop i l))) f ∙ take_min n (take (length l - i) (drop i l))
    ∙ ap (take n) (rest ∙ ap (λ (j : ℕ). drop j l) e ∙ drop_min at l)

pub returns : goal.returns
returns c =
    let a = c.args in
    word_back c.total.result c.total.type_inv ∙ c.total.ensures ∙ ap sum (copies a.values.now a.at a.n c.min.result c.min-2.result c.min.ensures (cc))
