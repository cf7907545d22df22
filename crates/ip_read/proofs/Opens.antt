-- Laws of the open packet that is laid down in lent memory.
-- Assumes nothing.
use Prim.Native.Nat.{ℕ, ◌+◌, ◌-◌, ◌/◌, ◌%◌, ◌≤◌}
use mathlib.Core.Path.{◌≡◌, sym, ap, ap₂, ◌∙◌}
use mathlib.Core.List.{List, [], ◌∷◌, ◌++◌}
use native.Mathlib.Omega.{arith}
use lib.ListN.{length, take, drop, replicate, length-append, length-drop}
use lib.Seq.{take-append-add, length-take-le}
use Rattle.byte_runs.specs.Runs.{copied, filled_from}
use Rattle.byte_runs.proofs.Runs.{copied_is}
use Rattle.ip.specs.Read.{begun}
use Rattle.ip.specs.Memory.{open_bytes}

-- ---- one that is open

-- its numbers in front of the bytes, zeros behind them
pub settled : (m m1 m2 x : List ℕ) (t e n k : ℕ) → length m ≡ 4104 → k ≤ 4096 → x ≡ 1 ∷ t ∷ e ∷ 0 ∷ n / 256 ∷ n % 256 ∷ k / 256 ∷ k % 256 ∷ []
    → m1 ≡ copied x m 0 → m2 ≡ filled_from m1 (8 + k) 0 → m2 ≡ open_bytes (begun t e n (take k (drop 8 m)))
unfolding open_bytes filled_from
settled m m1 m2 x t e n k h r f e1 e2 =
    let y : List ℕ = 1 ∷ t ∷ e ∷ 0 ∷ n / 256 ∷ n % 256 ∷ k / 256 ∷ k % 256 ∷ [] in
    let s : List ℕ = take k (drop 8 m) in
    let j : length s ≡ k = length-take-le k (drop 8 m) (omega (arith, length-drop 8 m)) in
    let g : m1 ≡ y ++ drop 8 m = e1 ∙ ap (λ (l : List ℕ). copied l m 0) f ∙ copied_is y m 0 (omega arith) in
    let w : length m1 ≡ 4104 = ap length g ∙ omega (arith, length-append y (drop 8 m), length-drop 8 m) in
    let z : length m1 - (8 + k) ≡ 4096 - length s = omega arith in
    e2 ∙ ap₂ (λ (l : List ℕ) (i : ℕ). l ++ replicate i 0) (ap (take (8 + k)) g ∙ take-append-add y (drop 8 m) k) z
    ∙ ap (λ (i : ℕ). 1 ∷ t ∷ e ∷ 0 ∷ n / 256 ∷ n % 256 ∷ i / 256 ∷ i % 256 ∷ (s ++ replicate (4096 - length s) 0)) (sym j)
