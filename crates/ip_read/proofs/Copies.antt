-- Laws of what is handed out: packet behind packet.
-- Assumes nothing.
use Prim.Native.Nat.{ℕ, ◌+◌, ◌≤◌}
use mathlib.Core.Path.{◌≡◌, refl, sym, ap, ap₂, ◌∙◌}
use mathlib.Core.List.{List, [], ◌++◌, append_assoc, append-nil}
use native.Mathlib.Omega.{arith}
use lib.Dec.{leb}
use lib.ListN.{length, take, drop, length-append, length-drop, take-append-drop}
use lib.Seq.{take_at, take-add, drop_at, drop-drop, length-take-le}
use Rattle.byte_runs.specs.Runs.{copied}
use Rattle.byte_runs.proofs.Runs.{copied_is, copied_length}
use Rattle.ip.proofs.Any.{choose_elim}

-- a run, and another behind it
pub copied_behind : (x y m : List ℕ) (at : ℕ) → at + length x + length y ≤ length m → copied y (copied x m at) (at + length x) ≡ copied (x ++ y) m at
copied_behind x y m at h =
    let n : ℕ = at + length x in
    let f : List ℕ = take at m ++ x in
    let d : List ℕ = drop n m in
    let k : length f ≡ n = length-append (take at m) x ∙ omega (arith, length-take-le at m (omega arith)) in
    let e : copied x m at ≡ f ++ d = copied_is x m at (omega arith) in
    let j : n + length y ≡ at + length (x ++ y) = omega (arith, length-append x y) in
    copied_is y (copied x m at) n (omega (arith, copied_length x m at))
    ∙ ap (λ (l : List ℕ). take n l ++ y ++ drop (n + length y) l) e
    ∙ ap₂ (λ (a b : List ℕ). a ++ y ++ b) (take_at f d n k)
    (sym (drop-drop (length y) n (f ++ d)) ∙ ap (drop (length y)) (drop_at f d n k) ∙ drop-drop (length y) n m)
    ∙ ap₂ (λ (a : List ℕ) (i : ℕ). a ++ drop i m) (append_assoc (take at m) x y) j
    ∙ sym (copied_is (x ++ y) m at (omega (arith, length-append x y)))

-- a run of no bytes
pub nothing_copied : (m : List ℕ) (at : ℕ) → copied [] m at ≡ m
unfolding copied
nothing_copied m at =
    let z : at + 0 ≡ at = omega arith in
    choose_elim (λ (l : List ℕ). l ≡ m) (leb (at + 0) (length m)) (take at m ++ [] ++ drop (at + 0) m) m
    (λ e. ap₂ (λ (a : List ℕ) (i : ℕ). a ++ drop i m) (append-nil (take at m)) z ∙ take-append-drop at m) (λ e. refl)

-- what stands at a place, and a run that was copied behind it
pub copied_out : (x m : List ℕ) (at k : ℕ) → at + k + length x ≤ length m → take (k + length x) (drop at (copied x m (at + k))) ≡ take k (drop at m) ++ x
copied_out x m at k h =
    let a : List ℕ = take at m in
    let b : List ℕ = take k (drop at m) in
    let d : List ℕ = drop (at + k + length x) m in
    let n : length a ≡ at = length-take-le at m (omega arith) in
    let j : length b ≡ k = length-take-le k (drop at m) (omega (arith, length-drop at m)) in
    let e : copied x m (at + k) ≡ a ++ ((b ++ x) ++ d) =
    copied_is x m (at + k) h ∙ ap (λ (l : List ℕ). l ++ x ++ d) (take-add at k m)
    ∙ ap (λ (l : List ℕ). l ++ d) (append_assoc a b x) ∙ append_assoc a (b ++ x) d in
    ap (λ (l : List ℕ). take (k + length x) (drop at l)) e ∙ ap (take (k + length x)) (drop_at a ((b ++ x) ++ d) at n)
    ∙ take_at (b ++ x) d (k + length x) (length-append b x ∙ omega arith)
