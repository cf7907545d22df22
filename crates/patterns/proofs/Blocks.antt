-- Laws of the blocks: a block that is not refused for its pattern is coded under it.
-- Assumes nothing.
use Prim.Native.Nat.{ℕ, ◌≤◌, ◌<◌}
use mathlib.Core.Path.{◌≡◌, refl, sym, ap, ◌∙◌}
use mathlib.Core.Bool.{Bool, true, false}
use mathlib.Core.List.{List, ◌++◌}
use mathlib.Core.Logic.{◌⊎◌, inl, inr, ⊎_elim}
use native.Mathlib.Omega.{arith}
use lib.Dec.{eqb, ltb}
use borrow.Author.Tests.{eq-eqb, ne_eqb, eqb-false, ltb-false, le-ltb}
use Rattle.ground.specs.Choice.{choose, both, Fault, first_of}
use Rattle.ground.proofs.Choice.{all_clear, clear_all, both_first, both_second}
use Rattle.ground.proofs.Faults.{first_after, first_parts}
use Rattle.patterns.specs.Blocks.{block_by, unpaired, block_faults, Coded}

block_cases : (payload signalling len : ℕ) → eqb (block_by payload signalling len) 0 ≡ false → (block_by payload signalling len ≡ 12282) ⊎ (block_by payload signalling len ≡ 762)
unfolding block_by
block_cases payload signalling len = go (eqb len payload) (eqb len signalling)
  where
    go : (a b : Bool) → eqb (choose {A = ℕ} a 12282 (choose b 762 0)) 0 ≡ false → (choose {A = ℕ} a 12282 (choose b 762 0) ≡ 12282) ⊎ (choose {A = ℕ} a 12282 (choose b 762 0) ≡ 762)
    go true b h = inl refl
    go false true h = inr refl
    go false false h = absurd (eqb-false 0 0 h refl)

-- there is a block, there is a pattern, and they go together
block_coded : (payload signalling len p : ℕ) → eqb (block_by payload signalling len) 0 ≡ false → ltb 27 p ≡ false → unpaired p (block_by payload signalling len) ≡ false
    → Coded p (block_by payload signalling len)
unfolding unpaired
block_coded payload signalling len p h u q =
    let n : ℕ = block_by payload signalling len in
    let k : p ≤ 27 = ltb-false 27 p u in
    ⊎_elim (λ e. inl (omega arith, e))
    (λ e.
    let z : ltb 0 p ≡ false = sym (ap (λ (t : Bool). both t (ltb 0 p)) (eq-eqb n 762 e)) ∙ q in
    inr (omega (arith, ltb-false 0 p z), e))
    (block_cases payload signalling len h)

-- how large such a block is
pub coded_bounds : (p n : ℕ) → Coded p n → (p < 28) × (0 < n) × (n ≤ 12282)
coded_bounds p n = ⊎_elim (λ w. omega arith) (λ w. omega arith)

-- how large a block is at most
pub block_le : (payload signalling len : ℕ) → block_by payload signalling len ≤ 12282
unfolding block_by
block_le payload signalling len = go (eqb len payload) (eqb len signalling)
  where
    go : (a b : Bool) → choose {A = ℕ} a 12282 (choose b 762 0) ≤ 12282
    go true b = omega arith
    go false true = omega arith
    go false false = omega arith

-- where nothing is found of a block and a pattern, the block is coded under it
pub fit_coded : (payload signalling len p : ℕ) → first_of (block_faults p (block_by payload signalling len)) ≡ 0 → Coded p (block_by payload signalling len)
unfolding block_faults
fit_coded payload signalling len p e =
    let c = all_clear (block_faults p (block_by payload signalling len)) tt e in
    block_coded payload signalling len p c.0 c.1.0 c.1.1.0

-- and the other way round
pub coded_fit : (p n : ℕ) → Coded p n → first_of (block_faults p n) ≡ 0
unfolding block_faults unpaired
coded_fit p n h =
    let b = coded_bounds p n h in
    let paired : unpaired p n ≡ false =
    ⊎_elim (λ w. both_first (ltb 0 p) (ne_eqb n 762 (λ e. omega arith))) (λ w. both_second (eqb n 762) (le-ltb 0 p (omega arith))) h in
    clear_all (block_faults p n) (ne_eqb n 0 (λ e. omega (arith, b.1)), (le-ltb 27 p (omega (arith, b.0)), (paired, tt)))

-- what is looked for behind the block and the pattern
pub fit_after : (p n : ℕ) (m : List Fault) → first_of (block_faults p n) ≡ 0 → first_of (block_faults p n ++ m) ≡ first_of m
unfolding block_faults
fit_after p n m e = first_after (block_faults p n) m tt e

pub fit_parts : (p n : ℕ) (m : List Fault) → first_of (block_faults p n ++ m) ≡ 0 → (first_of (block_faults p n) ≡ 0) × (first_of m ≡ 0)
unfolding block_faults
fit_parts p n m e = first_parts (block_faults p n) m tt e
