-- Laws of refusals that are looked for in two parts: the first part answers, or the second does.
-- Assumes nothing.
use mathlib.Core.Path.{◌≡◌, refl, sym, ◌∙◌}
use mathlib.Core.Bool.{Bool, true, false}
use mathlib.Core.List.{List, [], ◌∷◌, ◌++◌}
use native.Mathlib.Decide.{ℕ_discrete}
use lib.Dec.{T}
use Rattle.ground.specs.Choice.{choose, Fault, first_of}
use Rattle.ground.proofs.Choice.{numbered, AllClear, all_clear, first_clear}

-- faults of which none is found are passed
pub first_after : (l m : List Fault) → T (numbered l) → first_of l ≡ 0 → first_of (l ++ m) ≡ first_of m
first_after l m t e = go l (all_clear l t e)
  where
    go : (l : List Fault) → AllClear l → first_of (l ++ m) ≡ first_of m
    go [] c = refl
    go (f ∷ l) c = first_clear f (l ++ m) c.0 ∙ go l c.1

-- a fault that is found answers, whatever is looked for behind it
pub first_before : (l m : List Fault) → (first_of l ≡ 0 → ⊥) → first_of (l ++ m) ≡ first_of l
first_before [] m h = absurd (h refl)
first_before (f ∷ l) m h = go f.found h (first_before l m)
  where
    go : (b : Bool) → (choose b f.number (first_of l) ≡ 0 → ⊥) → ((first_of l ≡ 0 → ⊥) → first_of (l ++ m) ≡ first_of l)
        → choose b f.number (first_of (l ++ m)) ≡ choose b f.number (first_of l)
    go true k rest = refl
    go false k rest = rest k

-- an answer of 0 is that of both parts
pub first_parts : (l m : List Fault) → T (numbered l) → first_of (l ++ m) ≡ 0 → (first_of l ≡ 0) × (first_of m ≡ 0)
first_parts l m t e =
    elim (ℕ_discrete (first_of l) 0) [
      | yes z ↦ (z, sym (first_after l m t z) ∙ e)
      | no h ↦ absurd (h (sym (first_before l m h) ∙ e))
    ]
