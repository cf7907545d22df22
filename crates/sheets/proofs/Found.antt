-- What an answer with counts says of the tests behind it, and a test in front of others.
-- Assumes nothing.
use Prim.Native.Nat.{ℕ}
use mathlib.Core.Path.{◌≡◌, refl, ap, ◌∙◌}
use mathlib.Core.Bool.{Bool, true, false}
use mathlib.Core.List.{List, [], ◌∷◌}
use lib.ListN.{get_or}
use Rattle.ground.specs.Outcome.{Told}
use Rattle.ground.specs.Choice.{choose, Fault, first_of, verdict}
use Rattle.ground.proofs.Answers.{accepted_with, accepted_with_lem}

-- an acceptance
abbrev pub counted : ℕ → ℕ → ℕ → Told
counted p s d = accepted_with (p ∷ s ∷ d ∷ [])

-- no fault is found, and the counts p, s and d are x, y and z
pub record Found (l : List Fault) (p s d x y z : ℕ) : Type 0 where
  pub clear : first_of l ≡ 0
  pub pipes : p ≡ x
  pub streams : s ≡ y
  pub sections : d ≡ z

pub counted_found : (l : List Fault) (x y z : ℕ) {p s d : ℕ} → counted p s d ≡ verdict l (x ∷ y ∷ z ∷ []) → Found l p s d x y z
counted_found l x y z e =
    let f = accepted_with_lem l x (y ∷ z ∷ []) e in
    record {
      clear = f.0;
      pipes = ap (λ (k : List ℕ). get_or k 0 0) f.1;
      streams = ap (λ (k : List ℕ). get_or k 1 0) f.1;
      sections = ap (λ (k : List ℕ). get_or k 2 0) f.1;
    }

-- a test, and what is behind it where it finds nothing
pub behind : {A : Type 0} {a b : Bool} {y z : A} (x : A) → a ≡ b → (a ≡ false → y ≡ z) → choose a x y ≡ choose b x z
behind {a = a} {b} {y} {z} x e f = by_case a f ∙ ap (λ (c : Bool). choose c x z) e
  where
    by_case : (c : Bool) → (c ≡ false → y ≡ z) → choose c x y ≡ choose c x z
    by_case true g = refl
    by_case false g = g refl
