-- The search behind refusal 11: from the last stream to the first, with the ids that stand behind marked by their numbers.
-- Assumes nothing.
use Prim.Native.Nat.{ℕ, zero, suc, ◌+◌, ◌-◌, ◌*◌, ◌≤◌, ◌<◌}
use mathlib.Core.Path.{◌≡◌, refl, sym, ap, ap₂, ◌∙◌}
use mathlib.Core.Bool.{Bool, true, false}
use mathlib.Core.List.{List, [], ◌∷◌}
use native.Mathlib.Decide.{ℕ_discrete}
use native.Mathlib.Omega.{arith}
use borrow.Author.Tests.{eq-eqb, ne_eqb}
use lib.ListN.{length, get_or, set, drop, replicate, length-set, length-replicate, get_or-replicate, drop_of_length-le}
use lib.Seq.{drop-cons, get_or-set_same, get_or-set_other}
use Rattle.ground.specs.Choice.{either, any}
use Rattle.ground.proofs.Choice.{skip, hit}
use Rattle.bits.specs.Places.{field_at, fields_at}
use Rattle.bits.proofs.Places.{field_lt, fields_get}
use Rattle.description.specs.Tests.{member, id_fault}

-- the id that was read of the stream k
pub id_read : {x : ℕ} (w : List ℕ) (at s k : ℕ) → k < s → x ≡ field_at w (at + 16 * k) 8 → (x < 256) × (x ≡ get_or (fields_at w at 16 8 s) k 0)
id_read w at s k h e = (omega (arith, e, field_lt w (at + 16 * k) 8 (omega arith)), e ∙ sym (fields_get w at 16 8 s k h))

-- the ids from the stream i on are the marked ones, and none of them stands twice
pub record Seen (ids : List ℕ) (i : ℕ) (seen : List Bool) : Type 0 where
  pub room : length seen ≡ 256
  pub marks : (x : ℕ) → x < 256 → get_or seen x false ≡ member x (drop i ids)
  pub once : id_fault (drop i ids) ≡ false

pub seen_none : (ids : List ℕ) (i : ℕ) → length ids ≤ i → Seen ids i (replicate 256 false)
unfolding member any id_fault
seen_none ids i h = record {
  room = length-replicate {A = Bool} 256 false;
  marks = λ x k. get_or-replicate 256 x false false k ∙ sym (ap (member x) (drop_of_length-le ids h));
  once = ap id_fault (drop_of_length-le ids h);
}

-- an id that stands twice from the stream i on stands twice
twice_behind : (ids : List ℕ) (i : ℕ) → id_fault (drop i ids) ≡ true → id_fault ids ≡ true
unfolding id_fault
twice_behind ids zero e = e
twice_behind [] (suc i) e = e
twice_behind (x ∷ ids) (suc i) e = ap (either (member x ids)) (twice_behind ids i e) ∙ always (member x ids)
  where
    always : (b : Bool) → either b true ≡ true
    always true = refl
    always false = refl

-- the stream before the stream i, whose id is x
module _ {ids : List ℕ} {i x : ℕ} {seen : List Bool} (h : Seen ids i seen) (more : 0 < i) (within : i ≤ length ids) (is : x ≡ get_or ids (i - 1) 0) (fits : x < 256) where
  step : drop (i - 1) ids ≡ x ∷ drop i ids
  step =
      let e : suc (i - 1) ≡ i = omega arith in
      drop-cons ids (i - 1) 0 (omega arith) ∙ ap₂ (λ (y k : ℕ). y ∷ drop k ids) (sym is) e

  pub seen_found : get_or seen x false ≡ true → id_fault ids ≡ true
  unfolding id_fault
  seen_found e = twice_behind ids (i - 1) (ap id_fault step ∙ hit (id_fault (drop i ids)) (sym (h.marks x fits) ∙ e))

  pub seen_more : get_or seen x false ≡ false → Seen ids (i - 1) (set seen x true)
  unfolding member any id_fault
  seen_more e = record {
    room = length-set seen x true ∙ h.room;
    marks = λ y k.
        elim (ℕ_discrete y x) [
          | yes q ↦ ap (λ (z : ℕ). get_or (set seen x true) z false) q ∙ get_or-set_same seen x true false (omega (arith, h.room)) ∙ sym (ap (member y) step ∙ hit (member y (drop i ids)) (eq-eqb y x q))
          | no q ↦ get_or-set_other seen x y true false q ∙ h.marks y k ∙ sym (ap (member y) step ∙ skip (ne_eqb y x q) refl)
        ];
    once = ap id_fault step ∙ skip (sym (h.marks x fits) ∙ e) h.once;
  }

pub seen_all : {ids : List ℕ} {i : ℕ} {seen : List Bool} → Seen ids i seen → i ≡ 0 → id_fault ids ≡ false
seen_all {ids} h e = ap (λ (k : ℕ). id_fault (drop k ids)) (sym e) ∙ h.once
