-- What placement leaves: the lane as it was where it refuses, and else each place with the sum of its copies.
-- Assumes nothing.
use Prim.Native.Nat.{ℕ, ◌≤◌, ◌<◌}
use mathlib.Core.Path.{◌≡◌, refl, sym, ap, ◌∙◌, subst}
use mathlib.Core.Bool.{Bool, true, false, not}
use mathlib.Core.List.{List, [], ◌∷◌}
use mathlib.Core.Logic.{⊎_elim}
use native.Mathlib.Omega.{arith}
use lib.Dec.{eqb, ltb}
use lib.ListN.{length}
use lib.IntN.{ℤ, pos}
use borrow.Author.Tests.{eq-eqb, eqb-true, ne_eqb, le-ltb}
use Rattle.ground.specs.Choice.{choose, Fault, refuse, first_of}
use Rattle.ground.specs.Outcome.{Is}
use Rattle.ground.proofs.Choice.{choose_true, choose_false}
use Rattle.ground.proofs.Faults.{first_before}
use Rattle.ground.proofs.Refusing.{refusal_leaves, acceptance_leaves}
use Rattle.ground.proofs.Table.{tab_ext}
use Rattle.patterns.specs.Rows.{copies}
use Rattle.patterns.specs.Blocks.{block_by, block_faults, Coded}
use Rattle.patterns.specs.Sent.{places, total, sent, code_length}
use Rattle.patterns.proofs.Blocks.{fit_coded, coded_fit, fit_after, coded_bounds, block_le}
use Rattle.patterns.proofs.Length.{total_rule}
use Rattle.placement.specs.Place.{received_from, held, placed, block_of, faults, placing}
use Rattle.held.specs.Held.{run}
use Rattle.placement.specs.Inside.{Placeable, Placed}
use Rattle.placement.proofs.Received.{received_run}

-- the copies of a place are the values behind those of the places before it
pub received_is : (p n : ℕ) (values : List ℤ) (k : ℕ) → k < places n → received_from (sent p n) values k ≡ run values (total (copies p n) k) (copies p n k)
unfolding sent
received_is p n values k h = received_run (copies p n) values k (places n) h

pub placed_is : (p n : ℕ) (values lane : List ℤ) {at : ℕ} → Placed p n values lane at (places n) → lane ≡ placed p n values
unfolding placed
placed_is p n values lane h =
    tab_ext (λ k. held (received_from (sent p n) values k)) (pos 0) (places n) lane h.len (λ k l. h.holds k l ∙ ap held (sym (received_is p n values k l)))

-- what placing asks still holds of a lane in which places are filled
pub placeable_still : {p n : ℕ} {values lane lane' : List ℤ} {at q : ℕ} → Placeable p n values lane → Placed p n values lane' at q → Placeable p n values lane'
placeable_still h u = record { pattern = h.pattern; some = h.some; most = h.most; all = h.all; room = u.len }

-- a lane's length is that of its block's places
lane_length : (len : ℕ) → (block_by 61440 3840 len ≡ 0 → ⊥) → len ≡ places (block_by 61440 3840 len)
unfolding block_by
lane_length len = go (eqb len 61440) (eqb len 3840) refl refl
  where
    go : (a b : Bool) → eqb len 61440 ≡ a → eqb len 3840 ≡ b → (choose {A = ℕ} a 12282 (choose b 762 0) ≡ 0 → ⊥) → len ≡ places (choose a 12282 (choose b 762 0))
    go true b ea eb h = eqb-true len 61440 ea
    go false true ea eb h = eqb-true len 3840 eb
    go false false ea eb h = absurd (h refl)

-- where nothing is refused, the values can be placed
placeable : (p n : ℕ) (values lane : List ℤ) → n ≡ block_of lane → first_of (block_faults p n) ≡ 0 → length values ≡ code_length p n → Placeable p n values lane
placeable p n values lane e z l =
    let h : Coded p n = subst (λ (m : ℕ). first_of (block_faults p m) ≡ 0 → Coded p m) (sym e) (fit_coded 61440 3840 (length lane) p) z in
    let b = coded_bounds p n h in
    record {
      pattern = b.0;
      some = b.1;
      most = b.2;
      all = total_rule p n h ∙ sym l;
      room = lane_length (length lane) (λ q. omega (arith, b.1, e, q)) ∙ ap places (sym e);
    }

-- what the code finds, of the block that the lane's length tells: what patterns answers of it, and how many code bits it has
module _ (p : ℕ) (values lane : List ℤ) {n : ℕ} (block : n ≡ block_of lane) where
  -- a refusal leaves the lane as it was
  refused : {r : ℕ} → r ≡ first_of (faults p n (length values)) → (r ≡ 0 → ⊥) → Is (placing p values lane) r lane
  unfolding placing
  refused e h =
      refusal_leaves (first_of (faults p (block_of lane) (length values))) (placed p (block_of lane) values) lane (e ∙ ap (λ (m : ℕ). first_of (faults p m (length values))) block) h

  pub refused_unfit : {r : ℕ} → r ≡ first_of (block_faults p n) → (r ≡ 0 → ⊥) → Is (placing p values lane) r lane
  unfolding faults
  refused_unfit e h = refused (e ∙ sym (first_before (block_faults p n) (refuse 1 (not (eqb (length values) (code_length p n))) ∷ []) (λ z. h (e ∙ z)))) h

  module _ (fits : 0 ≡ first_of (block_faults p n)) {size : ℕ} (told : size ≡ choose (ltb 12282 n) 0 (code_length p n)) where
    size_is : size ≡ code_length p n
    size_is = told ∙ choose_false 0 (code_length p n) (le-ltb 12282 n (subst (λ (m : ℕ). m ≤ 12282) (sym block) (block_le 61440 3840 _)))

    late : first_of (faults p n (length values)) ≡ choose (not (eqb (length values) size)) 1 0
    unfolding faults
    late =
        fit_after p n (refuse 1 (not (eqb (length values) (code_length p n))) ∷ []) (sym fits)
        ∙ ap (λ (l : ℕ). choose {A = ℕ} (not (eqb (length values) l)) 1 0) (sym size_is)

    pub refused_length : (length values ≡ size → ⊥) → Is (placing p values lane) 1 lane
    refused_length h = refused (sym (late ∙ ap (λ (t : Bool). choose {A = ℕ} (not t) 1 0) (ne_eqb (length values) size h))) (λ z. omega arith)

    module _ (l : length values ≡ size) where
      pub asked : Placeable p n values lane
      asked = placeable p n values lane block (sym fits) (l ∙ size_is)

      pub wrote : {lane' : List ℤ} {at : ℕ} → Placed p n values lane' at (places n) → Is (placing p values lane) 0 lane'
      unfolding placing
      wrote {lane'} h =
          acceptance_leaves (first_of (faults p (block_of lane) (length values))) (placed p (block_of lane) values) lane
          (ap (λ (m : ℕ). first_of (faults p m (length values))) (sym block) ∙ late ∙ ap (λ (t : Bool). choose {A = ℕ} (not t) 1 0) (eq-eqb (length values) size l))
          (placed_is p n values lane' h ∙ ap (λ (m : ℕ). placed p m values) block)

-- a lane with as many places as a block has is that block's
lane_block : (p n : ℕ) → Coded p n → block_by 61440 3840 (places n) ≡ n
unfolding block_by
lane_block p n = ⊎_elim (λ w. rw w.1 refl) (λ w. rw w.1 refl)

-- a value for each code bit and a lane with a place for each of the block's are not refused
pub placing_zero : (p n : ℕ) (values lane lane' : List ℤ) (r : ℕ) → Coded p n → length values ≡ code_length p n → length lane ≡ places n
    → Is (placing p values lane) r lane' → (r ≡ 0) × (lane' ≡ placed p n values)
unfolding placing faults
placing_zero p n values lane lane' r h l m o =
    let b : block_of lane ≡ n = ap (block_by 61440 3840) m ∙ lane_block p n h in
    let last : List Fault = refuse 1 (not (eqb (length values) (code_length p n))) ∷ [] in
    let z : first_of (faults p (block_of lane) (length values)) ≡ 0 =
    ap (λ (i : ℕ). first_of (faults p i (length values))) b ∙ fit_after p n last (coded_fit p n h) ∙ simp (eq-eqb (length values) (code_length p n) l) in
    (o.answer ∙ z, o.memory ∙ choose_true _ lane (eq-eqb _ 0 z) ∙ ap (λ (i : ℕ). placed p i values) b)
