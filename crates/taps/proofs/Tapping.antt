-- The search behind refusal 10, one step of it.
-- Assumes nothing.
use Prim.Native.Nat.{ℕ, ◌+◌, ◌*◌, ◌≤◌, ◌<◌}
use mathlib.Core.Path.{◌≡◌, refl, sym, ap, ap₂, ◌∙◌, subst}
use mathlib.Core.Bool.{Bool, true, false, not}
use mathlib.Core.List.{List, [], ◌∷◌}
use native.Mathlib.Nat.{mul-add, add_assoc, mul-zero}
use native.Mathlib.Numerals.{add-one}
use native.Mathlib.Omega.{arith}
use lib.Dec.{eqb}
use lib.ListN.{length, take, drop, drop_of_length-le}
use lib.Seq.{drop-cons, drop-drop}
use Rattle.ground.specs.Choice.{both, either}
use Rattle.bits.specs.Places.{field_at, fields_at}
use Rattle.bits.proofs.Places.{fields_length, fields_get, fields_part}
use Rattle.description.specs.Rows.{total}
use Rattle.description.specs.Fields.{table16}
use Rattle.description.specs.Description.{own_sections}
use Rattle.description.specs.Tests.{taps_of, taps_wrong, tap_fault}
use Rattle.description.proofs.Each.{total_take, total_le}
use Rattle.views.specs.Rows.{row_at, rows_at}
use Rattle.views.specs.declared.View.{View}
use Rattle.views.proofs.Rows.{rows_length, rows_get, rows_take}
use Rattle.records.specs.Records.{pipe_of, pipe_at}
use Rattle.records.specs.declared.Pipe.{Pipe}
use Rattle.sheets.proofs.Owning.{total_more, apart_small}

-- what is asked of one payload pipe, as it is read
abbrev pub untapped : Pipe → List ℕ → Bool
untapped q ts = both (not (eqb q.width 0)) (not (eqb (total taps_of ts) 32))

-- the taps of one section more
pub taps_more : (w : List ℕ) (at step n k t : ℕ) → k < n → t ≡ total taps_of (take k (fields_at w at step 4 n))
    → t + taps_of (field_at w (at + step * k) 4) ≡ total taps_of (take (k + 1) (fields_at w at step 4 n))
taps_more w at step n k t h e =
    let ts : List ℕ = fields_at w at step 4 n in
    ap₂ ◌+◌ e (ap taps_of (sym (fields_get w at step 4 n k h)))
    ∙ sym (ap (λ (i : ℕ). total taps_of (take i ts)) (add-one k) ∙ total_take taps_of ts k 0 (subst (λ (m : ℕ). k < m) (sym (fields_length w at step 4 n)) h))

-- the payload pipe i, and the place from of its sections, behind those of the pipes before it
module _ (w : List ℕ) (v : View) (p : ℕ) where
  abbrev rows : List (List ℕ)
  rows = rows_at table16 48 p w v.pipes

  abbrev done : ℕ → ℕ
  done i = total own_sections (rows_at table16 48 i w v.pipes)

  abbrev ts : List ℕ
  ts = fields_at w v.sections v.apart 4 (done p)

  -- nothing was found in the pipes before i, whose sections end at the place from
  pub record Tapped (i from : ℕ) : Type 0 where
    pub place : from ≡ v.sections + v.apart * total own_sections (rows_at table16 48 i w v.pipes)
    pub far : from ≤ v.sections + 281470681677825 * i
    pub rest : tap_fault (rows_at table16 48 p w v.pipes) (fields_at w v.sections v.apart 4 (total own_sections (rows_at table16 48 p w v.pipes)))
        ≡ tap_fault (drop i (rows_at table16 48 p w v.pipes)) (drop (total own_sections (rows_at table16 48 i w v.pipes)) (fields_at w v.sections v.apart 4 (total own_sections (rows_at table16 48 p w v.pipes))))

  pub tapped_none : Tapped 0 v.sections
  unfolding rows_at Rattle.ground.specs.Table.tab total
  tapped_none = record { place = omega (arith, mul-zero v.apart); far = omega arith; rest = refl }

  module _ {i from : ℕ} (h : Tapped i from) (more : i < p) (q : Pipe) (e : q ≡ pipe_at w v.pipes i) where
    f : List ℕ
    f = row_at table16 w (v.pipes + 48 * i)

    own : q.d ≡ own_sections f
    unfolding pipe_at pipe_of f
    own = ap (λ (z : Pipe). z.d) e

    next : done i + own_sections f ≡ done (i + 1)
    unfolding f
    next = sym (total_more own_sections table16 48 w v.pipes i)

    all_done : done (i + 1) ≤ done p
    all_done =
        let a : take (i + 1) rows ≡ rows_at table16 48 (i + 1) w v.pipes = rows_take table16 48 w v.pipes p (i + 1) (omega arith) in
        subst (λ (l : List (List ℕ)). total own_sections l ≤ done p) a (total_le own_sections rows (i + 1))

    step : tap_fault rows ts ≡ either (untapped q (fields_at w from v.apart 4 q.d)) (tap_fault (drop (i + 1) rows) (drop (done (i + 1)) ts))
    unfolding tap_fault taps_wrong pipe_at pipe_of f
    step =
        let n : i < length rows = subst (λ (m : ℕ). i < m) (sym (rows_length table16 48 w v.pipes p)) more in
        let c : drop i rows ≡ f ∷ drop (i + 1) rows =
        drop-cons rows i [] n ∙ ap₂ (λ (x : List ℕ) (k : ℕ). x ∷ drop k rows) (rows_get table16 48 w v.pipes p i more) (sym (add-one i)) in
        let part : take (own_sections f) (drop (done i) ts) ≡ fields_at w from v.apart 4 q.d =
        fields_part w v.sections v.apart 4 (done p) (done i) (own_sections f) (omega (arith, next, all_done))
        ∙ ap₂ (λ (x k : ℕ). fields_at w x v.apart 4 k) (sym h.place) (sym own) in
        let width : taps_wrong f (fields_at w from v.apart 4 q.d) ≡ untapped q (fields_at w from v.apart 4 q.d) =
        ap (λ (z : Pipe). untapped z (fields_at w from v.apart 4 q.d)) (sym e) in
        h.rest ∙ ap (λ (r : List (List ℕ)). tap_fault r (drop (done i) ts)) c
        ∙ ap₂ (λ (b : Bool) (y : List ℕ). either b (tap_fault (drop (i + 1) rows) y))
        (ap (taps_wrong f) part ∙ width)
        (drop-drop (own_sections f) (done i) ts ∙ ap (λ (k : ℕ). drop k ts) next)

    pub tapped_found : untapped q (fields_at w from v.apart 4 q.d) ≡ true → tap_fault rows ts ≡ true
    tapped_found t = step ∙ ap (λ (b : Bool). either b (tap_fault (drop (i + 1) rows) (drop (done (i + 1)) ts))) t

    pub tapped_more : v.apart < 4294967296 → q.d < 65536 → untapped q (fields_at w from v.apart 4 q.d) ≡ false → Tapped (i + 1) (from + v.apart * q.d)
    tapped_more a small t = record {
      place =
          ap₂ (λ (x y : ℕ). x + v.apart * y) h.place own ∙ add_assoc v.sections (v.apart * done i) (v.apart * own_sections f)
          ∙ ap (λ (x : ℕ). v.sections + x) (sym (mul-add v.apart (done i) (own_sections f)) ∙ ap (λ (x : ℕ). v.apart * x) next);
      far = omega (arith, h.far, apart_small v.apart q.d a small);
      rest = step ∙ ap (λ (b : Bool). either b (tap_fault (drop (i + 1) rows) (drop (done (i + 1)) ts))) t;
    }

  pub tapped_done : {i from : ℕ} → Tapped i from → p ≤ i → tap_fault rows ts ≡ false
  unfolding tap_fault
  tapped_done {i} h k =
      h.rest ∙ ap (λ (r : List (List ℕ)). tap_fault r (drop (done i) ts)) (drop_of_length-le rows (subst (λ (n : ℕ). n ≤ i) (sym (rows_length table16 48 w v.pipes p)) k))
