-- The search behind refusal 9, and the three in their order.
-- Assumes nothing.
use Prim.Native.Nat.{ℕ, ◌+◌, ◌*◌, ◌%◌}
use mathlib.Core.Path.{◌≡◌, sym, ap₂, ◌∙◌}
use mathlib.Core.Bool.{Bool, not}
use mathlib.Core.List.{List, [], ◌∷◌}
use lib.Dec.{eqb, ltb}
use Rattle.std.specs.List.{list_any, range_with_len}
use Rattle.ground.specs.Choice.{both, Fault, refuse, first_of}
use Rattle.bits.specs.Places.{fields_at}
use Rattle.patterns.specs.Rates.{units_of}
use Rattle.description.specs.Rows.{total}
use Rattle.description.specs.Fields.{table16}
use Rattle.description.specs.Description.{own_sections}
use Rattle.description.specs.Tests.{width_wrong, width_fault, tap_fault, id_fault}
use Rattle.views.specs.Rows.{row_at, rows_at}
use Rattle.views.specs.View.{lists_at}
use Rattle.views.specs.declared.View.{View}
use Rattle.views.proofs.Rows.{any_tab, first_fields}
use Rattle.records.specs.Records.{pipe_of, pipe_at}
use Rattle.records.specs.declared.Pipe.{Pipe}
use Rattle.sheets.specs.Owned.{owned_at}
use Rattle.faults.specs.Faults.{own_lists, list_fault}

-- what is asked of one payload pipe, as it is read
abbrev pub wide : Pipe → Bool
wide q = both (ltb q.pattern 28) (not (eqb (q.width % units_of q.pattern) 0))

-- 9: that of all payload pipes
pub widths : (w : List ℕ) (at p : ℕ) → list_any (λ i. wide (pipe_at w at i)) (range_with_len 0 p) ≡ width_fault (rows_at table16 48 p w at)
unfolding width_fault width_wrong pipe_at pipe_of rows_at
widths w at p = any_tab width_wrong (λ i. row_at table16 w (at + 48 * i)) 0 p

-- ---- the three in their order
abbrev pub judgements : Bool → Bool → Bool → List Fault
judgements a b c = refuse 9 a ∷ refuse 10 b ∷ refuse 11 c ∷ []

-- what the three found, one after the other, is what is asked
pub judged_is : (w : List ℕ) (v : View) (p s : ℕ) {a b c : Bool}
    → (let rows = rows_at table16 48 p w v.pipes in
    a ≡ width_fault rows → b ≡ tap_fault rows (fields_at w v.sections v.apart 4 (total own_sections rows)) → c ≡ id_fault (fields_at w v.streams 16 8 s)
    → first_of (judgements a b c) ≡ list_fault v p s w)
unfolding list_fault own_lists lists_at owned_at
judged_is w v p s e f g =
    let rows : List (List ℕ) = rows_at table16 48 p w v.pipes in
    (λ i. first_of (judgements (e i) (f i) (g i)))
    ∙ ap₂ (λ (x y : List ℕ). first_of (judgements (width_fault rows) (tap_fault rows x) (id_fault y)))
    (sym (first_fields 4 (3 ∷ 5 ∷ []) v.apart (total own_sections rows) w v.sections))
    (sym (first_fields 8 (8 ∷ []) 16 s w v.streams))
