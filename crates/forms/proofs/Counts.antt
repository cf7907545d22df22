-- The tests of a sheet's records, one after the other.
-- Assumes nothing.
use Prim.Native.Nat.{ℕ, ◌+◌, ◌-◌, ◌*◌, ◌≤◌}
use mathlib.Core.Path.{◌≡◌, refl, sym, ap, ap₂, ◌∙◌}
use mathlib.Core.Bool.{false, not}
use mathlib.Core.List.{List, ◌∷◌}
use native.Mathlib.Omega.{arith}
use lib.Dec.{eqb, ltb}
use lib.ListN.{length}
use Rattle.ground.specs.Choice.{choose, either, refuse, first_of}
use Rattle.ground.proofs.Choice.{no_difference, either_false}
use Rattle.bits.specs.Lists.{unpack}
use Rattle.bits.specs.Places.{fields_at}
use Rattle.description.specs.Description.{Lists, stream_count, section_count}
use Rattle.description.specs.Rules.{size}
use Rattle.description.specs.Sheet.{sheet_end, sections_from}
use Rattle.description.specs.Tests.{version_fault, lists_fault, any_set, list_faults}
use Rattle.description.specs.Form1.{top_fault, count_fault, record_faults}
use Rattle.views.specs.View.{sheet_view, lists_at}
use Rattle.views.specs.declared.View.{View}
use Rattle.views.proofs.Views.{sheet_places}
use Rattle.views.proofs.Lists.{tops_are, sheet_lists_lem}
use Rattle.records.specs.Records.{multiplex_of, multiplex_at}
use Rattle.sheets.specs.Owned.{owned_at, tail_owned_at}
use Rattle.sheets.proofs.Found.{behind}
use Rattle.faults.specs.Faults.{own_lists, list_fault}
use Rattle.forms.specs.Records.{sheet_lists_at, record_faults_at, record_fault}

-- ---- 13
module _ (w : List ℕ) (v : View) (p s d : ℕ) where
  pub count_is : count_fault p s d (lists_at v p s d w)
      ≡ either (not (eqb p (multiplex_at w v.multiplex).pipes))
      (either (not (eqb s ((owned_at w v.pipes p).s + tail_owned_at w v.tail))) (not (eqb d (owned_at w v.pipes p).d)))
  unfolding count_fault lists_at multiplex_at multiplex_of stream_count section_count owned_at tail_owned_at
  count_is = refl

  -- where the counts are the records', there are as many sections as the pipes own
  sections_own : count_fault p s d (lists_at v p s d w) ≡ false → d ≡ (owned_at w v.pipes p).d
  sections_own e =
      let a = either_false (not (eqb p (multiplex_at w v.multiplex).pipes)) _ (sym count_is ∙ e) in
      let b = either_false (not (eqb s ((owned_at w v.pipes p).s + tail_owned_at w v.tail))) _ a.1 in
      no_difference d _ b.1

  judged_own : d ≡ (owned_at w v.pipes p).d → list_fault v p s w ≡ first_of (list_faults (lists_at v p s d w))
  unfolding list_fault own_lists
  judged_own e = ap (λ (k : ℕ). first_of (list_faults (lists_at v p s k w))) (sym e)

-- ---- by their places, and of the bits
pub record_is : (h p s d : ℕ) (w : List ℕ) → length w ≡ sheet_end h p s d → record_fault h p s d w ≡ first_of (record_faults h p s d (unpack w))
unfolding record_fault record_faults_at record_faults top_fault sheet_lists_at
record_is h p s d w long =
    ap₂ (λ (b : List ℕ) (l : Lists). first_of (refuse 14 (any_set b) ∷ refuse 6 (version_fault l.multiplex) ∷ refuse 13 (count_fault p s d l) ∷ refuse 7 (lists_fault p s d) ∷ list_faults l))
    (tops_are h p s d w long) (sheet_lists_lem h p s d w long)

-- ---- the tests in their order
pub fault_is : (h p s d : ℕ) (w : List ℕ) (v : View) → v ≡ sheet_view h p s
    → record_fault h p s d w
    ≡ choose (any_set (fields_at w (v.sections - 4) 16 4 d)) 14
    (choose (not (eqb (multiplex_at w v.multiplex).version 0)) 6
    (choose (count_fault p s d (lists_at v p s d w)) 13
    (choose (ltb 750 (size p s d)) 7 (list_fault v p s w))))
unfolding record_fault record_faults_at sheet_lists_at version_fault lists_fault lists_at multiplex_at multiplex_of
fault_is h p s d w v e =
    let k : 8 * sections_from h p s ≡ v.sections - 4 = omega (arith, (sheet_places h p s v e).sections) in
    (λ i. first_of (refuse 14 (any_set (fields_at w (k i) 16 4 d)) ∷ refuse 6 (version_fault (lists_at (sym e i) p s d w).multiplex) ∷ refuse 13 (count_fault p s d (lists_at (sym e i) p s d w)) ∷ refuse 7 (lists_fault p s d) ∷ list_faults (lists_at (sym e i) p s d w)))
    ∙ ap (λ (n : ℕ). choose (any_set (fields_at w (v.sections - 4) 16 4 d)) 14 (choose (not (eqb (multiplex_at w v.multiplex).version 0)) 6 n))
    (behind 13 refl (λ f. ap (choose (ltb 750 (size p s d)) 7) (sym (judged_own w v p s d (sections_own w v p s d f)))))

pub above : (h p s : ℕ) (v : View) → v ≡ sheet_view h p s → 4 ≤ v.sections
above h p s v e = omega (arith, (sheet_places h p s v e).sections)
