-- Each test finds nothing exactly where its rule holds.
-- Assumes nothing.
use Prim.Native.Nat.{ℕ, zero, suc, ◌+◌, ◌*◌, ◌/◌, ◌%◌, ◌≤◌, ◌<◌}
use mathlib.Core.Path.{◌≡◌, refl, sym, ap, ap₂, ◌∙◌}
use mathlib.Core.Bool.{Bool, true, false, not}
use mathlib.Core.List.{List, [], ◌∷◌, map, map-append}
use native.Mathlib.Nat.{div-add-mod', mul-mod_left, not-suc-le-zero}
use native.Mathlib.Decide.{dec_lt}
use native.Mathlib.Omega.{arith}
use lib.Dec.{eqb, ltb}
use lib.ListN.{length, get_or, take, drop, replicate, length-map}
use lib.Seq.{take_at, drop_at}
use borrow.Author.Tests.{eqb-false, ltb-false, eq-eqb, ne_eqb, lt-ltb, le-ltb}
use Rattle.ground.specs.Choice.{either, any}
use Rattle.ground.proofs.Choice.{no_difference, either_false, skip, both_false, both_first, both_second}
use Rattle.patterns.specs.Rates.{units_of}
use Rattle.description.specs.Rows.{Each, total}
use Rattle.description.specs.Fields.{sig_pipe_ver, punct_pat, pipe_width, num_taps_div2}
use Rattle.description.specs.Description.{Pipe, own_sections, records_of, sections_of}
use Rattle.description.specs.Rules.{Multiple, Distinct, size, taps}
use Rattle.description.specs.Tests.{version_fault, lists_fault, any_set, width_wrong, width_fault, taps_wrong, tap_fault, member, id_fault}
use Rattle.description.proofs.Each.{total_map}
use Rattle.description.proofs.Deal.{Owns}

not_is : {b : Bool} → b ≡ true → not b ≡ false
not_is e = ap not e

-- ---- 6 and 7
pub version_clear : (m : List ℕ) → version_fault m ≡ false → sig_pipe_ver m ≡ 0
unfolding version_fault
version_clear m e = no_difference (sig_pipe_ver m) 0 e

pub clear_version : (m : List ℕ) → sig_pipe_ver m ≡ 0 → version_fault m ≡ false
unfolding version_fault
clear_version m e = not_is (eq-eqb (sig_pipe_ver m) 0 e)

pub lists_clear : (p s d : ℕ) → lists_fault p s d ≡ false → size p s d ≤ 750
unfolding lists_fault
lists_clear p s d e = ltb-false 750 (size p s d) e

pub clear_lists : (p s d : ℕ) → size p s d ≤ 750 → lists_fault p s d ≡ false
unfolding lists_fault
clear_lists p s d h = le-ltb 750 (size p s d) h

-- ---- bits that are zero
pub none_set : (l : List ℕ) → any_set l ≡ false → l ≡ replicate (length l) 0
unfolding any_set any
none_set [] e = refl
none_set (b ∷ l) e =
    let h = either_false (not (eqb b 0)) (any_set l) e in
    ap₂ (λ (x : ℕ) (y : List ℕ). x ∷ y) (no_difference b 0 h.0) (none_set l h.1)

pub set_none : (n : ℕ) → any_set (replicate n 0) ≡ false
unfolding any_set any
set_none zero = refl
set_none (suc n) = set_none n

-- ---- 9
abbrev pub Whole : List ℕ → Type 0
Whole f = 0 < pipe_width f → punct_pat f < 28 → Multiple (units_of (punct_pat f)) (pipe_width f)

width_right : (f : List ℕ) → width_wrong f ≡ false → Whole f
unfolding width_wrong
width_right f e u k =
    let m : ℕ = units_of (punct_pat f) in
    let z : pipe_width f % m ≡ 0 =
    no_difference (pipe_width f % m) 0 (both_false (ltb (punct_pat f) 28) (not (eqb (pipe_width f % m) 0)) e (lt-ltb (punct_pat f) 28 k)) in
    (pipe_width f / m, sym (div-add-mod' (pipe_width f) m) ∙ ap (λ (r : ℕ). pipe_width f / m * m + r) z ∙ omega arith)

right_width : (f : List ℕ) → Whole f → width_wrong f ≡ false
unfolding width_wrong
right_width f h =
    elim (dec_lt (punct_pat f) 28) [
      | yes k ↦ both_second (ltb (punct_pat f) 28) (not_is (eq-eqb (pipe_width f % units_of (punct_pat f)) 0 (rest k (dec_lt 0 (pipe_width f)))))
      | no k ↦ both_first (not (eqb (pipe_width f % units_of (punct_pat f)) 0)) (le-ltb (punct_pat f) 28 (omega arith))
    ]
  where
    rest : punct_pat f < 28 → Dec (0 < pipe_width f) → pipe_width f % units_of (punct_pat f) ≡ 0
    rest k (yes u) = let q = h u k in rw q.1 (mul-mod_left q.0 (units_of (punct_pat f)))
    rest k (no u) = let z : pipe_width f ≡ 0 = omega arith in rw z (native.Mathlib.Nat.zero-mod (units_of (punct_pat f)))

pub widths_clear : (fs : List (List ℕ)) → width_fault fs ≡ false → Each Whole fs
unfolding width_fault any
widths_clear [] e = tt
widths_clear (f ∷ fs) e = let h = either_false (width_wrong f) (width_fault fs) e in (width_right f h.0, widths_clear fs h.1)

pub clear_widths : (fs : List (List ℕ)) → Each Whole fs → width_fault fs ≡ false
unfolding width_fault any
clear_widths [] h = refl
clear_widths (f ∷ fs) h = skip (right_width f h.0) (clear_widths fs h.1)

-- ---- 10
abbrev pub Tapped : Pipe → Type 0
Tapped p = 0 < pipe_width p.fields → total taps p.sections ≡ 32

taps_right : (p : Pipe) → taps_wrong p.fields (map num_taps_div2 p.sections) ≡ false → Tapped p
unfolding taps_wrong
taps_right p e u =
    let ts : List ℕ = map num_taps_div2 p.sections in
    let n : not (eqb (pipe_width p.fields) 0) ≡ true = ap not (ne_eqb (pipe_width p.fields) 0 (λ z. omega arith)) in
    sym (total_map num_taps_div2 (λ k. (k + 1) * 2) p.sections)
    ∙ no_difference (total (λ k. (k + 1) * 2) ts) 32 (both_false (not (eqb (pipe_width p.fields) 0)) (not (eqb (total (λ k. (k + 1) * 2) ts) 32)) e n)

right_taps : (p : Pipe) → Tapped p → taps_wrong p.fields (map num_taps_div2 p.sections) ≡ false
unfolding taps_wrong
right_taps p h =
    elim (dec_lt 0 (pipe_width p.fields)) [
      | yes u ↦ both_second (not (eqb (pipe_width p.fields) 0))
          (not_is (eq-eqb (total (λ k. (k + 1) * 2) (map num_taps_div2 p.sections)) 32 (total_map num_taps_div2 (λ k. (k + 1) * 2) p.sections ∙ h u)))
      | no u ↦ both_first (not (eqb (total (λ k. (k + 1) * 2) (map num_taps_div2 p.sections)) 32)) (not_is (eq-eqb (pipe_width p.fields) 0 (omega arith)))
    ]

-- what is dealt to the first pipe, and what is left
taps_step : (p : Pipe) (ps : List Pipe) → Owns p
    → tap_fault (records_of (p ∷ ps)) (map num_taps_div2 (sections_of (p ∷ ps)))
    ≡ either (taps_wrong p.fields (map num_taps_div2 p.sections)) (tap_fault (records_of ps) (map num_taps_div2 (sections_of ps)))
unfolding tap_fault records_of sections_of
taps_step p ps o =
    let n : length (map num_taps_div2 p.sections) ≡ own_sections p.fields = length-map p.sections num_taps_div2 ∙ o.sections in
    let a : List ℕ = map num_taps_div2 p.sections in
    let b : List ℕ = map num_taps_div2 (sections_of ps) in
    ap (λ (l : List ℕ). either (taps_wrong p.fields (take (own_sections p.fields) l)) (tap_fault (records_of ps) (drop (own_sections p.fields) l))) (map-append num_taps_div2 p.sections (sections_of ps))
    ∙ ap₂ (λ (x y : List ℕ). either (taps_wrong p.fields x) (tap_fault (records_of ps) y)) (take_at a b (own_sections p.fields) n) (drop_at a b (own_sections p.fields) n)

pub taps_clear : (ps : List Pipe) → Each Owns ps → tap_fault (records_of ps) (map num_taps_div2 (sections_of ps)) ≡ false → Each Tapped ps
taps_clear [] o e = tt
taps_clear (p ∷ ps) o e =
    let h = either_false (taps_wrong p.fields (map num_taps_div2 p.sections)) (tap_fault (records_of ps) (map num_taps_div2 (sections_of ps))) (sym (taps_step p ps o.0) ∙ e) in
    (taps_right p h.0, taps_clear ps o.1 h.1)

pub clear_taps : (ps : List Pipe) → Each Owns ps → Each Tapped ps → tap_fault (records_of ps) (map num_taps_div2 (sections_of ps)) ≡ false
unfolding tap_fault records_of
clear_taps [] o h = refl
clear_taps (p ∷ ps) o h = taps_step p ps o.0 ∙ skip (right_taps p h.0) (clear_taps ps o.1 h.1)

-- ---- 11
no_member : (x : ℕ) (l : List ℕ) → member x l ≡ false → (j : ℕ) → j < length l → x ≡ get_or l j 0 → ⊥
unfolding member any
no_member x [] e j h q = not-suc-le-zero h
no_member x (y ∷ l) e zero h q = eqb-false x y (either_false (eqb x y) (member x l) e).0 q
no_member x (y ∷ l) e (suc j) h q = no_member x l (either_false (eqb x y) (member x l) e).1 j (omega arith) q

member_no : (x : ℕ) (l : List ℕ) → ((j : ℕ) → j < length l → x ≡ get_or l j 0 → ⊥) → member x l ≡ false
unfolding member any
member_no x [] h = refl
member_no x (y ∷ l) h = skip (ne_eqb x y (h 0 (omega arith))) (member_no x l (λ j p. h (suc j) (omega arith)))

pub ids_clear : (l : List ℕ) → id_fault l ≡ false → Distinct l
unfolding id_fault
ids_clear [] e i j h k q = not-suc-le-zero k
ids_clear (x ∷ l) e zero zero h k q = not-suc-le-zero h
ids_clear (x ∷ l) e zero (suc j) h k q = no_member x l (either_false (member x l) (id_fault l) e).0 j (omega arith) q
ids_clear (x ∷ l) e (suc i) zero h k q = not-suc-le-zero h
ids_clear (x ∷ l) e (suc i) (suc j) h k q = ids_clear l (either_false (member x l) (id_fault l) e).1 i j (omega arith) (omega arith) q

pub clear_ids : (l : List ℕ) → Distinct l → id_fault l ≡ false
unfolding id_fault
clear_ids [] h = refl
clear_ids (x ∷ l) h =
    skip (member_no x l (λ j p q. h 0 (suc j) (omega arith) (omega arith) q))
    (clear_ids l (λ i j p k q. h (suc i) (suc j) (omega arith) (omega arith) q))
