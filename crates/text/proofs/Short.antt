-- How long a listing is: no text has more than 815 bytes.
-- Assumes nothing.
use Prim.Native.Nat.{ℕ, suc, ◌+◌, ◌*◌, ◌≤◌, ◌<◌}
use mathlib.Core.Path.{◌≡◌, sym, ◌∙◌}
use mathlib.Core.List.{List, [], ◌∷◌}
use native.Mathlib.Nat.{mul-suc, le_trans}
use native.Mathlib.Decide.{ℕ_discrete}
use native.Mathlib.Omega.{arith}
use lib.ListN.{length, length-append}
use borrow.Author.Tests.{eq-eqb, ne_eqb}
use Rattle.ground.specs.Choice.{first_of}
use Rattle.ground.proofs.Choice.{first_most}
use Rattle.ground.proofs.Answers.{verdict_number}
use Rattle.description.specs.Rows.{Each, Row}
use Rattle.description.specs.Fields.{table15, table16, table16b, operator_id, frame_index, punct_pat, pipe_width, tail_width}
use Rattle.description.specs.Description.{Lists, own_streams, own_sections}
use Rattle.description.specs.Rules.{size}
use Rattle.description.specs.Header.{p_stated, s_stated, d_stated}
use Rattle.description.specs.Form1.{lists_stated, record_faults, sheet_faults, checked}
use Rattle.description.proofs.Rows.{row_at_lem}
use Rattle.description.proofs.Sound.{Sound}
use Rattle.description.proofs.Restated.{sound_stated, clean_stated}
use Rattle.description.proofs.Bounds.{own_bounds}
use Rattle.description.proofs.Tests.{lists_clear}
use Rattle.words.proofs.Decimal.{digits_most}
use Rattle.words.proofs.Room.{filled_room}
use Rattle.pipe_lines.specs.Lines.{pipe_line, pipe_lines, tail_line}
use Rattle.lines.specs.Lines.{multiplex_line, accepted}
use Rattle.lines.proofs.Lined.{accepted_length}
use Rattle.text.specs.Listing.{refused, listing}

-- ---- each line
pipe_short : (k : ℕ) (f : List ℕ) → k < 100 → Row table16 f → length (pipe_line k f) ≤ 52
unfolding pipe_line
pipe_short k f h r =
    let o = own_bounds f r in
    let a = digits_most 1 k h in
    let b = digits_most 1 (punct_pat f) (omega (arith, row_at_lem table16 f 0 r (omega arith))) in
    let c = digits_most 3 (pipe_width f) (omega (arith, row_at_lem table16 f 1 r (omega arith))) in
    let d = digits_most 1 (own_streams f) (omega (arith, o.0)) in
    let e = digits_most 0 (own_sections f) (omega (arith, o.1)) in
    filled_room _ _ (2 ∷ 2 ∷ 4 ∷ 2 ∷ 1 ∷ []) (a, (b, (c, (d, (e, tt)))))

pipes_short : (k : ℕ) (fs : List (List ℕ)) → k + length fs ≤ 100 → Each (Row table16) fs → length (pipe_lines k fs) ≤ 52 * length fs
unfolding pipe_lines
pipes_short k [] h r = omega arith
pipes_short k (f ∷ fs) h r =
    omega (arith, length-append (pipe_line k f) (pipe_lines (suc k) fs), pipe_short k f (omega arith) r.0, pipes_short (suc k) fs (omega arith) r.1, mul-suc 52 (length fs))

multiplex_short : (l : Lists) → Row table15 l.multiplex → length l.pipes < 100 → length l.streams < 100 → length l.sections < 100
    → length (multiplex_line l) ≤ 69
unfolding multiplex_line
multiplex_short l r p s d =
    let a = digits_most 2 (operator_id l.multiplex) (omega (arith, row_at_lem table15 l.multiplex 3 r (omega arith))) in
    let b = digits_most 6 (frame_index l.multiplex) (omega (arith, row_at_lem table15 l.multiplex 6 r (omega arith))) in
    let c = digits_most 1 (length l.pipes) p in
    let e = digits_most 1 (length l.streams) s in
    let f = digits_most 1 (length l.sections) d in
    filled_room _ _ (3 ∷ 7 ∷ 2 ∷ 2 ∷ 2 ∷ []) (a, (b, (c, (e, (f, tt)))))

tail_short : (t : List ℕ) → Row table16b t → length (tail_line t) ≤ 15
unfolding tail_line
tail_short t r =
    elim (ℕ_discrete (tail_width t) 0) [
      | yes e ↦ rw (eq-eqb (tail_width t) 0 e) (le_trans (filled_room _ [] [] tt) (omega arith))
      | no e ↦ rw (ne_eqb (tail_width t) 0 e) (filled_room _ _ (3 ∷ []) (digits_most 2 (tail_width t) (omega (arith, row_at_lem table16b t 2 r (omega arith))), tt))
    ]

refused_short : (n : ℕ) → n < 1000 → length (refused n) ≤ 12
unfolding refused
refused_short n h = filled_room _ _ (3 ∷ []) (digits_most 2 n h, tt)

-- ---- the whole
checked_number : (sh : List ℕ) → (checked sh).number ≡ first_of (sheet_faults sh)
unfolding checked
checked_number sh = verdict_number (sheet_faults sh) (p_stated sh ∷ s_stated sh ∷ d_stated sh ∷ [])

faults_most : (sh : List ℕ) → first_of (sheet_faults sh) ≤ 14
unfolding sheet_faults record_faults
faults_most sh = first_most 14 (sheet_faults sh) tt

-- sound lists within 750 bits
lists_short : (l : Lists) → Sound l → size (length l.pipes) (length l.streams) (length l.sections) ≤ 750 → length (accepted l) ≤ 815
lists_short l s h =
    let m = multiplex_short l s.multiplex (omega arith) (omega arith) (omega arith) in
    let r = pipes_short 1 l.pipes (omega arith) s.pipes in
    let t = tail_short l.tail s.tail in
    omega (arith, accepted_length l)

-- every sheet's
pub listing_short : (sh : List ℕ) → length (listing sh) ≤ 815
unfolding listing
listing_short sh =
    elim (ℕ_discrete (first_of (sheet_faults sh)) 0) [
      | yes e ↦ rw (eq-eqb (checked sh).number 0 (checked_number sh ∙ e)) (lists_short (lists_stated sh) (sound_stated sh) (lists_clear _ _ _ (clean_stated sh e).fits))
      | no e ↦ rw (ne_eqb (checked sh).number 0 (λ z. e (sym (checked_number sh) ∙ z)))
          (le_trans (refused_short (checked sh).number (omega (arith, checked_number sh, faults_most sh))) (omega arith))
    ]
