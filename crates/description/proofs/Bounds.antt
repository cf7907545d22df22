-- How large an accepted description can be: p at most 14, s at most 34, d at most 32, and its sheet at most 121 bytes.
-- Assumes nothing.
use Prim.Native.Nat.{ℕ, ◌+◌, ◌*◌, ◌≤◌, ◌<◌}
use mathlib.Core.Bool.{Bool, true, false}
use mathlib.Core.List.{List, [], ◌∷◌}
use native.Mathlib.Decide.{dec_lt}
use native.Mathlib.Omega.{arith}
use lib.Dec.{eqb}
use lib.ListN.{length, get_or, length-append}
use Rattle.ground.specs.Choice.{choose}
use Rattle.description.specs.Rows.{Each, total, Row}
use Rattle.description.specs.Fields.{table16, pipe_width, num_sts1, num_disperser_sections1}
use Rattle.description.specs.Description.{Description, Lists, lists_of, streams_of, sections_of, own_streams, own_sections, tail_owns, stream_count, section_count}
use Rattle.description.specs.Rules.{Keeps, size}
use Rattle.description.specs.Bounds.{Bounds}
use Rattle.description.proofs.Deal.{Counted, counted, records_length}
use Rattle.description.proofs.Sound.{Sound}
use Rattle.description.proofs.Keeps.{Clean, sized_keeps, sound_keeps, clean_keeps}
use Rattle.description.proofs.Tests.{lists_clear}
use Rattle.description.proofs.Rows.{row_at_lem}

-- the count fields of a record have 5 and 3 bits
fields_small : (f : List ℕ) → Row table16 f → (num_sts1 f < 32) × (num_disperser_sections1 f < 8)
fields_small f r = (row_at_lem table16 f 2 r (omega arith), row_at_lem table16 f 3 r (omega arith))

-- a pipe that owns streams owns sections, and the other way round; neither is more than its field can say
pub own_bounds : (f : List ℕ) → Row table16 f
    → (own_streams f ≤ 32) × (own_sections f ≤ 8) × (own_streams f ≤ 32 * own_sections f) × (own_sections f ≤ 8 * own_streams f)
unfolding own_streams own_sections
own_bounds f r = let s = fields_small f r in go (eqb (pipe_width f) 0) s.0 s.1
  where
    go : (t : Bool) → num_sts1 f < 32 → num_disperser_sections1 f < 8
        → (choose t 0 (num_sts1 f + 1) ≤ 32) × (choose t 0 (num_disperser_sections1 f + 1) ≤ 8)
        × (choose t 0 (num_sts1 f + 1) ≤ 32 * choose t 0 (num_disperser_sections1 f + 1)) × (choose t 0 (num_disperser_sections1 f + 1) ≤ 8 * choose t 0 (num_sts1 f + 1))
    go true a b = (omega arith, omega arith, omega arith, omega arith)
    go false a b = (omega arith, omega arith, omega arith, omega arith)

pub tail_bound : (t : List ℕ) → tail_owns t ≤ 1
unfolding tail_owns
tail_bound t = go (eqb (get_or t 2 0) 0)
  where
    go : (b : Bool) → choose b 0 1 ≤ 1
    go true = omega arith
    go false = omega arith

-- the same of all payload pipes together
pub totals : (fs : List (List ℕ)) → Each (Row table16) fs
    → (total own_streams fs ≤ 32 * length fs) × (total own_sections fs ≤ 8 * length fs)
    × (total own_streams fs ≤ 32 * total own_sections fs) × (total own_sections fs ≤ 8 * total own_streams fs)
unfolding total
totals [] h = (omega arith, omega arith, omega arith, omega arith)
totals (f ∷ fs) h =
    let a = own_bounds f h.0 in
    let b = totals fs h.1 in
    (omega (arith, a.0, b.0), omega (arith, a.1, b.1), omega (arith, a.2, b.2), omega (arith, a.3, b.3))

-- numbers with these relations that fit into 750 bits
pub within : (p s d : ℕ) → s ≤ 32 * p + 1 → s ≤ 32 * d + 1 → d ≤ 8 * p → d ≤ 8 * s → size p s d ≤ 750 → Bounds p s d
within p s d a b c e f =
    let ss : s ≤ 34 = few (dec_lt 34 s) in
    let ds : d ≤ 32 = less (dec_lt 32 d) in
    record { pipes = omega arith; streams = ss; sections = ds; bytes = omega arith }
  where
    -- 35 streams need two pipes in use, and so two sections
    few : Dec (34 < s) → s ≤ 34
    few (yes q) =
        let two : 2 ≤ p = omega arith in
        let both : 2 ≤ d = omega arith in
        absurd (omega arith)
    few (no q) = omega arith

    -- 33 sections need five pipes in use, and so five streams
    less : Dec (32 < d) → d ≤ 32
    less (yes q) =
        let five : 5 ≤ p = omega arith in
        let all : 5 ≤ s = omega arith in
        absurd (omega arith)
    less (no q) = omega arith

pub bounds : (l : Lists) → Sound l → Counted l → Clean l → Bounds (length l.pipes) (length l.streams) (length l.sections)
unfolding stream_count section_count
bounds l s c k =
    let t = totals l.pipes s.pipes in
    let u = tail_bound l.tail in
    within (length l.pipes) (length l.streams) (length l.sections)
    (omega (arith, c.streams, t.0)) (omega (arith, c.streams, c.sections, t.2)) (omega (arith, c.sections, t.1)) (omega (arith, c.streams, c.sections, t.3))
    (lists_clear _ _ _ k.fits)

-- so a description that keeps the rules has at most 14 payload pipes, 34 streams, the tail's among them, and 32 sections, and a sheet of at most 121 bytes
pub keeps_bounds : (d : Description) → Keeps d
    → Bounds (length d.pipes) (length (streams_of d.pipes) + length d.tail_streams) (length (sections_of d.pipes))
unfolding lists_of
keeps_bounds d k = rw (records_length, length-append) at (bounds (lists_of d) (sound_keeps d k) (counted d (sized_keeps d k)) (clean_keeps d k))
