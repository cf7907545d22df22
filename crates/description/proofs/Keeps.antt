-- A description keeps the rules exactly when its lists are as long as its records say, its rows fit their tables, and the tests find nothing in them.
-- Assumes nothing.
use Prim.Native.Nat.{ℕ, ◌+◌, ◌≤◌}
use mathlib.Core.Path.{◌≡◌, sym, ap₂, subst}
use mathlib.Core.Bool.{false}
use mathlib.Core.List.{List, [], ◌∷◌, ◌++◌, map}
use lib.ListN.{length, length-append}
use Rattle.description.specs.Rows.{Each, Row}
use Rattle.description.specs.Fields.{table16, table18, table19, sts_id, num_taps_div2}
use Rattle.description.specs.Description.{Pipe, Description, Lists, records_of, streams_of, sections_of, lists_of}
use Rattle.description.specs.Rules.{PipeKeeps, Keeps, size}
use Rattle.description.specs.Tests.{version_fault, lists_fault, width_fault, tap_fault, id_fault}
use Rattle.description.proofs.Each.{each_append, each_left, each_right, each_map}
use Rattle.description.proofs.Deal.{Owns, Sized, records_length}
use Rattle.description.proofs.Sound.{Sound}
use Rattle.description.proofs.Tests.{version_clear, clear_version, lists_clear, clear_lists, Whole, widths_clear, clear_widths, Tapped, taps_clear, clear_taps, ids_clear, clear_ids}

-- the tests find nothing in these lists
pub record Clean (l : Lists) : Type 0 where
  pub version : version_fault l.multiplex ≡ false
  pub fits : lists_fault (length l.pipes) (length l.streams) (length l.sections) ≡ false
  pub widths : width_fault l.pipes ≡ false
  pub tapped : tap_fault l.pipes (map num_taps_div2 l.sections) ≡ false
  pub unique : id_fault (map sts_id l.streams) ≡ false

-- ---- what the rules of each pipe say of the lists
each_records : (P : List ℕ → Type 0) (ps : List Pipe) → Each (λ p. P p.fields) ps → Each P (records_of ps)
unfolding records_of
each_records P [] h = tt
each_records P (p ∷ ps) h = (h.0, each_records P ps h.1)

each_streams : (ps : List Pipe) → Each (λ p. Each (Row table18) p.streams) ps → Each (Row table18) (streams_of ps)
unfolding streams_of
each_streams [] h = tt
each_streams (p ∷ ps) h = each_append (Row table18) p.streams (streams_of ps) h.0 (each_streams ps h.1)

each_sections : (ps : List Pipe) → Each (λ p. Each (Row table19) p.sections) ps → Each (Row table19) (sections_of ps)
unfolding sections_of
each_sections [] h = tt
each_sections (p ∷ ps) h = each_append (Row table19) p.sections (sections_of ps) h.0 (each_sections ps h.1)

-- ---- and back
pipes_keep : (ps : List Pipe) → Each Owns ps → Each (Row table16) (records_of ps) → Each (Row table18) (streams_of ps) → Each (Row table19) (sections_of ps)
    → Each Whole (records_of ps) → Each Tapped ps → Each PipeKeeps ps
unfolding records_of streams_of sections_of
pipes_keep [] o f s d w t = tt
pipes_keep (p ∷ ps) o f s d w t = (
  record {
    fields = f.0;
    streams = each_left (Row table18) p.streams (streams_of ps) s;
    sections = each_left (Row table19) p.sections (sections_of ps) d;
    owned = o.0.streams;
    disperser = o.0.sections;
    whole = w.0;
    tapped = t.0;
  },
  pipes_keep ps o.1 f.1 (each_right (Row table18) p.streams (streams_of ps) s) (each_right (Row table19) p.sections (sections_of ps) d) w.1 t.1,
)

-- the counts of a description's lists
counts : (d : Description) → size (length d.pipes) (length (streams_of d.pipes) + length d.tail_streams) (length (sections_of d.pipes))
    ≡ size (length (lists_of d).pipes) (length (lists_of d).streams) (length (lists_of d).sections)
unfolding lists_of
counts d = ap₂ (λ (p s : ℕ). size p s (length (sections_of d.pipes))) (sym (records_length d.pipes)) (sym (length-append (streams_of d.pipes) d.tail_streams))

module _ (d : Description) where
  pub sized_keeps : Keeps d → Sized d
  sized_keeps k = record {
    pipes = k.counted;
    each = each_map (λ p q. record { streams = q.owned; sections = q.disperser }) d.pipes k.pipes;
    tail = k.owned;
  }

  pub sound_keeps : Keeps d → Sound (lists_of d)
  unfolding lists_of
  sound_keeps k = record {
    multiplex = k.multiplex;
    pipes = each_records (Row table16) d.pipes (each_map (λ p q. q.fields) d.pipes k.pipes);
    tail = k.tail;
    streams = each_append (Row table18) (streams_of d.pipes) d.tail_streams (each_streams d.pipes (each_map (λ p q. q.streams) d.pipes k.pipes)) k.tail_streams;
    sections = each_sections d.pipes (each_map (λ p q. q.sections) d.pipes k.pipes);
  }

  pub clean_keeps : Keeps d → Clean (lists_of d)
  unfolding lists_of
  clean_keeps k = record {
    version = clear_version d.multiplex k.version;
    fits = clear_lists _ _ _ (subst (λ (n : ℕ). n ≤ 750) (counts d) k.fits);
    widths = clear_widths (records_of d.pipes) (each_records Whole d.pipes (each_map (λ p q. q.whole) d.pipes k.pipes));
    tapped = clear_taps d.pipes (sized_keeps k).each (each_map (λ p q. q.tapped) d.pipes k.pipes);
    unique = clear_ids (map sts_id (streams_of d.pipes ++ d.tail_streams)) k.unique;
  }

  pub keeps_clean : Sized d → Sound (lists_of d) → Clean (lists_of d) → Keeps d
  unfolding lists_of
  keeps_clean z s c = record {
    multiplex = s.multiplex;
    tail = s.tail;
    tail_streams = each_right (Row table18) (streams_of d.pipes) d.tail_streams s.streams;
    pipes = pipes_keep d.pipes z.each s.pipes (each_left (Row table18) (streams_of d.pipes) d.tail_streams s.streams) s.sections
        (widths_clear (records_of d.pipes) c.widths) (taps_clear d.pipes z.each c.tapped);
    version = version_clear d.multiplex c.version;
    counted = z.pipes;
    owned = z.tail;
    fits = subst (λ (n : ℕ). n ≤ 750) (sym (counts d)) (lists_clear _ _ _ c.fits);
    unique = ids_clear (map sts_id (streams_of d.pipes ++ d.tail_streams)) c.unique;
  }
