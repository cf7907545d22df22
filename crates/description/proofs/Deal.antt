-- Streams and sections are dealt to the pipes that own them, and put together again.
-- Assumes nothing.
use Prim.Native.Nat.{ℕ, suc, ◌+◌, ◌≤◌}
use mathlib.Core.Path.{◌≡◌, refl, sym, ap, ap₂, ◌∙◌}
use mathlib.Core.List.{List, [], ◌∷◌, ◌++◌, append_assoc}
use native.Mathlib.Omega.{arith}
use lib.ListN.{length, take, drop, length-append, length-drop, take-append-drop}
use lib.Seq.{take_at, drop_at, take-add, length-take-le, take_all}
use Rattle.description.specs.Rows.{Each, total}
use Rattle.description.specs.Fields.{num_pipes1}
use Rattle.description.specs.Description.{Pipe, Description, Lists, own_streams, own_sections, tail_owns, records_of, streams_of, sections_of, lists_of, deal, describe, stream_count, section_count}

-- ---- a list dealt

deal_records : (fs ss ds : List (List ℕ)) → records_of (deal fs ss ds) ≡ fs
unfolding deal records_of
deal_records [] ss ds = refl
deal_records (f ∷ fs) ss ds = ap (λ (l : List (List ℕ)). f ∷ l) (deal_records fs (drop (own_streams f) ss) (drop (own_sections f) ds))

deal_streams : (fs ss ds : List (List ℕ)) → streams_of (deal fs ss ds) ≡ take (total own_streams fs) ss
unfolding deal streams_of total
deal_streams [] ss ds = refl
deal_streams (f ∷ fs) ss ds =
    rw (deal_streams fs (drop (own_streams f) ss) (drop (own_sections f) ds), take-add (own_streams f) (total own_streams fs) ss)

deal_sections : (fs ss ds : List (List ℕ)) → sections_of (deal fs ss ds) ≡ take (total own_sections fs) ds
unfolding deal sections_of total
deal_sections [] ss ds = refl
deal_sections (f ∷ fs) ss ds =
    rw (deal_sections fs (drop (own_streams f) ss) (drop (own_sections f) ds), take-add (own_sections f) (total own_sections fs) ds)

-- ---- pipes that own what they have

pub record Owns (p : Pipe) : Type 0 where
  pub streams : length p.streams ≡ own_streams p.fields
  pub sections : length p.sections ≡ own_sections p.fields

deal_back : (ps : List Pipe) (rest : List (List ℕ)) → Each Owns ps → deal (records_of ps) (streams_of ps ++ rest) (sections_of ps) ≡ ps
unfolding deal records_of streams_of sections_of
deal_back [] rest h = refl
deal_back (p ∷ ps) rest h =
    let a : (p.streams ++ streams_of ps) ++ rest ≡ p.streams ++ (streams_of ps ++ rest) = append_assoc p.streams (streams_of ps) rest in
    rw (
      a,
      take_at p.streams (streams_of ps ++ rest) (own_streams p.fields) h.0.streams,
      drop_at p.streams (streams_of ps ++ rest) (own_streams p.fields) h.0.streams,
      take_at p.sections (sections_of ps) (own_sections p.fields) h.0.sections,
      drop_at p.sections (sections_of ps) (own_sections p.fields) h.0.sections,
      deal_back ps rest h.1,
    )

pub total_streams : (ps : List Pipe) → Each Owns ps → total own_streams (records_of ps) ≡ length (streams_of ps)
unfolding total records_of streams_of
total_streams [] h = refl
total_streams (p ∷ ps) h = rw (length-append, total_streams ps h.1, h.0.streams)

pub total_sections : (ps : List Pipe) → Each Owns ps → total own_sections (records_of ps) ≡ length (sections_of ps)
unfolding total records_of sections_of
total_sections [] h = refl
total_sections (p ∷ ps) h = rw (length-append, total_sections ps h.1, h.0.sections)

pub records_length : (ps : List Pipe) → length (records_of ps) ≡ length ps
unfolding records_of
records_length [] = refl
records_length (p ∷ ps) = ap suc (records_length ps)

-- ---- the lists of a description, and the description of lists

-- the lists are as long as the records say
pub record Counted (l : Lists) : Type 0 where
  pub pipes : length l.pipes ≡ num_pipes1 l.multiplex
  pub streams : length l.streams ≡ stream_count l.pipes l.tail
  pub sections : length l.sections ≡ section_count l.pipes

-- the same of a description
pub record Sized (d : Description) : Type 0 where
  pub pipes : length d.pipes ≡ num_pipes1 d.multiplex
  pub each : Each Owns d.pipes
  pub tail : length d.tail_streams ≡ tail_owns d.tail

pub lists_describe : (l : Lists) → Counted l → lists_of (describe l) ≡ l
unfolding lists_of describe stream_count section_count
lists_describe l c = λ i. record {
  multiplex = l.multiplex;
  pipes = deal_records l.pipes l.streams l.sections i;
  tail = l.tail;
  streams = whole i;
  sections = every i;
}
  where
    n : ℕ
    n = total own_streams l.pipes

    whole : streams_of (deal l.pipes l.streams l.sections) ++ drop n l.streams ≡ l.streams
    whole = ap (λ (x : List (List ℕ)). x ++ drop n l.streams) (deal_streams l.pipes l.streams l.sections) ∙ take-append-drop n l.streams

    every : sections_of (deal l.pipes l.streams l.sections) ≡ l.sections
    every = deal_sections l.pipes l.streams l.sections ∙ take_all (total own_sections l.pipes) l.sections (omega (arith, c.sections))

pub describe_lists : (d : Description) → Sized d → describe (lists_of d) ≡ d
unfolding lists_of describe
describe_lists d h = λ i. record {
  multiplex = d.multiplex;
  pipes = deal_back d.pipes d.tail_streams h.each i;
  tail = d.tail;
  tail_streams = drop_at (streams_of d.pipes) d.tail_streams (total own_streams (records_of d.pipes)) (sym (total_streams d.pipes h.each)) i;
}

pub counted : (d : Description) → Sized d → Counted (lists_of d)
unfolding lists_of stream_count section_count
counted d h = record {
  pipes = records_length d.pipes ∙ h.pipes;
  streams = length-append (streams_of d.pipes) d.tail_streams ∙ ap₂ ◌+◌ (sym (total_streams d.pipes h.each)) h.tail;
  sections = sym (total_sections d.pipes h.each);
}

deal_owns : (fs ss ds : List (List ℕ)) → total own_streams fs ≤ length ss → total own_sections fs ≤ length ds → Each Owns (deal fs ss ds)
unfolding deal total
deal_owns [] ss ds hs hd = tt
deal_owns (f ∷ fs) ss ds hs hd = (
  record { streams = length-take-le (own_streams f) ss (omega arith); sections = length-take-le (own_sections f) ds (omega arith) },
  deal_owns fs (drop (own_streams f) ss) (drop (own_sections f) ds) (rw length-drop (omega arith)) (rw length-drop (omega arith)),
)

deal_length : (fs ss ds : List (List ℕ)) → length (deal fs ss ds) ≡ length fs
unfolding deal
deal_length [] ss ds = refl
deal_length (f ∷ fs) ss ds = ap suc (deal_length fs (drop (own_streams f) ss) (drop (own_sections f) ds))

pub sized : (l : Lists) → Counted l → Sized (describe l)
unfolding describe stream_count section_count
sized l c = record {
  pipes = deal_length l.pipes l.streams l.sections ∙ c.pipes;
  each = deal_owns l.pipes l.streams l.sections (omega (arith, c.streams)) (omega (arith, c.sections));
  tail = length-drop (total own_streams l.pipes) l.streams ∙ omega (arith, c.streams);
}
