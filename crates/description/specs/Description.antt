-- The hierarchy that a signalling word describes: the multiplex, its payload pipes, each with its own streams and sections, and the tail pipe.
-- Assumes nothing.
use Rattle.std.specs.Prelude.{ℕ, ◌+◌, List, [], ◌∷◌, ◌++◌, eqb, take, drop}
use Rattle.ground.specs.Choice.{choose}
use Rattle.description.specs.Rows.{total}
use Rattle.description.specs.Fields.{pipe_width, num_sts1, num_disperser_sections1, tail_width}

-- a payload pipe: its record, the streams and the sections that it owns
pub record Pipe : Type 0 where
  pub fields : List ℕ
  pub streams : List (List ℕ)
  pub sections : List (List ℕ)

pub record Description : Type 0 where
  pub multiplex : List ℕ
  pub pipes : List Pipe
  pub tail : List ℕ
  pub tail_streams : List (List ℕ)

-- ---- who owns what: streams by clause 4.10.3, sections by clause 4.10.7 (tables 16 and 16b say the same). A pipe of width 0 owns nothing, whatever its count fields say

-- Num_STS_1 + 1 streams and Num_Disperser_Sections_1 + 1 sections of a payload pipe in use
unfoldable pub own_streams : List ℕ → ℕ
own_streams f = choose (eqb (pipe_width f) 0) 0 (num_sts1 f + 1)

unfoldable pub own_sections : List ℕ → ℕ
own_sections f = choose (eqb (pipe_width f) 0) 0 (num_disperser_sections1 f + 1)

-- one stream of a tail pipe in use; it never owns a section (clause 4.10.8)
unfoldable pub tail_owns : List ℕ → ℕ
tail_owns t = choose (eqb (tail_width t) 0) 0 1

-- ---- the same as lists, in the order of the pipes

pub record Lists : Type 0 where
  pub multiplex : List ℕ
  pub pipes : List (List ℕ)
  pub tail : List ℕ
  pub streams : List (List ℕ)
  pub sections : List (List ℕ)

unfoldable pub records_of : List Pipe → List (List ℕ)
records_of [] = []
records_of (p ∷ ps) = p.fields ∷ records_of ps

unfoldable pub streams_of : List Pipe → List (List ℕ)
streams_of [] = []
streams_of (p ∷ ps) = p.streams ++ streams_of ps

unfoldable pub sections_of : List Pipe → List (List ℕ)
sections_of [] = []
sections_of (p ∷ ps) = p.sections ++ sections_of ps

-- streams stand in order of pipe, the tail's last (clause 4.10.3); sections in order of pipe (table 14)
unfoldable pub lists_of : Description → Lists
lists_of d = record {
  multiplex = d.multiplex;
  pipes = records_of d.pipes;
  tail = d.tail;
  streams = streams_of d.pipes ++ d.tail_streams;
  sections = sections_of d.pipes;
}

-- streams and sections dealt to the pipes that own them
unfoldable pub deal : List (List ℕ) → List (List ℕ) → List (List ℕ) → List Pipe
deal [] ss ds = []
deal (f ∷ fs) ss ds =
    record { fields = f; streams = take (own_streams f) ss; sections = take (own_sections f) ds }
    ∷ deal fs (drop (own_streams f) ss) (drop (own_sections f) ds)

unfoldable pub describe : Lists → Description
describe l = record {
  multiplex = l.multiplex;
  pipes = deal l.pipes l.streams l.sections;
  tail = l.tail;
  tail_streams = drop (total own_streams l.pipes) l.streams;
}

-- how many streams and sections the records say that there are
unfoldable pub stream_count : List (List ℕ) → List ℕ → ℕ
stream_count pipes tail = total own_streams pipes + tail_owns tail

unfoldable pub section_count : List (List ℕ) → ℕ
section_count pipes = total own_sections pipes
