-- The rules that a description keeps (document 01, "Signalling word"), each as a fact about the description.
-- Assumes nothing.
use Rattle.std.specs.Prelude.{ℕ, ◌+◌, ◌*◌, ◌≤◌, ◌<◌, ◌≡◌, List, ◌++◌, map, length, get_or}
use Rattle.patterns.specs.Rates.{units_of}
use Rattle.description.specs.Rows.{Each, total, Row}
use Rattle.description.specs.Fields.{table15, table16, table16b, table18, table19, sig_pipe_ver, num_pipes1, punct_pat, pipe_width, sts_id, num_taps_div2}
use Rattle.description.specs.Description.{Pipe, Description, own_streams, own_sections, tail_owns, streams_of, sections_of}

-- w is so many times m
abbrev pub Multiple : ℕ → ℕ → Type 0
Multiple m w = (k : ℕ) × (w ≡ k * m)

-- the taps of a section: (Num_Taps_Div2_1 + 1) x 2 (table 19)
abbrev pub taps : List ℕ → ℕ
taps s = (num_taps_div2 s + 1) * 2

-- no entry stands twice
abbrev pub Distinct : List ℕ → Type 0
Distinct l = (i j : ℕ) → i < j → j < length l → get_or l i 0 ≡ get_or l j 0 → ⊥

-- the size of a word's lists, in bits (table 14): 56 of the multiplex, 48 a payload pipe, 16 of the tail, 16 a stream, 12 a section
abbrev pub size : ℕ → ℕ → ℕ → ℕ
size p s d = 72 + 48 * p + 16 * s + 12 * d

-- the rules of a payload pipe
pub record PipeKeeps (p : Pipe) : Type 0 where
  pub fields : Row table16 p.fields
  pub streams : Each (Row table18) p.streams
  pub sections : Each (Row table19) p.sections
  -- it has no stream and no section but those that it owns
  pub owned : length p.streams ≡ own_streams p.fields
  pub disperser : length p.sections ≡ own_sections p.fields
  -- in use with a pattern 0 to 27: its width is a multiple of the codeword's capacity units (clauses 4.6 and 4.10.2)
  pub whole : 0 < pipe_width p.fields → punct_pat p.fields < 28 → Multiple (units_of (punct_pat p.fields)) (pipe_width p.fields)
  -- in use: its sections have 32 taps together (clause 4.10.7)
  pub tapped : 0 < pipe_width p.fields → total taps p.sections ≡ 32

-- the rules of a description
pub record Keeps (d : Description) : Type 0 where
  pub multiplex : Row table15 d.multiplex
  pub tail : Row table16b d.tail
  pub tail_streams : Each (Row table18) d.tail_streams
  pub pipes : Each PipeKeeps d.pipes
  -- Sig_Pipe_Ver is 0
  pub version : sig_pipe_ver d.multiplex ≡ 0
  -- Num_Pipes_1 is the number of payload pipes, the tail pipe not counted (clause 4.10.2)
  pub counted : length d.pipes ≡ num_pipes1 d.multiplex
  -- the tail pipe has no stream but the one that it owns
  pub owned : length d.tail_streams ≡ tail_owns d.tail
  -- the lists are within 750 bits
  pub fits : size (length d.pipes) (length (streams_of d.pipes) + length d.tail_streams) (length (sections_of d.pipes)) ≤ 750
  -- no stream id stands twice in a word (note 7 of clause 4.10.1.3)
  pub unique : Distinct (map sts_id (streams_of d.pipes ++ d.tail_streams))
