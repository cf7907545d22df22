-- Where the records of a word and of a sheet stand, in bits, and the lists that stand there.
-- Assumes nothing.
use Rattle.std.specs.Prelude.{ℕ, ◌+◌, ◌*◌, List}
use Rattle.description.specs.Fields.{table15, table16, table16b, table18, table19}
use Rattle.description.specs.Description.{Lists}
use Rattle.description.specs.Sheet.{tail_from, pipes_from, streams_from, sections_from}
use Rattle.views.specs.Rows.{row_at, rows_at}
use Rattle.views.specs.declared.View.{View}

-- a word (table 14): multiplex, payload pipes, tail pipe, streams, sections
unfoldable pub word_view : ℕ → ℕ → View
word_view p s = record {
  multiplex = 0;
  tail = 56 + 48 * p;
  pipes = 56;
  streams = 72 + 48 * p;
  sections = 72 + 48 * p + 16 * s;
  apart = 12;
}

-- a sheet with a header of h bytes (document 01, "Sheet"); each section stands behind four bits
unfoldable pub sheet_view : ℕ → ℕ → ℕ → View
sheet_view h p s = record {
  multiplex = 8 * h;
  tail = 8 * tail_from h;
  pipes = 8 * pipes_from h;
  streams = 8 * streams_from h p;
  sections = 8 * sections_from h p s + 4;
  apart = 16;
}

-- the lists that stand there, where there are p payload pipes, s streams and d sections
unfoldable pub lists_at : View → ℕ → ℕ → ℕ → List ℕ → Lists
lists_at v p s d w = record {
  multiplex = row_at table15 w v.multiplex;
  pipes = rows_at table16 48 p w v.pipes;
  tail = row_at table16b w v.tail;
  streams = rows_at table18 16 s w v.streams;
  sections = rows_at table19 v.apart d w v.sections;
}
