-- What stands in a record: the fields that the library looks at, and what a pipe owns by them.
-- Assumes nothing.
use Rattle.std.specs.Prelude.{ℕ, ◌+◌, ◌*◌, List}
use Rattle.description.specs.Fields.{table15, table16, table16b, sig_pipe_ver, operator_id, frame_index, num_pipes1, punct_pat, pipe_width, tail_width}
use Rattle.description.specs.Description.{own_streams, own_sections}
use Rattle.views.specs.Rows.{row_at}
use Rattle.records.specs.declared.Multiplex.{Multiplex}
use Rattle.records.specs.declared.Pipe.{Pipe}

unfoldable pub multiplex_of : List ℕ → Multiplex
multiplex_of m = record { version = sig_pipe_ver m; operator = operator_id m; frame = frame_index m; pipes = num_pipes1 m }

unfoldable pub multiplex_at : List ℕ → ℕ → Multiplex
multiplex_at w at = multiplex_of (row_at table15 w at)

unfoldable pub pipe_of : List ℕ → Pipe
pipe_of f = record { pattern = punct_pat f; width = pipe_width f; s = own_streams f; d = own_sections f }

-- the payload pipe k, counted from 0, of those whose records begin at a place
unfoldable pub pipe_at : List ℕ → ℕ → ℕ → Pipe
pipe_at w at k = pipe_of (row_at table16 w (at + 48 * k))

unfoldable pub tail_at : List ℕ → ℕ → ℕ
tail_at w at = tail_width (row_at table16b w at)
