-- The lines of an accepted sheet's listing (document 01, "Points on either side").
-- Assumes nothing.
use Rattle.std.specs.Prelude.{ℕ, List, [], ◌∷◌, ◌++◌, length}
use Rattle.description.specs.Fields.{operator_id, frame_index}
use Rattle.description.specs.Description.{Lists}
use Rattle.words.specs.Words.{line}
use Rattle.pipe_lines.specs.Lines.{pipe_lines, tail_line}

-- operator id, frame index, p, s and d
unfoldable pub multiplex_line : Lists → List ℕ
multiplex_line l =
    line "multiplex operator=# frame=# pipes=# streams=# sections=#\n"
    (operator_id l.multiplex ∷ frame_index l.multiplex ∷ length l.pipes ∷ length l.streams ∷ length l.sections ∷ [])

-- an accepted sheet: its lists
unfoldable pub accepted : Lists → List ℕ
accepted l = multiplex_line l ++ pipe_lines 1 l.pipes ++ tail_line l.tail ++ line "ok\n" []
