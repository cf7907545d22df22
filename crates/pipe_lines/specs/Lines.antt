-- The lines of payload pipes and of the tail in a sheet's listing (document 01, "Points on either side").
-- Assumes nothing.
use Rattle.std.specs.Prelude.{ℕ, suc, List, [], ◌∷◌, ◌++◌, eqb}
use Rattle.ground.specs.Choice.{choose}
use Rattle.description.specs.Fields.{punct_pat, pipe_width, tail_width}
use Rattle.description.specs.Description.{own_streams, own_sections}
use Rattle.words.specs.Words.{line}

-- the payload pipe k, with the streams and the sections that it owns
unfoldable pub pipe_line : ℕ → List ℕ → List ℕ
pipe_line k f =
    line "pipe # pattern=# width=# streams=# sections=#\n"
    (k ∷ punct_pat f ∷ pipe_width f ∷ own_streams f ∷ own_sections f ∷ [])

-- the payload pipes from number k on
unfoldable pub pipe_lines : ℕ → List (List ℕ) → List ℕ
pipe_lines k [] = []
pipe_lines k (f ∷ fs) = pipe_line k f ++ pipe_lines (suc k) fs

unfoldable pub tail_line : List ℕ → List ℕ
tail_line t = choose (eqb (tail_width t) 0) (line "tail unused\n" []) (line "tail width=#\n" (tail_width t ∷ []))
