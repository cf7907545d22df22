-- The rows in eighteen entries: every data row's length divides 12, so that twelve data groups and the six tail groups stand for all.
-- Assumes nothing.
use Rattle.std.specs.Prelude.{ℕ, List}
use Rattle.ground.specs.Table.{tab}
use Rattle.patterns.specs.Rows.{group_at}

-- the entries: the groups of a lane of twelve data groups
unfoldable pub entries : ℕ → List ℕ
entries p = tab (group_at p 12) 0 18
