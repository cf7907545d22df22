-- What the first payload pipes own together, and by it where a pipe's own streams and sections stand.
-- Assumes nothing.
use Rattle.std.specs.Prelude.{ℕ, ◌+◌, ◌*◌, List}
use Rattle.description.specs.Rows.{total}
use Rattle.description.specs.Fields.{table16, table16b}
use Rattle.description.specs.Description.{own_streams, own_sections, tail_owns}
use Rattle.views.specs.Rows.{row_at, rows_at}
use Rattle.views.specs.declared.View.{View}
use Rattle.sheets.specs.declared.owned.Share.{Share}
use Rattle.sheets.specs.declared.owned.Places.{Places}

unfoldable pub owned_at : List ℕ → ℕ → ℕ → Share
owned_at w at p = record { s = total own_streams (rows_at table16 48 p w at); d = total own_sections (rows_at table16 48 p w at) }

unfoldable pub tail_owned_at : List ℕ → ℕ → ℕ
tail_owned_at w at = tail_owns (row_at table16b w at)

-- the payload pipe k, counted from 0: its streams and sections stand behind those of the pipes before it
unfoldable pub places_at : List ℕ → View → ℕ → Places
places_at w v k = record {
  pipe = v.pipes + 48 * k;
  streams = v.streams + 16 * (owned_at w v.pipes k).s;
  sections = v.sections + v.apart * (owned_at w v.pipes k).d;
}
