-- What tables tell of six bit periods, for promises inside the library; no exported promise leads here.
-- Assumes nothing.
use Rattle.std.specs.Prelude.{ℕ, ◌+◌, ◌*◌, ◌/◌, ◌%◌, ◌^◌, List, ltb}
use Rattle.ground.specs.Choice.{choose}
use Rattle.ground.specs.Table.{tab}
use Rattle.patterns.specs.Sent.{total}
use Rattle.constituent.specs.Six.{joint}
use Rattle.constituent.specs.Segment.{digit_at, segment}
use Rattle.tables.specs.declared.Plan.{Plan}

-- how often the place k of the half h of twelve groups is sent, once or not at all: no pattern sends a symbol of the data twice. The registers' six bits behind it count once
unfoldable pub half_at : List ℕ → ℕ → ℕ → ℕ
half_at rows h k = choose (ltb k 30) (digit_at rows (30 * h + k) % 2) 1

-- what is sent of six bit periods by the half h, and the registers then
unfoldable pub coded : List ℕ → ℕ → ℕ → ℕ
coded rows h x = segment (half_at rows h) (joint x) 36

-- the entry k of the tables: those of the half h from 192 h on, 64 by the registers, 64 by the six bits of encoder 2, 64 by those of encoder 1
unfoldable pub look_at : List ℕ → ℕ → ℕ
look_at rows k = coded rows (k / 192) (k % 64 * 2 ^ (6 * (k / 64 % 3)))

-- the tables of twelve groups, and how many bits are sent of the six groups of each half
unfoldable pub plan_of : List ℕ → Plan
plan_of rows = record { look = tab (look_at rows) 0 384; k0 = total (half_at rows 0) 30; k1 = total (half_at rows 1) 30 }
