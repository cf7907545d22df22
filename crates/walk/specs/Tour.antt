-- What a walk over a word finds: Sig_Pipe_Ver, how many records its lists have, and where they end. A place past the end reads zero.
-- Assumes nothing.
use Rattle.std.specs.Prelude.{ℕ, ◌+◌, ◌*◌, List}
use Rattle.description.specs.Fields.{table15, sig_pipe_ver, num_pipes1}
use Rattle.description.specs.Rules.{size}
use Rattle.views.specs.Rows.{row_at}
use Rattle.sheets.specs.Owned.{owned_at, tail_owned_at}
use Rattle.walk.specs.declared.Toured.{Toured}

-- the payload pipes: Num_Pipes_1 (table 15)
unfoldable pub p_of : List ℕ → ℕ
p_of w = num_pipes1 (row_at table15 w 0)

-- the streams of the payload pipes, which stand behind the multiplex, and of the tail pipe behind them (clause 4.10.3)
unfoldable pub s_of : List ℕ → ℕ
s_of w = (owned_at w 56 (p_of w)).s + tail_owned_at w (56 + 48 * p_of w)

-- the sections of the payload pipes (clause 4.10.7); the tail pipe owns none (clause 4.10.8)
unfoldable pub d_of : List ℕ → ℕ
d_of w = (owned_at w 56 (p_of w)).d

-- the lists begin at bit 0 and end behind all that they take (table 14)
unfoldable pub tour_of : List ℕ → Toured
tour_of w = record {
  version = sig_pipe_ver (row_at table15 w 0);
  counts = record { p = p_of w; s = s_of w; d = d_of w };
  end = size (p_of w) (s_of w) (d_of w);
}
