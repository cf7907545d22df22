-- What the private steps of the writer leave. No public promise cites it.
-- Assumes nothing.
use Rattle.std.specs.Prelude.{ℕ, ◌-◌, ◌*◌, List, ◌++◌, take, drop}
use Rattle.infoword.specs.declared.StreamType.{StreamType}
use Rattle.infoword.specs.declared.StreamType.TheVariants.{Empty, Transparent, TransportStream, IpStream, Other}
use Rattle.infoword.specs.Steps.{parted}
use Rattle.encapsulation.specs.Writing.{repeated}

-- null packets behind the first count of eight packets
unfoldable pub filled_up : ℕ → List ℕ → List ℕ → List ℕ
filled_up count null w = take (188 * count) w ++ repeated (8 - count) null ++ drop 1504 w

-- what stream type 2 has more than the others: these, and Parity_Parts behind them
abbrev pub carried : StreamType → ℕ → List ℕ → List ℕ → List ℕ
carried TransportStream count null w = parted (filled_up count null w)
carried Empty count null w = w
carried Transparent count null w = w
carried IpStream count null w = w
carried Other count null w = w
