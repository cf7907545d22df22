-- The stream types by their numbers.
-- Assumes nothing.
use Rattle.std.specs.Prelude.{ℕ, zero, suc}
use Rattle.infoword.specs.declared.StreamType.{StreamType}
use Rattle.infoword.specs.declared.StreamType.TheVariants.{Empty, Transparent, TransportStream, IpStream, Other}

-- the stream type with a number (table 1)
abbrev pub stream_type : ℕ → StreamType
stream_type zero = Empty
stream_type (suc zero) = Transparent
stream_type (suc (suc zero)) = TransportStream
stream_type (suc (suc (suc zero))) = IpStream
stream_type (suc (suc (suc (suc k)))) = Other
