-- What must hold of a codeword's length (clause 4.4.5).
-- Assumes nothing.
use Rattle.std.specs.Prelude.{ℕ, ◌+◌, ◌*◌, ◌%◌, ◌≡◌, length}
use Rattle.patterns.specs.Rates.{rate_of}
use Rattle.patterns.specs.Sent.{sent, code_length}

pub record Length (p n : ℕ) : Type 0 where
  -- as many bits are sent as the length says
  pub all : length (sent p n) ≡ code_length p n
  -- the block with its six tail periods, divided by the rate, leaves no remainder
  pub exact : code_length p n * (rate_of p).num ≡ (n + 6) * (rate_of p).den
  -- and fills whole bytes
  pub bytes : code_length p n % 8 ≡ 0
