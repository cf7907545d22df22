-- The steps of a walk over a word, as its code takes them; walk/specs/Tour.antt says what they come to.
-- Assumes nothing.
use Rattle.std.specs.Prelude.{ℕ, ◌+◌, ◌*◌, ◌%◌}
use Rattle.sheets.specs.declared.owned.Share.{Share}

-- the place behind n records of so many bits, as a number of 32 bits
unfoldable pub onward : ℕ → ℕ → ℕ → ℕ
onward at n width = (at + n * width) % 4294967296

-- what all pipes own: streams of the payload pipes and of the tail pipe, which owns no section (clause 4.10.8)
unfoldable pub with_tail : Share → ℕ → Share
with_tail own tail = record { s = (own.s + tail) % 65536; d = own.d }
