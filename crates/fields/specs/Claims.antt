-- What is asked of what is reported of words of stream types 0 and 1: that it has nothing of types 2 and 3.
-- Assumes nothing.
use Rattle.std.specs.Prelude.{ℕ, ◌≤◌, ◌≡◌, List}
use Rattle.ground.specs.Table.{tab}
use Rattle.bits.specs.Places.{bit_at, field_at}
use Rattle.infoword.specs.Suffix.{id_of, kind_of, version_of, covered_of}
use Rattle.fields.specs.Report.{header_of}

-- the CRC covers 18 bits, RFU has 4, and no part is reported as holding (tables 2 and 3)
pub record Plain (w : List ℕ) : Type 0 where
  pub covers : covered_of w ≡ tab (bit_at w) 12256 18
  pub reports : header_of w ≡ record { rfu = field_at w 12256 4; id = id_of w; kind = kind_of w; version = version_of w; parity = 0; address = 0 }

abbrev pub TypesZeroAndOne : Type 0
TypesZeroAndOne = (w : List ℕ) → kind_of w ≤ 1 → Plain w
