-- What a list of addresses reads of a word, for promises inside the library; no exported promise leads here.
-- Assumes nothing.
use Rattle.std.specs.Prelude.{ℕ, List, ltb, length, get_or}
use Rattle.ground.specs.Choice.{choose}
use Rattle.bits.specs.Places.{bit_at, packed}

-- the bit of a word that is read at the bit period i, and zeros behind the list
unfoldable pub listed_bit : List ℕ → List ℕ → ℕ → ℕ
listed_bit list w i = choose (ltb i (length list)) (bit_at w (get_or list i 0)) 0

-- those bits, packed
unfoldable pub listed : List ℕ → List ℕ → List ℕ
listed list w = packed (listed_bit list w) 1536
