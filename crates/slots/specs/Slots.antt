-- Interleaver units and slots (clause 4.6).
-- Assumes nothing.
use Rattle.std.specs.Prelude.{ℕ, ◌+◌, ◌*◌, ◌/◌, ◌%◌, List, get_or, replicate}
use Rattle.ground.specs.Table.{tab}
use Rattle.slots.specs.declared.Way.{Way}

-- the units of a frame of a pipe, and its bytes: a unit is 512 bits
abbrev pub frame_units : Way → ℕ
frame_units y = y.slots * y.units

abbrev pub frame_bytes : Way → ℕ
frame_bytes y = y.slots * y.units * 64

-- bytes cut into parts of a size: part j; and n such parts joined
unfoldable pub part : ℕ → List ℕ → ℕ → List ℕ
part size l j = tab (λ b. get_or l (j * size + b) 0) 0 size

unfoldable pub joined : ℕ → (ℕ → List ℕ) → ℕ → List ℕ
joined size u n = tab (λ q. get_or (u (q / size)) (q % size) 0) 0 (n * size)

-- a unit, and the one that stands for what was before the first frame
abbrev pub unit_of : List ℕ → ℕ → List ℕ
unit_of l j = part 64 l j

abbrev pub zero_unit : List ℕ
zero_unit = replicate 64 0

-- unit k of the mixed codeword that slot w is fed with in frame g; a frame has the mixed codewords of all slots, slot 0 first
unfoldable pub fed_to : Way → (ℕ → List ℕ) → ℕ → ℕ → ℕ → List ℕ
fed_to y frames w g k = unit_of (frames g) (w * y.units + k)
