-- Packed bits by their place (annex A): the bit at a place, the number that a run of bits spells, and bytes packed from a rule.
-- Assumes nothing.
use Rattle.std.specs.Prelude.{ℕ, zero, suc, ◌+◌, ◌-◌, ◌*◌, ◌/◌, ◌%◌, ◌^◌, List, ltb, get_or}
use Rattle.ground.specs.Choice.{choose}
use Rattle.ground.specs.Table.{tab}

-- the bit i of packed bytes; a place past the end reads zero
unfoldable pub bit_at : List ℕ → ℕ → ℕ
bit_at w i = get_or w (i / 8) 0 / 2 ^ (7 - i % 8) % 2

-- the running number: what the n bits f i, f (i + 1), .. spell, the first bit highest
unfoldable pub number : (ℕ → ℕ) → ℕ → ℕ → ℕ
number f i zero = 0
number f i (suc n) = number f i n * 2 + f (i + n)

-- n bytes with the bits f 0, f 1, ..
unfoldable pub packed : (ℕ → ℕ) → ℕ → List ℕ
packed f n = tab (λ k. number f (8 * k) 8) 0 n

-- the number in the n bits at a place of packed bytes; a width above 32 gives zero
unfoldable pub field_at : List ℕ → ℕ → ℕ → ℕ
field_at w at n = choose (ltb 32 n) 0 (number (bit_at w) at n)

-- the n fields of k bits each that stand step bits apart, the first at a place
unfoldable pub fields_at : List ℕ → ℕ → ℕ → ℕ → ℕ → List ℕ
fields_at w at step k n = tab (λ i. field_at w (at + step * i) k) 0 n
