-- The stream of a block's code bits, for contracts inside this crate; no public promise leads here.
-- Assumes nothing.
use Rattle.std.specs.Prelude.{ℕ, ◌+◌, ◌*◌, ◌/◌, ◌%◌, ◌<◌, ◌≡◌, List, eqb, length, get_or}
use Rattle.std.specs.Int.Bits.{bit_xor}
use Rattle.ground.specs.Outcome.{Outcome}
use Rattle.ground.specs.Choice.{choose}
use Rattle.bits.specs.Places.{bit_at}
use Rattle.wide.specs.Held.{place_of, Held}
use Rattle.wide.specs.Wide.{wider}
use Rattle.patterns.specs.Blocks.{Coded}
use Rattle.patterns.specs.Rows.{copies}
use Rattle.puncturing.specs.Entries.{entries}
use Rattle.patterns.specs.Sent.{places, total}
use Rattle.constituent.specs.Constituent.{state}
use Rattle.constituent.specs.declared.State.{State}
use Rattle.tables.specs.Plan.{plan_of}
use Rattle.tables.specs.declared.Plan.{Plan}
use Rattle.interleaver.specs.Read.{interleaved}
use Rattle.turbo.specs.Lane.{second}
use Rattle.turbo.specs.Encode.{code_bits}
use Rattle.turbo.specs.declared.stream.Coder.{Coder}

-- the code bit k
unfoldable pub code_bit : ℕ → ℕ → List ℕ → ℕ → ℕ
code_bit p n w k = get_or (code_bits p n w) k 0

-- what a table tells of the six bits u and v and the registers
abbrev pub told : List ℕ → ℕ → ℕ → ℕ → ℕ → ℕ
told look o u v both = bit_xor (bit_xor (get_or look (o + 128 + u) 0) (get_or look (o + 64 + v) 0)) (get_or look (o + both) 0)

-- how many bits are sent of the half h
abbrev pub half_bits : Plan → ℕ → ℕ
half_bits t h = choose (eqb h 0) t.k0 t.k1

-- six bit periods more, of the half h
unfoldable pub chunked : List ℕ → Plan → ℕ → Coder → ℕ → ℕ → Outcome Coder (List ℕ)
chunked out t h c u v =
    let z : ℕ = told t.look (192 * h) u v c.both in
    let s = wider out c.sink (z / 64) (half_bits t h) in
    record { answer = record { sink = s.answer; both = z % 64 }; memory = s.memory }

-- six bit periods three times more, of half 0, half 1 and half 0: the upper 18 of 24 bits of each encoder
unfoldable pub thrice : List ℕ → Plan → Coder → ℕ → ℕ → Outcome Coder (List ℕ)
thrice out t c x y =
    let a = chunked out t 0 c (x / 262144 % 64) (y / 262144 % 64) in
    let b = chunked a.memory t 1 a.answer (x / 4096 % 64) (y / 4096 % 64) in
    chunked b.memory t 0 b.answer (x / 64 % 64) (y / 64 % 64)

-- the registers of both encoders in one number
abbrev pub both : State → State → ℕ
both s t = (s.a1 * 4 + s.a2 * 2 + s.a3) * 8 + (t.a1 * 4 + t.a2 * 2 + t.a3)

-- a word's bytes, what encoder 2 reads of them, and the tables of the pattern
pub record Prepared (p n : ℕ) (w z : List ℕ) (t : Plan) : Type 0 where
  pub coded : Coded p n
  pub word : 8 * length w ≡ n + 6
  pub byte : (k : ℕ) → get_or w k 0 < 256
  pub second : z ≡ interleaved n w
  pub tables : t ≡ plan_of (entries p)

-- six times q groups are sent
pub record Sent (p n : ℕ) (w out : List ℕ) (c : Coder) (q : ℕ) : Type 0 where
  pub registers : c.both ≡ both (state (bit_at w) (6 * q)) (state (second w n) (6 * q))
  pub room : c.sink.used < 32
  pub words : c.sink.at % 4 ≡ 0
  pub at : place_of c.sink ≡ total (copies p n) (30 * q)
  pub full : total (copies p n) (places n) ≡ 8 * length out
  pub held : Held (code_bit p n w) out c.sink
