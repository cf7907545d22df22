-- What is sent of the tail (clause 4.4.3), for promises inside the library; no exported promise leads here.
-- Assumes nothing.
use Rattle.std.specs.Prelude.{ℕ, ◌+◌, ◌-◌, ◌/◌, ◌%◌, ◌^◌, List, ltb, get_or}
use Rattle.ground.specs.Choice.{choose}
use Rattle.patterns.specs.Sent.{total}
use Rattle.constituent.specs.Constituent.{clocked}
use Rattle.constituent.specs.Symbols.{tail_symbols1, tail_symbols2}
use Rattle.constituent.specs.Six.{state_of}
use Rattle.constituent.specs.Segment.{digit_at, segment}
use Rattle.constituent.specs.declared.State.{State}
use Rattle.tail.specs.declared.Run.{Run}

-- the symbol at the place k of the tail's thirty, from two registers
unfoldable pub tail_symbol : State → State → ℕ → ℕ
tail_symbol s t k = get_or (choose (ltb (k / 5) 3) (tail_symbols1 (clocked s (k / 5))) (tail_symbols2 (clocked t (k / 5 - 3)))) (k % 5) 0

-- what is sent of the tail by the six groups that stand behind twelve, and how many bits that is, from the registers that a number holds: three bits of encoder 1, and below them
-- three of encoder 2. Of more than 64 bits, which no pattern sends, the last 64
unfoldable pub run_of : List ℕ → ℕ → Run
run_of rows x = record {
  value = segment (λ k. digit_at rows (60 + k)) (tail_symbol (state_of (x / 8)) (state_of x)) 30 % 2 ^ 64;
  bits = total (λ k. digit_at rows (60 + k)) 30;
}
