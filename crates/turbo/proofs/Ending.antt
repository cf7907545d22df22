-- Laws of the codeword's end: what the pattern sends of the tail is what the standard sends of its thirty places, and all bytes are then there.
-- Assumes nothing.
use Prim.Native.Nat.{ℕ, ◌+◌, ◌-◌, ◌*◌, ◌/◌, ◌%◌, ◌^◌, ◌≤◌, ◌<◌}
use mathlib.Core.Path.{◌≡◌, sym, ap, ap₂, ◌∙◌, subst}
use mathlib.Core.Bool.{Bool}
use mathlib.Core.List.{List}
use mathlib.Core.Logic.{⊎_elim}
use native.Mathlib.Decide.{dec_lt}
use native.Mathlib.Omega.{arith}
use lib.Dec.{T, eqb, eqb→eq, leb, leb→le}
use lib.Pow.{pow_mono}
use lib.ListN.{length, get_or}
use borrow.Author.Tests.{lt-ltb, le-ltb}
use Rattle.ground.specs.Outcome.{Is}
use Rattle.ground.specs.Table.{tab, all_below}
use Rattle.ground.proofs.Choice.{choose_true, choose_false}
use Rattle.ground.proofs.Table.{at_all}
use Rattle.bits.specs.Places.{bit_at, number, packed}
use Rattle.bits.proofs.Places.{number_lt, packed_ext}
use Rattle.wide.specs.Held.{place_of}
use Rattle.wide.specs.Wide.{wider}
use Rattle.wide.specs.declared.Wide.{Wide}
use Rattle.wide.proofs.Widens.{wide_put}
use Rattle.patterns.specs.Blocks.{Coded}
use Rattle.patterns.specs.Rates.{rates, rate_of}
use Rattle.patterns.specs.Rows.{data_rows, tail_rows, data_group, tail_group, group_at, digit, copies}
use Rattle.puncturing.specs.Entries.{entries}
use Rattle.patterns.specs.Sent.{places, spread, total, code_length}
use Rattle.patterns.proofs.Blocks.{coded_bounds}
use Rattle.puncturing.proofs.Lanes.{tail_digit}
use Rattle.patterns.specs.Length.{Length}
use Rattle.patterns.proofs.Length.{length_rule, total_rule}
use Rattle.patterns.proofs.Totals.{total_add, total_cong}
use Rattle.constituent.specs.Constituent.{state, clocked}
use Rattle.constituent.specs.Symbols.{tail_symbols1, tail_symbols2}
use Rattle.turbo.specs.Lane.{second, group, lane_bit}
use Rattle.turbo.specs.Encode.{code_bits}
use Rattle.constituent.proofs.Linear.{Bits}
use Rattle.constituent.specs.Six.{state_of}
use Rattle.constituent.specs.Segment.{digit_at, segment}
use Rattle.tail.specs.Tail.{tail_symbol, run_of}
use Rattle.turbo.specs.Stream.{code_bit, both, Sent}
use Rattle.constituent.specs.declared.State.{State}
use Rattle.turbo.specs.declared.stream.Coder.{Coder}
use Rattle.tail.specs.declared.Run.{Run}
use Rattle.constituent.proofs.Segments.{segment_cong, segment_lt, spread_number}
use Rattle.turbo.proofs.Streaming.{code_bit_lem, state_bits, three_bits}
use Rattle.tail.proofs.Laws.{tail_lt}

-- a codeword has whole words of four bytes
whole : ℕ → Bool
whole p = eqb (code_length p 12282 % 32) 0

all_whole : T (all_below whole 28)
unfolding whole code_length rate_of rates
all_whole = tt

words : (p n : ℕ) → Coded p n → code_length p n % 32 ≡ 0
unfolding whole code_length rate_of rates
words p n = ⊎_elim (λ w. ap (λ (m : ℕ). code_length p m % 32) w.1 ∙ eqb→eq (code_length p 12282 % 32) 0 (at_all whole 28 all_whole p w.0)) (λ w. ap₂ (λ (q m : ℕ). code_length q m % 32) w.0 w.1)

pub both_one : (s t : State) → Bits s → Bits t → state_of (both s t / 8) ≡ s
both_one s t h k =
    let e : both s t / 8 ≡ 0 * 8 + (s.a1 * 4 + s.a2 * 2 + s.a3) = omega (arith, k.one, k.two, k.three) in
    ap state_of e ∙ three_bits 0 s h

pub both_two : (s t : State) → Bits t → state_of (both s t) ≡ t
both_two s t k = three_bits (s.a1 * 4 + s.a2 * 2 + s.a3) t k

-- no pattern sends more than thirty bits of the tail
short : ℕ → Bool
short p = leb (total (λ k. digit_at (entries p) (60 + k)) 30) 30

all_short : T (all_below short 28)
unfolding short total digit_at digit entries tab group_at data_group tail_group data_rows tail_rows
all_short = tt

tail_most : (p : ℕ) → p < 28 → total (λ k. digit_at (entries p) (60 + k)) 30 ≤ 30
unfolding short
tail_most p h = leb→le (total (λ k. digit_at (entries p) (60 + k)) 30) 30 (at_all short 28 all_short p h)

tail_whole : (p : ℕ) → p < 28 → (s t : State) → segment (λ k. digit_at (entries p) (60 + k)) (tail_symbol s t) 30 % 2 ^ 64 ≡ segment (λ k. digit_at (entries p) (60 + k)) (tail_symbol s t) 30
tail_whole p hp s t =
    let d : ℕ → ℕ = λ k. digit_at (entries p) (60 + k) in
    let l : segment d (tail_symbol s t) 30 < 2 ^ total d 30 = segment_lt d (tail_symbol s t) 30 (λ j h. tail_lt s t j) in
    let m : 2 ^ total d 30 ≤ 2 ^ 30 = pow_mono {i = total d 30} {j = 30} (tail_most p hp) in
    omega (arith, l, m)

module _ (p n : ℕ) (w : List ℕ) (hp : p < 28) where
  sent_as : (k : ℕ) → k < 30 → digit_at (entries p) (60 + k) ≡ copies p n (5 * n + k)
  unfolding digit_at
  sent_as k h =
      let e1 : (60 + k) / 5 ≡ 12 + k / 5 = omega arith in
      let e2 : (60 + k) % 5 ≡ k % 5 = omega arith in
      ap₂ (λ (x y : ℕ). digit (get_or (entries p) x 0) y) e1 e2 ∙ tail_digit p n k hp h

  symbol_at : (k : ℕ) → k < 30 → tail_symbol (state (bit_at w) n) (state (second w n) n) k ≡ lane_bit w n (5 * n + k)
  unfolding tail_symbol lane_bit group
  symbol_at k h =
      let e1 : (5 * n + k) / 5 ≡ n + k / 5 = omega arith in
      let e2 : (5 * n + k) % 5 ≡ k % 5 = omega arith in
      let e3 : n + k / 5 - n ≡ k / 5 = omega arith in
      let e4 : n + k / 5 - (n + 3) ≡ k / 5 - 3 = omega arith in
      let s : State = state (bit_at w) n in
      let t : State = state (second w n) n in
      let tail : group w n (n + k / 5) ≡ _ = choose_false _ _ (le-ltb (n + k / 5) n (omega arith)) in
      elim (dec_lt (k / 5) 3) [
        | yes l ↦ ap (λ (m : List ℕ). get_or m (k % 5) 0)
            (choose_true (tail_symbols1 (clocked s (k / 5))) (tail_symbols2 (clocked t (k / 5 - 3))) (lt-ltb (k / 5) 3 l) ∙ ap (λ (j : ℕ). tail_symbols1 (clocked s j)) (sym e3)
            ∙ sym (tail ∙ choose_true _ _ (lt-ltb (n + k / 5) (n + 3) (omega arith)))) ∙ sym (ap₂ (λ (x y : ℕ). get_or (group w n x) y 0) e1 e2)
        | no l ↦ ap (λ (m : List ℕ). get_or m (k % 5) 0)
            (choose_false (tail_symbols1 (clocked s (k / 5))) (tail_symbols2 (clocked t (k / 5 - 3))) (le-ltb (k / 5) 3 (omega arith)) ∙ ap (λ (j : ℕ). tail_symbols2 (clocked t j)) (sym e4)
            ∙ sym (tail ∙ choose_false _ _ (le-ltb (n + k / 5) (n + 3) (omega arith)))) ∙ sym (ap₂ (λ (x y : ℕ). get_or (group w n x) y 0) e1 e2)
      ]

  bits_sent : total (λ k. digit_at (entries p) (60 + k)) 30 ≡ total (λ k. copies p n (5 * n + k)) 30
  bits_sent = total_cong (λ k. digit_at (entries p) (60 + k)) (λ k. copies p n (5 * n + k)) 30 sent_as

  tail_sent : segment (λ k. digit_at (entries p) (60 + k)) (tail_symbol (state (bit_at w) n) (state (second w n) n)) 30 ≡ number (code_bit p n w) (total (copies p n) (5 * n)) (total (λ k. digit_at (entries p) (60 + k)) 30)
  unfolding code_bit code_bits
  tail_sent =
      segment_cong (λ k. digit_at (entries p) (60 + k)) (λ k. copies p n (5 * n + k)) (tail_symbol (state (bit_at w) n) (state (second w n) n)) (λ k. lane_bit w n (5 * n + k)) 30 sent_as symbol_at
      ∙ sym (spread_number (copies p n) (lane_bit w n) (places n) (5 * n) 30 (omega arith))
      ∙ ap (number (λ k. get_or (spread (copies p n) (lane_bit w n) (places n)) k 0) (total (copies p n) (5 * n))) (sym bits_sent)

  tail_to : total (copies p n) (places n) ≡ total (copies p n) (5 * n) + total (λ k. digit_at (entries p) (60 + k)) 30
  tail_to =
      let e : 5 * (n + 6) ≡ 5 * n + 30 = omega arith in
      ap (total (copies p n)) e ∙ total_add (copies p n) (5 * n) 30 ∙ ap (λ (x : ℕ). total (copies p n) (5 * n) + x) (sym bits_sent)

-- a sink of whole words that is at the end of whole words has stored them all
all_stored : (a u l : ℕ) → 8 * a + u ≡ 8 * l → u < 32 → a % 4 ≡ 0 → 8 * l % 32 ≡ 0 → a ≡ l
all_stored a u l e h z y =
    let ea : a ≡ 4 * (a / 4) = omega arith in
    let el : l ≡ 4 * (8 * l / 32) = fours l (8 * l / 32) (thirty_twos (8 * l) y) in
    let q : a / 4 ≡ 8 * l / 32 = quotients (a / 4) (8 * l / 32) u (omega (arith, ea, el, e)) h in
    ea ∙ ap (λ (x : ℕ). 4 * x) q ∙ sym el
  where
    thirty_twos : (x : ℕ) → x % 32 ≡ 0 → x ≡ 32 * (x / 32)
    thirty_twos x h = omega arith

    fours : (l k : ℕ) → 8 * l ≡ 32 * k → l ≡ 4 * k
    fours l k e = omega arith

    quotients : (x y u : ℕ) → 32 * x + u ≡ 32 * y → u < 32 → x ≡ y
    quotients x y u e h = omega arith

-- the tail behind the data makes the codeword
pub ended : (p n : ℕ) (w out : List ℕ) (c : Coder) (r : Run) (s : Wide) (m : List ℕ) → Coded p n → Sent p n w out c (n / 6) → r ≡ run_of (entries p) c.both
    → Is (wider out c.sink r.value r.bits) s m → m ≡ packed (code_bit p n w) (length out)
unfolding run_of
ended p n w out c r s m C S E q =
    let hp : p < 28 = (coded_bounds p n C).0 in
    let six : 6 * (n / 6) ≡ n = sizes C in
    let value : r.value ≡ segment (λ k. digit_at (entries p) (60 + k)) (tail_symbol (state_of (c.both / 8)) (state_of c.both)) 30 = ap (λ (x : Run). x.value) E ∙ tail_whole p hp _ _ in
    let bits : r.bits ≡ total (λ k. digit_at (entries p) (60 + k)) 30 = ap (λ (x : Run). x.bits) E in
    let one : State = state (bit_at w) n in
    let two : State = state (second w n) n in
    let e : c.both ≡ both one two = S.registers ∙ ap (λ (x : ℕ). both (state (bit_at w) x) (state (second w n) x)) six in
    let e1 : state_of (c.both / 8) ≡ one = ap (λ (x : ℕ). state_of (x / 8)) e ∙ both_one one two (state_bits (bit_at w) n) (state_bits (second w n) n) in
    let e2 : state_of c.both ≡ two = ap state_of e ∙ both_two one two (state_bits (second w n) n) in
    let at : place_of c.sink ≡ total (copies p n) (5 * n) = S.at ∙ ap (total (copies p n)) {x = 30 * (n / 6)} {y = 5 * n} (omega arith) in
    let v : r.value ≡ number (code_bit p n w) (place_of c.sink) r.bits =
    value ∙ ap₂ (λ (a b : State). segment (λ k. digit_at (entries p) (60 + k)) (tail_symbol a b) 30) e1 e2 ∙ tail_sent p n w hp ∙ ap₂ (number (code_bit p n w)) (sym at) (sym (bits)) in
    let P = wide_put r.value r.bits out c.sink s m S.room (omega (arith, bits, tail_most p hp))
    (subst (λ (x : ℕ). x < 2 ^ r.bits) (sym v) (number_lt (code_bit p n w) (code_bit_lem p n w) (place_of c.sink) r.bits))
    (omega (arith, at, S.full, tail_to p n w hp, bits)) q in
    let H = P.keeps (code_bit p n w) (code_bit_lem p n w) S.held v in
    let R : Length p n = length_rule p n C in
    let full : place_of s ≡ 8 * length out = P.moved ∙ omega (arith, at, S.full, tail_to p n w hp, bits) in
    let even : 8 * length out % 32 ≡ 0 = ap (λ (x : ℕ). x % 32) (sym S.full ∙ total_rule p n C) ∙ words p n C in
    packed_ext (code_bit p n w) m (length out) P.len (λ k l. H.bytes k (omega (arith, all_stored s.at s.used (length out) full P.room (P.step ∙ S.words) even)))
  where
    sizes : Coded p n → 6 * (n / 6) ≡ n
    sizes = ⊎_elim (λ x. omega (arith, x.1)) (λ x. omega (arith, x.1))
