-- Laws of the tail: its symbols by the table of both encoders, and what is sent of its thirty places.
-- Assumes nothing.
use Prim.Native.Nat.{ℕ, ◌+◌, ◌-◌, ◌*◌, ◌/◌, ◌%◌, ◌^◌, ◌≤◌, ◌<◌}
use mathlib.Core.Path.{◌≡◌, refl, sym, ap, ap₂, ◌∙◌, subst}
use mathlib.Core.List.{List}
use native.Mathlib.Nat.{zero-add, add-mul, mul_comm, mul_assoc}
use native.Mathlib.Decide.{dec_lt}
use native.Mathlib.Omega.{arith}
use lib.Pow.{split}
use lib.ListN.{length, get_or}
use borrow.Author.Tests.{lt-ltb, le-ltb}
use Rattle.ground.proofs.Choice.{choose_true, choose_false}
use Rattle.ground.proofs.Table.{get_or_tab}
use Rattle.bits.specs.Lists.{Below}
use Rattle.bits.specs.Places.{number}
use Rattle.bits.proofs.Places.{number_append, number_move, number_bit}
use Rattle.bits.proofs.Below.{below_get}
use Rattle.patterns.specs.Sent.{total}
use Rattle.patterns.proofs.Totals.{total_more}
use Rattle.constituent.specs.Constituent.{y0, y1, feed, clocked}
use Rattle.constituent.specs.Symbols.{tail_symbols1, tail_symbols2}
use Rattle.constituent.specs.Six.{state_of}
use Rattle.constituent.specs.Segment.{digit_at, segment}
use Rattle.constituent.specs.declared.State.{State}
use Rattle.constituent.proofs.Segments.{segment_more}
use Rattle.tail.specs.Tail.{tail_symbol, run_of}
use Rattle.tail.specs.Inside.{tail_of, tails}
use Rattle.tail.specs.declared.Run.{Run}

tail_bits1 : (s : State) → Below 2 (tail_symbols1 s) × (length (tail_symbols1 s) ≡ 5)
unfolding tail_symbols1 feed y0 y1
tail_bits1 s = ((omega arith, (omega arith, (omega arith, (omega arith, (omega arith, tt))))), refl)

tail_bits2 : (s : State) → Below 2 (tail_symbols2 s) × (length (tail_symbols2 s) ≡ 5)
unfolding tail_symbols2 feed y0 y1
tail_bits2 s = ((omega arith, (omega arith, (omega arith, (omega arith, (omega arith, tt))))), refl)

module _ (s t : State) where
  first_three : (k : ℕ) → k < 15 → tail_symbol s t k ≡ get_or (tail_symbols1 (clocked s (k / 5))) (k % 5) 0
  unfolding tail_symbol
  first_three k h = ap (λ (l : List ℕ). get_or l (k % 5) 0) (choose_true (tail_symbols1 (clocked s (k / 5))) (tail_symbols2 (clocked t (k / 5 - 3))) (lt-ltb (k / 5) 3 (omega arith)))

  last_three : (k : ℕ) → 15 ≤ k → tail_symbol s t k ≡ get_or (tail_symbols2 (clocked t (k / 5 - 3))) (k % 5) 0
  unfolding tail_symbol
  last_three k h = ap (λ (l : List ℕ). get_or l (k % 5) 0) (choose_false (tail_symbols1 (clocked s (k / 5))) (tail_symbols2 (clocked t (k / 5 - 3))) (le-ltb (k / 5) 3 (omega arith)))

  pub tail_lt : (k : ℕ) → tail_symbol s t k < 2
  tail_lt k =
      elim (dec_lt k 15) [
        | yes a ↦ subst (λ (x : ℕ). x < 2) (sym (first_three k a)) (below_get 2 (tail_symbols1 (clocked s (k / 5))) (k % 5) (omega arith) (tail_bits1 (clocked s (k / 5))).0)
        | no a ↦ subst (λ (x : ℕ). x < 2) (sym (last_three k (omega arith))) (below_get 2 (tail_symbols2 (clocked t (k / 5 - 3))) (k % 5) (omega arith) (tail_bits2 (clocked t (k / 5 - 3))).0)
      ]

  -- the symbols by the two entries of the table
  pub tail_number_lem : (x y : ℕ) → x < 8 → y < 8 → state_of x ≡ s → state_of (8 + y) ≡ t → get_or tails x 0 * 32768 + get_or tails (8 + y) 0 ≡ number (tail_symbol s t) 0 30
  unfolding tails tail_of
  tail_number_lem x y hx hy es et =
      let first : get_or tails x 0 ≡ number (tail_symbol s t) 0 15 =
      get_or_tab (λ i. number (tail_of i) 0 15) 0 0 16 x (omega arith) ∙ ap (λ (i : ℕ). number (tail_of i) 0 15) (zero-add x)
      ∙ number_move (tail_of x) (tail_symbol s t) 0 0 15 (λ k l.
      ap (λ (m : List ℕ). get_or m ((0 + k) % 5) 0) (choose_true _ _ (lt-ltb x 8 hx) ∙ ap (λ (r : State). tail_symbols1 (clocked r ((0 + k) / 5))) es) ∙ sym (first_three (0 + k) (omega arith))) in
      let last : get_or tails (8 + y) 0 ≡ number (tail_symbol s t) 15 15 =
      get_or_tab (λ i. number (tail_of i) 0 15) 0 0 16 (8 + y) (omega arith) ∙ ap (λ (i : ℕ). number (tail_of i) 0 15) (zero-add (8 + y))
      ∙ number_move (tail_of (8 + y)) (tail_symbol s t) 0 15 15 (λ k l.
      let e1 : (0 + k) / 5 ≡ (15 + k) / 5 - 3 = omega arith in
      let e2 : (0 + k) % 5 ≡ (15 + k) % 5 = omega arith in
      ap (λ (m : List ℕ). get_or m ((0 + k) % 5) 0) (choose_false _ _ (le-ltb (8 + y) 8 (omega arith)))
      ∙ ap₂ (λ (a b : ℕ). get_or (tail_symbols2 (clocked (state_of (8 + y)) a)) b 0) e1 e2 ∙ ap (λ (r : State). get_or (tail_symbols2 (clocked r ((15 + k) / 5 - 3))) ((15 + k) % 5) 0) et ∙ sym (last_three (15 + k) (omega arith))) in
      ap₂ (λ (a b : ℕ). a * 32768 + b) first last ∙ sym (number_append (tail_symbol s t) 0 15 15)

  pub tail_symbol_lem : (v : ℕ) → v ≡ number (tail_symbol s t) 0 30 → (k : ℕ) → k < 30 → v / 2 ^ (29 - k) % 2 ≡ tail_symbol s t k
  tail_symbol_lem v e k h =
      let c : k + 1 + (29 - k) ≡ 30 = omega arith in
      ap (λ (x : ℕ). x / 2 ^ (29 - k) % 2) e
      ∙ subst (λ (n : ℕ). number (tail_symbol s t) 0 n / 2 ^ (29 - k) % 2 ≡ tail_symbol s t (0 + k)) c (number_bit (tail_symbol s t) tail_lt 0 k (29 - k)) ∙ ap (tail_symbol s t) (zero-add k)

-- k of the thirty places are sent
pub record Running (rows : List ℕ) (s t : State) (r : Run) (k : ℕ) : Type 0 where
  pub top : k ≤ 30
  pub value : r.value ≡ segment (λ j. digit_at rows (60 + j)) (tail_symbol s t) k % 2 ^ 64
  pub bits : r.bits ≡ total (λ j. digit_at rows (60 + j)) k
  pub few : r.bits ≤ 7 * k

pub running_none : (rows : List ℕ) (s t : State) → Running rows s t (record { value = 0; bits = 0 }) 0
unfolding segment total
running_none rows s t = record { top = omega arith; value = refl; bits = refl; few = omega arith }

-- sums and multiples of a remainder
mod_step : (a p c : ℕ) → (a % 2 ^ 64 * p + c) % 2 ^ 64 ≡ (a * p + c) % 2 ^ 64
mod_step a p c =
    let q : ℕ = a / 2 ^ 64 in
    let r : ℕ = a % 2 ^ 64 in
    let e : a * p ≡ 2 ^ 64 * (q * p) + r * p =
    ap (λ (z : ℕ). z * p) (sym (split a 64)) ∙ add-mul (q * 2 ^ 64) r p ∙ ap (λ (z : ℕ). z + r * p) (ap (λ (z : ℕ). z * p) (mul_comm q (2 ^ 64)) ∙ mul_assoc (2 ^ 64) q p) in
    whole (q * p) (r * p) (a * p) e
  where
    whole : (x y z : ℕ) → z ≡ 18446744073709551616 * x + y → (y + c) % 18446744073709551616 ≡ (z + c) % 18446744073709551616
    whole x y z e = omega arith

pub running_more : (rows : List ℕ) (s t : State) (r r' : Run) (k x d : ℕ) → Running rows s t r k → k < 30 → x ≡ tail_symbol s t k → d ≡ digit_at rows (60 + k)
    → r'.value ≡ (r.value * 2 ^ d + (2 ^ d - 1) * x) % 2 ^ 64 → r'.bits ≡ r.bits + d → d < 8 → Running rows s t r' (k + 1)
running_more rows s t r r' k x d R l ex ed ev eb dl = record {
  top = omega arith;
  value = ev ∙ ap₂ (λ (a b : ℕ). (a * 2 ^ d + (2 ^ d - 1) * b) % 2 ^ 64) R.value ex
      ∙ mod_step (segment (λ j. digit_at rows (60 + j)) (tail_symbol s t) k) (2 ^ d) ((2 ^ d - 1) * tail_symbol s t k)
      ∙ ap (λ (z : ℕ). (segment (λ j. digit_at rows (60 + j)) (tail_symbol s t) k * 2 ^ z + (2 ^ z - 1) * tail_symbol s t k) % 2 ^ 64) ed
      ∙ ap (λ (z : ℕ). z % 2 ^ 64) (sym (segment_more (λ j. digit_at rows (60 + j)) (tail_symbol s t) k));
  bits = eb ∙ ap₂ ◌+◌ R.bits ed ∙ sym (total_more (λ j. digit_at rows (60 + j)) k);
  few = omega (arith, eb, R.few);
}

pub running_all : (rows : List ℕ) (x : ℕ) (r : Run) (k : ℕ) → Running rows (state_of (x / 8)) (state_of x) r k → 30 ≤ k → r ≡ run_of rows x
unfolding run_of
running_all rows x r k R h =
    let e : k ≡ 30 = omega (arith, R.top) in
    let v : r.value ≡ (run_of rows x).value = R.value ∙ ap (λ (n : ℕ). segment (λ j. digit_at rows (60 + j)) (tail_symbol (state_of (x / 8)) (state_of x)) n % 2 ^ 64) e in
    let b : r.bits ≡ (run_of rows x).bits = R.bits ∙ ap (total (λ j. digit_at rows (60 + j))) e in
    ap₂ {A = ℕ} {B = ℕ} {C = Run} (λ y z. record { value = y; bits = z }) v b
