-- The codeword of a sum is the sum of the codewords, tail included: for every pattern and block, and every two words of one length.
-- No case of pattern or block is looked at: every symbol of the lane is a sum, and a codeword has copies of symbols.
-- Assumes nothing.
use Prim.Native.Nat.{ℕ, ◌+◌, ◌-◌, ◌/◌, ◌%◌, ◌<◌}
use mathlib.Core.Path.{◌≡◌, sym, ap, ap₂, ◌∙◌}
use mathlib.Core.Bool.{Bool, true, false}
use mathlib.Core.List.{List}
use native.Mathlib.Decide.{dec_lt}
use native.Mathlib.Omega.{arith}
use lib.Dec.{ltb}
use lib.ListN.{length, get_or, get_or-eq_default}
use Rattle.ground.specs.Choice.{choose}
use Rattle.bits.specs.Places.{bit_at}
use Rattle.bits.specs.Sums.{added, summed}
use Rattle.bits.proofs.Sums.{added_at}
use Rattle.bits.proofs.Summed.{bit_summed, packed_sum}
use Rattle.patterns.specs.Rows.{copies}
use Rattle.patterns.specs.Sent.{places, total, sent_from, code_length}
use Rattle.order.specs.Order.{order}
use Rattle.constituent.specs.Constituent.{state, clocked}
use Rattle.constituent.specs.Symbols.{data_symbols, tail_symbols1, tail_symbols2}
use Rattle.constituent.specs.declared.State.{State}
use Rattle.constituent.proofs.Linear.{plus, data_sum, tail_sum1, tail_sum2, state_sum, clocked_sum}
use Rattle.turbo.specs.Lane.{second, group, lane_bit}
use Rattle.turbo.specs.Encode.{code_bits, codeword}
use Rattle.turbo.proofs.Groups.{group_bits}
use Rattle.turbo.proofs.CodeBits.{code_count, code_from, code_lt}

choose_sum : (b : Bool) (x x' y y' z z' : List ℕ) → x ≡ added y z → x' ≡ added y' z' → choose b x x' ≡ added (choose b y y') (choose b z z')
choose_sum true x x' y y' z z' e e' = e
choose_sum false x x' y y' z z' e e' = e'

-- two words of one length
module _ (v w : List ℕ) (e : length v ≡ length w) where
  first_sum : (i : ℕ) → bit_at (summed v w) i ≡ (bit_at v i + bit_at w i) % 2
  first_sum i = bit_summed v w i e

  second_sum : (n i : ℕ) → second (summed v w) n i ≡ (second v n i + second w n i) % 2
  unfolding second
  second_sum n i = bit_summed v w (get_or (order n) i 0) e

  first_state : (i : ℕ) → state (bit_at (summed v w)) i ≡ plus (state (bit_at v) i) (state (bit_at w) i)
  first_state i = state_sum (bit_at v) (bit_at w) (bit_at (summed v w)) i first_sum

  second_state : (n i : ℕ) → state (second (summed v w) n) i ≡ plus (state (second v n) i) (state (second w n) i)
  second_state n i = state_sum (second v n) (second w n) (second (summed v w) n) i (second_sum n)

  -- a group of the lane: of a bit period, and of a period of either encoder's tail
  group_sum : (n i : ℕ) → group (summed v w) n i ≡ added (group v n i) (group w n i)
  unfolding group
  group_sum n i =
      choose_sum (ltb i n) _ _ _ _ _ _
      (ap₂ (λ (u : ℕ) (s : State). data_symbols u s (second (summed v w) n i) (state (second (summed v w) n) i)) (first_sum i) (first_state i)
      ∙ ap₂ (data_symbols ((bit_at v i + bit_at w i) % 2) (plus (state (bit_at v) i) (state (bit_at w) i))) (second_sum n i) (second_state n i)
      ∙ data_sum (bit_at v i) (bit_at w i) (state (bit_at v) i) (state (bit_at w) i) (second v n i) (second w n i) (state (second v n) i) (state (second w n) i))
      (choose_sum (ltb i (n + 3)) _ _ _ _ _ _
      (ap (λ (s : State). tail_symbols1 (clocked s (i - n))) (first_state n)
      ∙ ap tail_symbols1 (clocked_sum (state (bit_at v) n) (state (bit_at w) n) (i - n))
      ∙ tail_sum1 (clocked (state (bit_at v) n) (i - n)) (clocked (state (bit_at w) n) (i - n)))
      (ap (λ (s : State). tail_symbols2 (clocked s (i - (n + 3)))) (second_state n n)
      ∙ ap tail_symbols2 (clocked_sum (state (second v n) n) (state (second w n) n) (i - (n + 3)))
      ∙ tail_sum2 (clocked (state (second v n) n) (i - (n + 3))) (clocked (state (second w n) n) (i - (n + 3)))))

  lane_sum : (n k : ℕ) → lane_bit (summed v w) n k ≡ (lane_bit v n k + lane_bit w n k) % 2
  unfolding lane_bit
  lane_sum n k =
      ap (λ (l : List ℕ). get_or l (k % 5) 0) (group_sum n (k / 5))
      ∙ added_at (group v n (k / 5)) (group w n (k / 5)) (k % 5) ((group_bits v n (k / 5)).1 ∙ sym (group_bits w n (k / 5)).1)

  code_sum : (p n k : ℕ) → get_or (code_bits p n (summed v w)) k 0 ≡ (get_or (code_bits p n v) k 0 + get_or (code_bits p n w) k 0) % 2
  code_sum p n k =
      elim (dec_lt k (total (copies p n) (places n))) [
        | yes h ↦ code_from p n (summed v w) k h ∙ lane_sum n (sent_from p n k)
            ∙ sym (ap₂ (λ (x y : ℕ). (x + y) % 2) (code_from p n v k h) (code_from p n w k h))
        | no h ↦ past (summed v w) h ∙ sym (ap₂ (λ (x y : ℕ). (x + y) % 2) (past v h) (past w h))
      ]
    where
      past : (x : List ℕ) → (k < total (copies p n) (places n) → ⊥) → get_or (code_bits p n x) k 0 ≡ 0
      past x h = get_or-eq_default (code_bits p n x) 0 (omega (arith, code_count p n x))

  pub codeword_sum : (p n : ℕ) → codeword p n (summed v w) ≡ summed (codeword p n v) (codeword p n w)
  unfolding codeword
  codeword_sum p n =
      packed_sum (λ k. get_or (code_bits p n v) k 0) (λ k. get_or (code_bits p n w) k 0) (λ k. get_or (code_bits p n (summed v w)) k 0)
      (code_lt p n v) (code_lt p n w) (code_sum p n) (code_length p n / 8)
