-- The constituent encoder is linear, in its tail too: what a sum of inputs and registers gives is the sum of what they give.
-- Assumes nothing.
use Prim.Native.Nat.{ℕ, zero, suc, ◌+◌, ◌%◌, ◌≤◌, ◌<◌}
use mathlib.Core.Path.{◌≡◌, refl, sym, ap, ap₂, ◌∙◌}
use mathlib.Core.List.{List, [], ◌∷◌}
use native.Mathlib.Omega.{arith}
use Rattle.bits.specs.Sums.{added}
use Rattle.constituent.specs.Constituent.{entering, y0, y1, next, state, feed, clocked}
use Rattle.constituent.specs.Symbols.{data_symbols, tail_symbols1, tail_symbols2}
use Rattle.constituent.specs.Six.{bit_of, after, registers}
use Rattle.constituent.specs.declared.State.{State}

-- the register holds bits
pub record Bits (s : State) : Type 0 where
  pub one : s.a1 < 2
  pub two : s.a2 < 2
  pub three : s.a3 < 2

-- the sum of two registers
abbrev pub plus : State → State → State
plus s t = record { a1 = (s.a1 + t.a1) % 2; a2 = (s.a2 + t.a2) % 2; a3 = (s.a3 + t.a3) % 2 }

-- ---- sums modulo 2: of terms taken modulo 2, and of two terms each
more : (s s' z : ℕ) → s % 2 ≡ s' % 2 → (s + z % 2) % 2 ≡ (s' + z) % 2
more s s' z e = omega arith

apart : (a b : ℕ) → (a % 2 + b % 2) % 2 ≡ (a + b) % 2
apart a b = omega arith

apart3 : (a b c : ℕ) → (a % 2 + b % 2 + c % 2) % 2 ≡ (a + b + c) % 2
apart3 a b c = more (a % 2 + b % 2) (a + b) c (apart a b)

apart4 : (a b c d : ℕ) → (a % 2 + b % 2 + c % 2 + d % 2) % 2 ≡ (a + b + c + d) % 2
apart4 a b c d = more (a % 2 + b % 2 + c % 2) (a + b + c) d (apart3 a b c)

two : (a b c d : ℕ) → ((a + b) % 2 + (c + d) % 2) % 2 ≡ ((a + c) % 2 + (b + d) % 2) % 2
two a b c d = apart (a + b) (c + d) ∙ ap (λ (x : ℕ). x % 2) (omega arith) ∙ sym (apart (a + c) (b + d))

module _ (a b c d e f : ℕ) where
  three : ((a + b) % 2 + (c + d) % 2 + (e + f) % 2) % 2 ≡ ((a + c + e) % 2 + (b + d + f) % 2) % 2
  three = apart3 (a + b) (c + d) (e + f) ∙ ap (λ (x : ℕ). x % 2) (omega arith) ∙ sym (apart (a + c + e) (b + d + f))

  four : (g h : ℕ) → ((a + b) % 2 + (c + d) % 2 + (e + f) % 2 + (g + h) % 2) % 2 ≡ ((a + c + e + g) % 2 + (b + d + f + h) % 2) % 2
  four g h = apart4 (a + b) (c + d) (e + f) (g + h) ∙ ap (λ (x : ℕ). x % 2) (omega arith) ∙ sym (apart (a + c + e + g) (b + d + f + h))

-- ---- one clock
module _ (u v : ℕ) (s t : State) where
  enters_sum : entering ((u + v) % 2) (plus s t) ≡ (entering u s + entering v t) % 2
  enters_sum = three u v s.a2 t.a2 s.a3 t.a3

  y0_sum : y0 ((u + v) % 2) (plus s t) ≡ (y0 u s + y0 v t) % 2
  unfolding y0
  y0_sum =
      ap (λ (x : ℕ). (x + (s.a1 + t.a1) % 2 + (s.a3 + t.a3) % 2) % 2) enters_sum
      ∙ three (entering u s) (entering v t) s.a1 t.a1 s.a3 t.a3

  y1_sum : y1 ((u + v) % 2) (plus s t) ≡ (y1 u s + y1 v t) % 2
  unfolding y1
  y1_sum =
      ap (λ (x : ℕ). (x + (s.a1 + t.a1) % 2 + (s.a2 + t.a2) % 2 + (s.a3 + t.a3) % 2) % 2) enters_sum
      ∙ four (entering u s) (entering v t) s.a1 t.a1 s.a2 t.a2 s.a3 t.a3

  next_sum : next ((u + v) % 2) (plus s t) ≡ plus (next u s) (next v t)
  unfolding next
  next_sum = ap {A = ℕ} {B = State} (λ x. record { a1 = x; a2 = (s.a1 + t.a1) % 2; a3 = (s.a2 + t.a2) % 2 }) enters_sum

feed_sum : (s t : State) → feed (plus s t) ≡ (feed s + feed t) % 2
unfolding feed
feed_sum s t = two s.a2 t.a2 s.a3 t.a3

-- ---- the symbols of a bit period and of a period of the tail
pub data_sum : (u v : ℕ) (s t : State) (u' v' : ℕ) (s' t' : State)
    → data_symbols ((u + v) % 2) (plus s t) ((u' + v') % 2) (plus s' t') ≡ added (data_symbols u s u' s') (data_symbols v t v' t')
unfolding data_symbols added
data_sum u v s t u' v' s' t' =
    ap₂ (λ (x : ℕ) (l : List ℕ). (u + v) % 2 ∷ x ∷ l) (y0_sum u v s t)
    (ap₂ (λ (x : ℕ) (l : List ℕ). x ∷ l) (y1_sum u v s t) (ap₂ (λ (x y : ℕ). x ∷ y ∷ []) (y0_sum u' v' s' t') (y1_sum u' v' s' t')))

pub tail_sum1 : (s t : State) → tail_symbols1 (plus s t) ≡ added (tail_symbols1 s) (tail_symbols1 t)
unfolding tail_symbols1 added
tail_sum1 s t =
    ap (λ (x : ℕ). x ∷ y0 x (plus s t) ∷ y1 x (plus s t) ∷ 0 ∷ 0 ∷ []) (feed_sum s t)
    ∙ ap₂ (λ (x y : ℕ). (feed s + feed t) % 2 ∷ x ∷ y ∷ 0 ∷ 0 ∷ []) (y0_sum (feed s) (feed t) s t) (y1_sum (feed s) (feed t) s t)

pub tail_sum2 : (s t : State) → tail_symbols2 (plus s t) ≡ added (tail_symbols2 s) (tail_symbols2 t)
unfolding tail_symbols2 added
tail_sum2 s t =
    ap (λ (x : ℕ). x ∷ 0 ∷ 0 ∷ y0 x (plus s t) ∷ y1 x (plus s t) ∷ []) (feed_sum s t)
    ∙ ap₂ (λ (x y : ℕ). (feed s + feed t) % 2 ∷ 0 ∷ 0 ∷ x ∷ y ∷ []) (y0_sum (feed s) (feed t) s t) (y1_sum (feed s) (feed t) s t)

-- ---- the register after inputs that are sums, and after clocks of the tail
pub state_sum : (f g h : ℕ → ℕ) (i : ℕ) → ((k : ℕ) → h k ≡ (f k + g k) % 2) → state h i ≡ plus (state f i) (state g i)
unfolding state
state_sum f g h zero s = refl
state_sum f g h (suc i) s = ap₂ next (s i) (state_sum f g h i s) ∙ next_sum (f i) (g i) (state f i) (state g i)

pub clocked_sum : (s t : State) (i : ℕ) → clocked (plus s t) i ≡ plus (clocked s i) (clocked t i)
unfolding clocked
clocked_sum s t zero = refl
clocked_sum s t (suc i) =
    let a : State = clocked s i in
    let b : State = clocked t i in
    ap (λ (x : State). next (feed x) x) (clocked_sum s t i) ∙ ap (λ (x : ℕ). next x (plus a b)) (feed_sum a b) ∙ next_sum (feed a) (feed b) a b

pub registers_sum : (s t s' t' : State) → registers (plus s t) (plus s' t') ≡ added (registers s s') (registers t t')
unfolding added
registers_sum s t s' t' = refl

-- ---- the register after some of six bits
pub after_sum : (s t : State) (u v w : ℕ) → ((b : ℕ) → b < 6 → bit_of w b ≡ (bit_of u b + bit_of v b) % 2) → (b : ℕ) → b ≤ 6
    → after (plus s t) w b ≡ plus (after s u b) (after t v b)
unfolding after
after_sum s t u v w h zero l = refl
after_sum s t u v w h (suc b) l =
    ap₂ next (h b (omega arith)) (after_sum s t u v w h b (omega arith)) ∙ next_sum (bit_of u b) (bit_of v b) (after s u b) (after t v b)

-- ---- the registers hold bits
pub after_bits : (s : State) → Bits s → (u b : ℕ) → Bits (after s u b)
unfolding after next
after_bits s h u zero = h
after_bits s h u (suc b) = let r = after_bits s h u b in record { one = omega arith; two = r.one; three = r.two }
