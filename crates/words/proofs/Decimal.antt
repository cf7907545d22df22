-- Laws of decimal numbers: one digit, one digit more, how many digits a number has, and that they spell it.
-- Assumes nothing.
use Prim.Native.Nat.{ℕ, zero, suc, ◌+◌, ◌-◌, ◌*◌, ◌/◌, ◌%◌, ◌^◌, ◌≤◌, ◌<◌}
use mathlib.Core.Path.{◌≡◌, refl, sym, ap, ◌∙◌}
use mathlib.Core.List.{List, [], ◌∷◌, ◌++◌}
use native.Mathlib.Nat.{pow-succ'}
use native.Mathlib.Decide.{dec_lt}
use native.Mathlib.Omega.{arith}
use borrow.Author.Tests.{lt-ltb, le-ltb}
use lib.Dec.{ltb}
use lib.ListN.{length, length-append}
use Rattle.ground.specs.Choice.{choose}
use Rattle.ground.proofs.Choice.{choose_true, choose_false}
use Rattle.words.specs.Words.{digits, decimal}

digits_one : (k n : ℕ) → n < 10 → digits k n ≡ (48 + n) ∷ []
unfolding digits
digits_one zero n h = refl
digits_one (suc k) n h = choose_true _ _ (lt-ltb n 10 h)

digits_more : (k n : ℕ) → 10 ≤ n → digits (suc k) n ≡ digits k (n / 10) ++ ((48 + n % 10) ∷ [])
unfolding digits
digits_more k n h = choose_false _ _ (le-ltb n 10 h)

-- more room for digits than a number needs changes nothing
digits_same : (k j n : ℕ) → n ≤ k → n ≤ j → digits k n ≡ digits j n
unfolding digits
digits_same zero j n h g = sym (digits_one j n (omega arith))
digits_same (suc k) zero n h g = digits_one (suc k) n (omega arith)
digits_same (suc k) (suc j) n h g =
    ap (λ (x : List ℕ). choose (ltb n 10) ((48 + n) ∷ []) (x ++ ((48 + n % 10) ∷ []))) (digits_same k j (n / 10) (omega arith) (omega arith))

pub decimal_one : (n : ℕ) → n < 10 → decimal n ≡ (48 + n) ∷ []
unfolding decimal
decimal_one n h = digits_one n n h

pub decimal_more : (n : ℕ) → 10 ≤ n → decimal n ≡ decimal (n / 10) ++ ((48 + n % 10) ∷ [])
unfolding decimal
decimal_more zero h = absurd (omega arith)
decimal_more (suc n) h =
    digits_more n (suc n) h ∙ ap (λ (x : List ℕ). x ++ ((48 + suc n % 10) ∷ [])) (digits_same n (suc n / 10) (suc n / 10) (omega arith) (omega arith))

length_one : (n : ℕ) → n < 10 → length (decimal n) ≡ 1
length_one n h = ap length (decimal_one n h)

length_more : (n : ℕ) → 10 ≤ n → length (decimal n) ≡ length (decimal (n / 10)) + 1
length_more n h = ap length (decimal_more n h) ∙ length-append (decimal (n / 10)) ((48 + n % 10) ∷ [])

-- a number below 10 ^ k has at most k digits
pub digits_most : (k n : ℕ) → n < 10 ^ suc k → length (decimal n) ≤ suc k
digits_most zero n h = omega (arith, length_one n h)
digits_most (suc k) n h =
    elim (dec_lt n 10) [
      | yes l ↦ omega (arith, length_one n l)
      | no l ↦ omega (arith, length_more n (omega arith), digits_most k (n / 10) (omega (arith, pow-succ' 10 (suc k))))
    ]

-- ---- what the digits spell is the number
abbrev pub spelt : ℕ → List ℕ → ℕ
spelt v [] = v
spelt v (c ∷ l) = spelt (v * 10 + (c - 48)) l

spelt_append : (v : ℕ) (a b : List ℕ) → spelt v (a ++ b) ≡ spelt (spelt v a) b
spelt_append v [] b = refl
spelt_append v (c ∷ a) b = spelt_append (v * 10 + (c - 48)) a b

digits_spell : (k n : ℕ) → n ≤ k → spelt 0 (digits k n) ≡ n
digits_spell zero n h = ap (spelt 0) (digits_one zero n (omega arith)) ∙ omega arith
digits_spell (suc k) n h =
    elim (dec_lt n 10) [
      | yes l ↦ ap (spelt 0) (digits_one (suc k) n l) ∙ omega arith
      | no l ↦ (
          let e : spelt 0 (digits k (n / 10)) ≡ n / 10 = digits_spell k (n / 10) (omega arith) in
          ap (spelt 0) (digits_more k n (omega arith)) ∙ spelt_append 0 (digits k (n / 10)) ((48 + n % 10) ∷ []) ∙ omega arith)
    ]

pub decimal_spells : (n : ℕ) → spelt 0 (decimal n) ≡ n
unfolding decimal
decimal_spells n = digits_spell n n (omega arith)
