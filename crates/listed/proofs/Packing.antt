-- Laws of what is read by the stored list: the bits, and the bytes that are packed of them.
-- Assumes nothing.
use Prim.Native.Nat.{ℕ, ◌+◌, ◌*◌, ◌≤◌, ◌<◌}
use mathlib.Core.Path.{◌≡◌, refl, sym, ap, ◌∙◌, subst}
use mathlib.Core.Logic.{inr}
use mathlib.Core.List.{List}
use native.Mathlib.Nat.{add-zero}
use native.Mathlib.Decide.{dec_lt}
use native.Mathlib.Omega.{arith}
use lib.ListN.{length, get_or, set, replicate, length-set, length-replicate, get_or-replicate, get_or-eq_default}
use lib.Seq.{get_or-set_other}
use borrow.Author.Tests.{lt-ltb, le-ltb}
use Rattle.ground.proofs.Choice.{choose_true, choose_false}
use Rattle.ground.proofs.Fill.{fill_more}
use Rattle.bits.specs.Places.{bit_at, number, packed}
use Rattle.bits.proofs.Places.{bit_lt, number_cong, number_append, number_zeros, packed_ext, packed_cong}
use Rattle.order.specs.Order.{order}
use Rattle.order.specs.Once.{Permutes}
use Rattle.order.proofs.Once.{order_permutes}
use Rattle.listed.specs.Listed.{listed_bit, listed}
use Rattle.listed.specs.Inside.{Singles, read_bit}

-- each address below 762 once
once : Permutes 762 (order 762)
once = order_permutes 762 (inr refl)

-- ---- the bits that are read
pub singles_small : (w d : List ℕ) → Singles w d → (a : ℕ) → get_or d a 0 < 2
singles_small w d s a =
    elim (dec_lt a 768) [
      | yes h ↦ subst (λ (z : ℕ). z < 2) (sym (s.bits a h)) (bit_lt w a)
      | no h ↦ subst (λ (z : ℕ). z < 2) (sym (get_or-eq_default d 0 {n = a} (omega (arith, s.len)))) (omega arith)
    ]

module _ (list d : List ℕ) (whole : list ≡ order 762) where
  -- an address of the list
  pub address_lt : (p : ℕ) → p < 762 → get_or list p 0 < 762
  address_lt p h = subst (λ (l : List ℕ). get_or l p 0 < 762) (sym whole) (once.below p h)

  pub bit_read : (p : ℕ) → p < 762 → get_or d (get_or list p 0) 0 ≡ read_bit d p
  unfolding read_bit
  bit_read p h =
      let a : ℕ = get_or (order 762) p 0 in
      ap (λ (l : List ℕ). get_or d (get_or l p 0) 0) whole ∙ sym (choose_true (get_or d a 0) 0 (lt-ltb p 762 h))

-- behind the block zeros are read
zeros_read : (d : List ℕ) (p n : ℕ) → 762 ≤ p → number (read_bit d) p n ≡ 0
unfolding read_bit
zeros_read d p n h = number_cong (read_bit d) (λ k. 0) p n (λ k l. choose_false (get_or d (get_or (order 762) (p + k) 0) 0) 0 (le-ltb (p + k) 762 (omega arith))) ∙ number_zeros p n

-- ---- eight bits, four and four
pub four_is : (f : ℕ → ℕ) (p b₀ b₁ b₂ b₃ : ℕ) → b₀ ≡ f p → b₁ ≡ f (p + 1) → b₂ ≡ f (p + 2) → b₃ ≡ f (p + 3) → ((b₀ * 2 + b₁) * 2 + b₂) * 2 + b₃ ≡ number f p 4
unfolding number
four_is f p b₀ b₁ b₂ b₃ e₀ e₁ e₂ e₃ = let z : f (p + 0) ≡ f p = ap f (add-zero p) in omega arith

pub eight_is : (f : ℕ → ℕ) (p a b : ℕ) → a ≡ number f p 4 → b ≡ number f (p + 4) 4 → a * 16 + b ≡ number f p 8
eight_is f p a b e g = omega (arith, number_append f p 4 4)

-- ---- i bytes of what is read stand, and zeros behind them
pub record Reading (d out : List ℕ) (i : ℕ) : Type 0 where
  pub len : length out ≡ 1536
  pub bytes : (k : ℕ) → k < i → get_or out k 0 ≡ number (read_bit d) (8 * k) 8
  pub rest : (k : ℕ) → i ≤ k → k < 1536 → get_or out k 0 ≡ 0

pub reading_none : (d : List ℕ) → Reading d (replicate 1536 0) 0
reading_none d = record { len = length-replicate {A = ℕ} 1536 0; bytes = λ k h. absurd (omega arith); rest = λ k h l. get_or-replicate 1536 k 0 0 l }

pub reading_more : (d out : List ℕ) (i v : ℕ) → Reading d out i → i < 1536 → v ≡ number (read_bit d) (8 * i) 8 → Reading d (set out i v) (i + 1)
reading_more d out i v r h e = record {
  len = length-set out i v ∙ r.len;
  bytes = fill_more (λ k. number (read_bit d) (8 * k) 8) 0 out i v (omega (arith, r.len)) e r.bytes;
  rest = λ k m q. get_or-set_other out i k v 0 (omega arith) ∙ r.rest k (omega arith) q;
}

-- the last two bits
pub last_two : (d : List ℕ) (a b : ℕ) → a ≡ read_bit d 760 → b ≡ read_bit d 761 → a * 128 + b * 64 ≡ number (read_bit d) 760 8
unfolding number
last_two d a b e f =
    let n : number (read_bit d) 760 8 ≡ number (read_bit d) 760 2 * 64 + number (read_bit d) 762 6 = number_append (read_bit d) 760 2 6 in
    let z : number (read_bit d) 762 6 ≡ 0 = zeros_read d 762 6 (omega arith) in
    let t : number (read_bit d) 760 2 ≡ a * 2 + b = omega arith in
    omega arith

pub reading_all : (d out : List ℕ) → Reading d out 96 → out ≡ packed (read_bit d) 1536
reading_all d out r =
    packed_ext (read_bit d) out 1536 r.len
    (λ k h. elim (dec_lt k 96) [
      | yes q ↦ r.bytes k q
      | no q ↦ r.rest k (omega arith) h ∙ sym (zeros_read d (8 * k) 8 (omega arith))
    ])

-- ---- that is what the list reads of the word
pub read_is : (w d : List ℕ) → Singles w d → packed (read_bit d) 1536 ≡ listed (order 762) w
unfolding listed listed_bit read_bit
read_is w d s =
    packed_cong (read_bit d) (listed_bit (order 762) w) 1536
    (λ p q. elim (dec_lt p 762) [
      | yes h ↦ (
          let a : ℕ = get_or (order 762) p 0 in
          choose_true (get_or d a 0) 0 (lt-ltb p 762 h) ∙ s.bits a (omega (arith, once.below p h))
          ∙ sym (choose_true (bit_at w a) 0 (lt-ltb p (length (order 762)) (omega (arith, once.size)))))
      | no h ↦ choose_false (get_or d (get_or (order 762) p 0) 0) 0 (le-ltb p 762 (omega arith))
          ∙ sym (choose_false (bit_at w (get_or (order 762) p 0)) 0 (le-ltb p (length (order 762)) (omega (arith, once.size))))
    ])
