-- Laws of a word's bits a byte to a bit: the table of four bits, and the bytes that are unpacked by it.
-- Assumes nothing.
use Prim.Native.Nat.{ℕ, ◌+◌, ◌-◌, ◌*◌, ◌/◌, ◌%◌, ◌^◌, ◌≤◌, ◌<◌}
use mathlib.Core.Path.{◌≡◌, sym, ap, ◌∙◌, subst}
use mathlib.Core.Bool.{Bool}
use mathlib.Core.List.{List, []}
use native.Mathlib.Nat.{zero-div}
use native.Mathlib.Decide.{dec_lt}
use native.Mathlib.Omega.{arith}
use lib.Dec.{T, eqb, eqb→eq}
use lib.ListN.{length, get_or, replicate, length-replicate, get_or-replicate, get_or-eq_default}
use Rattle.ground.specs.Choice.{both}
use Rattle.ground.specs.Table.{all_below}
use Rattle.ground.proofs.Choice.{both_left, both_right}
use Rattle.ground.proofs.Table.{at_all}
use Rattle.bits.specs.Places.{bit_at}
use Rattle.pairs.specs.Inside.{Stored}
use Rattle.pairs.proofs.Spreading.{bit_of_byte}
use Rattle.listed.specs.Inside.{four_bit, Singles}

-- ---- the table of four bits
-- a row has the bits of its number
unfoldable pub row_holds : List (List ℕ) → ℕ → Bool
row_holds t v = all_below (λ k. eqb (get_or (get_or t v []) k 0) (four_bit (4 * v + k))) 4

abbrev pub rows_hold : List (List ℕ) → Bool
rows_hold t = all_below (row_holds t) 16

pub four_row : (t : List (List ℕ)) (p : List ℕ) (v : ℕ) → T (rows_hold t) → v < 16 → p ≡ get_or t v [] → (k : ℕ) → k < 4 → get_or p k 0 ≡ four_bit (4 * v + k)
unfolding row_holds
four_row t p v a h e k l =
    let r : List ℕ = get_or t v [] in
    ap (λ (x : List ℕ). get_or x k 0) e
    ∙ eqb→eq (get_or r k 0) (four_bit (4 * v + k)) (at_all (λ i. eqb (get_or r i 0) (four_bit (4 * v + i))) 4 (at_all (row_holds t) 16 a v h) k l)

-- a byte's upper four bits and its lower four are the byte's bits
upper : ℕ → ℕ → Bool
upper b k = eqb (four_bit (4 * (b / 16) + k)) (b / 2 ^ (7 - k) % 2)

lower : ℕ → ℕ → Bool
lower b k = eqb (four_bit (4 * (b % 16) + k)) (b / 2 ^ (7 - (4 + k)) % 2)

halves : ℕ → Bool
halves b = all_below (λ k. both (upper b k) (lower b k)) 4

all_halves : T (all_below halves 256)
unfolding halves upper lower four_bit
all_halves = tt

halves_at : (b k : ℕ) → b < 256 → k < 4 → T (both (upper b k) (lower b k))
unfolding halves
halves_at b k h l = at_all (λ i. both (upper b i) (lower b i)) 4 (at_all halves 256 all_halves b h) k l

upper_bit : (b k : ℕ) → b < 256 → k < 4 → four_bit (4 * (b / 16) + k) ≡ b / 2 ^ (7 - k) % 2
unfolding upper
upper_bit b k h l = eqb→eq (four_bit (4 * (b / 16) + k)) (b / 2 ^ (7 - k) % 2) (both_left (upper b k) (lower b k) (halves_at b k h l))

lower_bit : (b k : ℕ) → b < 256 → k < 4 → four_bit (4 * (b % 16) + k) ≡ b / 2 ^ (7 - (4 + k)) % 2
unfolding lower
lower_bit b k h l = eqb→eq (four_bit (4 * (b % 16) + k)) (b / 2 ^ (7 - (4 + k)) % 2) (both_right (upper b k) (lower b k) (halves_at b k h l))

-- ---- the bits of i bytes of the word stand, and zeros behind them
pub record Unpacking (w d : List ℕ) (i : ℕ) : Type 0 where
  pub len : length d ≡ 768
  pub bits : (a : ℕ) → a < 8 * i → get_or d a 0 ≡ bit_at w a
  pub rest : (a : ℕ) → 8 * i ≤ a → a < 768 → get_or d a 0 ≡ 0

pub unpacking_none : (w : List ℕ) → Unpacking w (replicate 768 0) 0
unpacking_none w = record { len = length-replicate {A = ℕ} 768 0; bits = λ a h. absurd (omega arith); rest = λ a h l. get_or-replicate 768 a 0 0 l }

-- what stands at a place behind another
at_place : (f : ℕ → ℕ) (g : ℕ → ℕ) (s a : ℕ) → s ≤ a → f (s + (a - s)) ≡ g (s + (a - s)) → f a ≡ g a
at_place f g s a h e = let c : s + (a - s) ≡ a = omega arith in subst (λ (z : ℕ). f z ≡ g z) c e

module _ (w d d' d'' : List ℕ) (i x : ℕ) (p : Unpacking w d i) (e : x ≡ get_or w i 0) (small : x < 256) (u : Stored d (8 * i) (λ k. four_bit (4 * (x / 16) + k)) d' 4)
    (l : Stored d' (8 * i + 4) (λ k. four_bit (4 * (x % 16) + k)) d'' 4) where
  bit_is : (k : ℕ) → k < 8 → x / 2 ^ (7 - k) % 2 ≡ bit_at w (8 * i + k)
  bit_is k h = ap (λ (y : ℕ). y / 2 ^ (7 - k) % 2) e ∙ sym (bit_of_byte w i k h)

  upper_four : (k : ℕ) → k < 4 → get_or d'' (8 * i + k) 0 ≡ bit_at w (8 * i + k)
  upper_four k h = l.before (8 * i + k) (omega arith) ∙ u.here k h ∙ upper_bit x k small h ∙ bit_is k (omega arith)

  lower_four : (k : ℕ) → k < 4 → get_or d'' (8 * i + 4 + k) 0 ≡ bit_at w (8 * i + 4 + k)
  lower_four k h =
      let c : 8 * i + (4 + k) ≡ 8 * i + 4 + k = omega arith in
      l.here k h ∙ lower_bit x k small h ∙ bit_is (4 + k) (omega arith) ∙ ap (bit_at w) c

  pub unpacking_more : Unpacking w d'' (i + 1)
  unpacking_more = record {
    len = l.len ∙ u.len ∙ p.len;
    bits = λ a h. elim (dec_lt a (8 * i)) [
      | yes q ↦ l.before a (omega arith) ∙ u.before a q ∙ p.bits a q
      | no q ↦ elim (dec_lt a (8 * i + 4)) [
        | yes r ↦ at_place (λ z. get_or d'' z 0) (bit_at w) (8 * i) a (omega arith) (upper_four (a - 8 * i) (omega arith))
        | no r ↦ at_place (λ z. get_or d'' z 0) (bit_at w) (8 * i + 4) a (omega arith) (lower_four (a - (8 * i + 4)) (omega arith))
      ]
    ];
    rest = λ a h k. l.behind a (omega arith) ∙ u.behind a (omega arith) ∙ p.rest a (omega arith) k;
  }

-- a place past the end of the word has no bit set
bit_behind : (w : List ℕ) (a : ℕ) → length w ≤ a / 8 → bit_at w a ≡ 0
unfolding bit_at
bit_behind w a h = ap (λ (x : ℕ). x / 2 ^ (7 - a % 8) % 2) (get_or-eq_default w 0 {n = a / 8} h) ∙ ap (λ (x : ℕ). x % 2) (zero-div (2 ^ (7 - a % 8)))

pub unpacking_all : (w d : List ℕ) (i : ℕ) → Unpacking w d i → (i < 96 → length w ≤ i) → Singles w d
unpacking_all w d i p h = record {
  len = p.len;
  bits = λ a l. elim (dec_lt a (8 * i)) [
    | yes q ↦ p.bits a q
    | no q ↦ p.rest a (omega arith) l ∙ sym (bit_behind w a (omega (arith, h (omega arith))))
  ];
}
