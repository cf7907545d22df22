-- What it means that the parity holds: c_o(x) is a multiple of the generator and the sum of all bits is 0; the bits are a codeword; an
-- odd number of wrong bits is seen.
-- Assumes nothing.
use Prim.Native.Nat.{ℕ, ◌+◌, ◌*◌, ◌%◌, ◌^◌, ◌<◌}
use mathlib.Core.Bool.{Bool, true, false}
use mathlib.Core.Path.{◌≡◌, refl, sym, ap, ap₂, ◌∙◌, subst}
use mathlib.Core.List.{List, [], ◌∷◌, ◌++◌, append_assoc}
use native.Mathlib.Nat.{add-zero}
use native.Mathlib.Omega.{arith}
use borrow.Author.Tests.{eqb-true, eq-eqb}
use lib.Bits.{bit_xor, xor_shifted}
use lib.Dec.{eqb, lit<}
use lib.ListN.{length, take, drop, get_or, length-append, length-drop}
use lib.Seq.{length-take-le, take_all, take-suc, take-add, take_at, drop_at, get_or_at}
use Rattle.ground.specs.Choice.{both}
use Rattle.ground.proofs.Choice.{both_true}
use Rattle.bits.specs.Lists.{bits, num, Below}
use Rattle.bits.specs.Sums.{added, ones}
use Rattle.bits.proofs.Below.{below_take, below_drop, below_get}
use Rattle.bits.proofs.Lists.{bits_length, bits_below, bits_num, num_append, num_bits, num_lt}
use Rattle.bits.proofs.Numbers.{bits_join, bits_one}
use Rattle.bits.proofs.Ones.{ones_append, ones_added}
use Rattle.parity.specs.Division.{Remainder}
use Rattle.parity.specs.Part.{generator, remainder, at_one, outer, parity_of, codeword, parity_holds}
use Rattle.parity.specs.Claims.{Bits, distance, Division, Sound, Meaning, Written, OneToOne, SameMessage, OddSeen}
use Rattle.parity.proofs.Division.{multiple_is}
use Rattle.parity.proofs.Laws.{remainder_is, remainder_unique, remainder_lt, at_one_lt, append_bits}

pub division : Division
division m w = record { is = remainder_is m w; only = λ r h. remainder_unique m r w h }

-- the message, the 48 bits and the last bit of 3,057 bits
module _ (c : List ℕ) (b : Bits 3057 c) where
  data48 : List ℕ
  data48 = take 48 (drop 3008 c)

  before_length : length (take 3056 c) ≡ 3056
  before_length = length-take-le 3056 c (omega (arith, b.count))

  data_length : length data48 ≡ 48
  unfolding data48
  data_length = length-take-le 48 (drop 3008 c) (rw (length-drop 3008 c) (omega (arith, b.count)))

  message_below : Below 2 (take 3008 c)
  message_below = below_take 2 3008 c b.each

  data_below : Below 2 data48
  unfolding data48
  data_below = below_take 2 48 (drop 3008 c) (below_drop 2 3008 c b.each)

  before_is : take 3056 c ≡ take 3008 c ++ data48
  unfolding data48
  before_is = take-add 3008 48 c

  whole_is : c ≡ take 3056 c ++ (get_or c 3056 0 ∷ [])
  whole_is = sym (take_all 3057 c (omega (arith, b.count))) ∙ take-suc c 3056 0 (omega (arith, b.count))

  whole_ones : ones c ≡ ones (take 3056 c) + get_or c 3056 0
  unfolding ones
  whole_ones = ap ones whole_is ∙ ones_append (take 3056 c) (get_or c 3056 0 ∷ []) ∙ ap (λ (x : ℕ). ones (take 3056 c) + x) (add-zero (get_or c 3056 0))

  data_lt : num data48 < 2 ^ 48
  data_lt = subst (λ (n : ℕ). num data48 < 2 ^ n) data_length (num_lt data48 data_below)

  before_num : num (take 3056 c) ≡ bit_xor (num (take 3008 c) * 2 ^ 48) (num data48)
  before_num =
      ap num before_is ∙ num_append (take 3008 c) data48 ∙ ap (λ (n : ℕ). num (take 3008 c) * 2 ^ n + num data48) data_length
      ∙ sym (xor_shifted (num (take 3008 c)) 48 (num data48) data_lt)

  holds_to : parity_holds c ≡ true → (num data48 ≡ remainder (take 3008 c)) × (get_or c 3056 0 ≡ at_one (take 3056 c))
  unfolding parity_holds data48
  holds_to e =
      let p = both_true (eqb (num data48) (remainder (take 3008 c))) (eqb (get_or c 3056 0) (at_one (take 3056 c))) e in
      (eqb-true (num data48) (remainder (take 3008 c)) p.0, eqb-true (get_or c 3056 0) (at_one (take 3056 c)) p.1)

  holds_of : num data48 ≡ remainder (take 3008 c) → get_or c 3056 0 ≡ at_one (take 3056 c) → parity_holds c ≡ true
  unfolding parity_holds data48
  holds_of p q = ap₂ both (eq-eqb (num data48) (remainder (take 3008 c)) p) (eq-eqb (get_or c 3056 0) (at_one (take 3056 c)) q)

  even_of : get_or c 3056 0 ≡ at_one (take 3056 c) → ones c % 2 ≡ 0
  unfolding at_one
  even_of e = ap (λ (x : ℕ). x % 2) whole_ones ∙ ap (λ (x : ℕ). (ones (take 3056 c) + x) % 2) e ∙ again (ones (take 3056 c))
    where
      again : (x : ℕ) → (x + x % 2) % 2 ≡ 0
      again x = omega arith

  even_to : ones c % 2 ≡ 0 → get_or c 3056 0 ≡ at_one (take 3056 c)
  unfolding at_one
  even_to e = other (ones (take 3056 c)) (get_or c 3056 0) (below_get 2 c 3056 (lit< tt) b.each) (sym (ap (λ (x : ℕ). x % 2) whole_ones) ∙ e)
    where
      other : (x y : ℕ) → y < 2 → (x + y) % 2 ≡ 0 → y ≡ x % 2
      other x y h e = omega arith

  sound_to : parity_holds c ≡ true → Sound c
  sound_to e =
      let p = holds_to e in
      let m : List ℕ = take 3008 c in
      record {
        generated = multiple_is (num (take 3056 c)) (remainder_is m message_below).multiple (sym (before_num ∙ ap (bit_xor (num m * 2 ^ 48)) p.0));
        even = even_of p.1;
      }

  sound_of : Sound c → parity_holds c ≡ true
  sound_of s =
      let m : List ℕ = take 3008 c in
      let r : Remainder 48 generator (num m * 2 ^ 48) (num data48) =
      record { small = data_lt; multiple = multiple_is (bit_xor (num m * 2 ^ 48) (num data48)) s.generated before_num } in
      holds_of (remainder_unique m (num data48) message_below r) (even_to s.even)

pub meaning : Meaning
meaning c b = (sound_to c b, sound_of c b)

-- a codeword is c_o and its parity bit
codeword_is : (m : List ℕ) → codeword m ≡ outer m ++ (at_one (outer m) ∷ [])
unfolding codeword parity_of outer
codeword_is m =
    let r : ℕ = remainder m in
    let p : ℕ = at_one (outer m) in
    ap (λ (l : List ℕ). m ++ l) (bits_join 48 1 r p (at_one_lt (outer m)) ∙ ap (λ (l : List ℕ). bits 48 r ++ l) (bits_one p (at_one_lt (outer m))))
    ∙ sym (append_assoc m (bits 48 r) (p ∷ []))

outer_length : (m : List ℕ) → length m ≡ 3008 → length (outer m) ≡ 3056
unfolding outer
outer_length m e = length-append m (bits 48 (remainder m)) ∙ ap₂ (λ (x y : ℕ). x + y) e (bits_length 48 (remainder m))

middle : (m : List ℕ) (b : Bits 3008 m) → num (take 48 (drop 3008 (codeword m))) ≡ remainder m
unfolding codeword parity_of
middle m b =
    let r : ℕ = remainder m in
    let p : ℕ = at_one (outer m) in
    ap (λ (l : List ℕ). num (take 48 l)) (drop_at m (bits 49 (parity_of m)) 3008 b.count ∙ bits_join 48 1 r p (at_one_lt (outer m)))
    ∙ ap num (take_at (bits 48 r) (bits 1 p) 48 (bits_length 48 r)) ∙ num_bits 48 r (remainder_lt m b.each)

pub written : Written
unfolding codeword data48
written m b =
    let c : List ℕ = codeword m in
    let v : ℕ = parity_of m in
    let r : ℕ = remainder m in
    let p : ℕ = at_one (outer m) in
    let sized : Bits 3057 c = append_bits m (bits 49 v) b (record { count = bits_length 49 v; each = bits_below 49 v }) in
    let front : take 3008 c ≡ m = take_at m (bits 49 v) 3008 b.count in
    let before : take 3056 c ≡ outer m = ap (take 3056) (codeword_is m) ∙ take_at (outer m) (p ∷ []) 3056 (outer_length m b.count) in
    let end : get_or c 3056 0 ≡ p = ap (λ (l : List ℕ). get_or l 3056 0) (codeword_is m) ∙ get_or_at (outer m) p [] 0 3056 (outer_length m b.count) in
    (sized, holds_of c sized (middle m b ∙ ap remainder (sym front)) (end ∙ ap at_one (sym before)))

pub one_to_one : OneToOne
unfolding outer
one_to_one c b e =
    let m : List ℕ = take 3008 c in
    let p = holds_to c b e in
    let d : data48 c b ≡ bits 48 (remainder m) =
    sym (bits_num (data48 c b) (data_below c b)) ∙ ap₂ bits (data_length c b) p.0 in
    let o : take 3056 c ≡ outer m = before_is c b ∙ ap (λ (l : List ℕ). m ++ l) d in
    whole_is c b ∙ ap₂ (λ (l : List ℕ) (x : ℕ). l ++ (x ∷ [])) o (p.1 ∙ ap at_one o) ∙ sym (codeword_is m)

pub same_message : SameMessage
same_message c e b d h k q = one_to_one c b h ∙ ap codeword q ∙ sym (one_to_one e d k)

pub odd_seen : OddSeen
unfolding distance
odd_seen c e b d h o = go (parity_holds e) refl
  where
    even : (x y z : ℕ) → x % 2 ≡ 0 → y % 2 ≡ 0 → z % 2 ≡ (x + y) % 2 → z % 2 ≡ 1 → ⊥
    even x y z p q r s = omega arith

    go : (t : Bool) → parity_holds e ≡ t → t ≡ false
    go false k = refl
    go true k = absurd (even (ones c) (ones e) (ones (added c e)) (sound_to c b h).even (sound_to e d k).even (ones_added c e (b.count ∙ sym d.count)) o)
