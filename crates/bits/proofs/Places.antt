-- Laws of the bit at a place, the running number and packed bytes.
-- Assumes nothing.
use Prim.Native.Nat.{ℕ, zero, suc, ◌+◌, ◌-◌, ◌*◌, ◌/◌, ◌%◌, ◌^◌, ◌≤◌, ◌<◌}
use mathlib.Core.Path.{◌≡◌, refl, sym, ap, ap₂, ◌∙◌, subst}
use mathlib.Core.List.{List, ◌++◌}
use native.Mathlib.Nat.{pow-suc, zero-add, add-zero, add-suc, add_assoc, mul-add, mul_assoc}
use native.Mathlib.Numerals.{add-one}
use native.Mathlib.Omega.{arith}
use lib.ListN.{length, get_or, take, drop, get_or-append}
use lib.Pow.{pow_pos, high}
use borrow.Author.Tests.{le-ltb}
use Rattle.ground.specs.Table.{tab}
use Rattle.ground.proofs.Choice.{choose_false}
use Rattle.ground.proofs.Table.{length_tab, get_or_tab, tab_ext, tab_cong, tab_shift, drop_tab, take_tab}
use Rattle.bits.specs.Places.{bit_at, number, packed, field_at, fields_at}

pub bit_lt : (w : List ℕ) (i : ℕ) → bit_at w i < 2
unfolding bit_at
bit_lt w i = omega arith

-- one bit more
pub number_more : (f : ℕ → ℕ) (i n : ℕ) → number f i (n + 1) ≡ number f i n * 2 + f (i + n)
unfolding number
number_more f i n = rw add-one

pub number_lt : (f : ℕ → ℕ) → ((k : ℕ) → f k < 2) → (i n : ℕ) → number f i n < 2 ^ n
unfolding number
number_lt f h i zero = pow_pos 0
number_lt f h i (suc n) = rw pow-suc (omega (arith, number_lt f h i n, h (i + n)))

-- the number depends on its bits alone
pub number_cong : (f g : ℕ → ℕ) (i n : ℕ) → ((k : ℕ) → k < n → f (i + k) ≡ g (i + k)) → number f i n ≡ number g i n
unfolding number
number_cong f g i zero h = refl
number_cong f g i (suc n) h = ap₂ (λ (x y : ℕ). x * 2 + y) (number_cong f g i n (λ k p. h k (omega arith))) (h n (omega arith))

-- the number of a run depends on its bits, wherever they stand
pub number_move : (f g : ℕ → ℕ) (i j n : ℕ) → ((k : ℕ) → k < n → f (i + k) ≡ g (j + k)) → number f i n ≡ number g j n
unfolding number
number_move f g i j zero h = refl
number_move f g i j (suc n) h = ap₂ (λ (x y : ℕ). x * 2 + y) (number_move f g i j n (λ k p. h k (omega arith))) (h n (omega arith))

-- the bits of two runs, one behind the other
pub number_append : (f : ℕ → ℕ) (i m n : ℕ) → number f i (m + n) ≡ number f i m * 2 ^ n + number f (i + m) n
unfolding number
number_append f i m zero = ap (number f i) (add-zero m) ∙ omega arith
number_append f i m (suc n) =
    let e : number f i (m + suc n) ≡ number f i (m + n) * 2 + f (i + (m + n)) = ap (number f i) (add-suc m n) in
    let a : f (i + (m + n)) ≡ f (i + m + n) = ap f (sym (add_assoc i m n)) in
    let p : 2 ^ suc n ≡ 2 ^ n * 2 = pow-suc 2 n in
    let q : number f i m * 2 ^ suc n ≡ number f i m * 2 ^ n * 2 = ap (λ (x : ℕ). number f i m * x) p ∙ sym (mul_assoc (number f i m) (2 ^ n) 2) in
    omega (arith, e, a, q, number_append f i m n)

-- zeros spell 0
pub number_zeros : (i n : ℕ) → number (λ k. 0) i n ≡ 0
unfolding number
number_zeros i zero = refl
number_zeros i (suc n) = ap (λ (x : ℕ). x * 2 + 0) (number_zeros i n)

-- a bit of a running number
pub number_bit : (f : ℕ → ℕ) → ((k : ℕ) → f k < 2) → (i b r : ℕ) → number f i (b + 1 + r) / 2 ^ r % 2 ≡ f (i + b)
number_bit f bit i b r =
    ap (λ (x : ℕ). x / 2 ^ r % 2) (number_append f i (b + 1) r) ∙ ap (λ (x : ℕ). x % 2) (high (number f i (b + 1)) r (number_lt f bit (i + (b + 1)) r))
    ∙ omega (arith, number_more f i b, bit (i + b))

pub packed_length : (f : ℕ → ℕ) (n : ℕ) → length (packed f n) ≡ n
unfolding packed
packed_length f n = length_tab (λ k. number f (8 * k) 8) 0 n

pub packed_cong : (f g : ℕ → ℕ) (n : ℕ) → ((i : ℕ) → i < 8 * n → f i ≡ g i) → packed f n ≡ packed g n
unfolding packed
packed_cong f g n h =
    tab_cong (λ k. number f (8 * k) 8) (λ k. number g (8 * k) 8) 0 n
    (λ k p. number_cong f g (8 * (0 + k)) 8 (λ t q. h (8 * (0 + k) + t) (omega arith)))

-- bytes of which each is that of f are the packed bytes of f
pub packed_ext : (f : ℕ → ℕ) (out : List ℕ) (n : ℕ) → length out ≡ n → ((k : ℕ) → k < n → get_or out k 0 ≡ number f (8 * k) 8) → out ≡ packed f n
unfolding packed
packed_ext f out n e h = tab_ext (λ k. number f (8 * k) 8) 0 n out e h

pub field_is : (w : List ℕ) (at n : ℕ) → n ≤ 32 → field_at w at n ≡ number (bit_at w) at n
unfolding field_at
field_is w at n h = choose_false 0 (number (bit_at w) at n) (le-ltb 32 n h)

pub field_lt : (w : List ℕ) (at n : ℕ) → n ≤ 32 → field_at w at n < 2 ^ n
field_lt w at n h = subst (λ (x : ℕ). x < 2 ^ n) (sym (field_is w at n h)) (number_lt (bit_at w) (bit_lt w) at n)

-- ---- fields that stand step bits apart
pub fields_length : (w : List ℕ) (at step k n : ℕ) → length (fields_at w at step k n) ≡ n
unfolding fields_at
fields_length w at step k n = length_tab (λ i. field_at w (at + step * i) k) 0 n

pub fields_get : (w : List ℕ) (at step k n i : ℕ) → i < n → get_or (fields_at w at step k n) i 0 ≡ field_at w (at + step * i) k
unfolding fields_at
fields_get w at step k n i h =
    get_or_tab (λ j. field_at w (at + step * j) k) 0 0 n i h ∙ ap (λ (j : ℕ). field_at w (at + step * j) k) (zero-add i)

-- m of them from the field j on
pub fields_part : (w : List ℕ) (at step k n j m : ℕ) → j + m ≤ n → take m (drop j (fields_at w at step k n)) ≡ fields_at w (at + step * j) step k m
unfolding fields_at
fields_part w at step k n j m h =
    let f : ℕ → ℕ = λ i. field_at w (at + step * i) k in
    ap (take m) (drop_tab f 0 n j (omega arith) ∙ ap (λ (i : ℕ). tab f i (n - j)) (zero-add j))
    ∙ take_tab f j (n - j) m (omega arith)
    ∙ sym (tab_shift f j m)
    ∙ tab_cong (λ i. f (j + i)) (λ i. field_at w (at + step * j + step * i) k) 0 m
    (λ i l. ap (λ (x : ℕ). field_at w x k) (ap (λ (x : ℕ). at + x) (mul-add step j (0 + i)) ∙ sym (add_assoc at (step * j) (step * (0 + i)))))

-- the bits of the bytes before others
pub bit_front : (p l : List ℕ) (i : ℕ) → i < 8 * length p → bit_at (p ++ l) i ≡ bit_at p i
unfolding bit_at
bit_front p l i h = ap (λ (x : ℕ). x / 2 ^ (7 - i % 8) % 2) (get_or-append p l 0 (i / 8) (omega arith))
