-- Laws of the bits spread a byte to a bit: digits in base 256, the table of spread bytes, and eight bytes stored at a time.
-- Assumes nothing.
use Prim.Native.Nat.{ℕ, zero, suc, ◌+◌, ◌-◌, ◌*◌, ◌/◌, ◌%◌, ◌^◌, ◌≤◌, ◌<◌}
use mathlib.Core.Path.{◌≡◌, refl, sym, ap, ap₂, ◌∙◌, subst}
use mathlib.Core.Bool.{Bool}
use mathlib.Core.List.{List}
use native.Mathlib.Nat.{add-zero, add-suc, zero-add, pow-succ', div-one, div-div-eq-div-mul}
use native.Mathlib.Omega.{arith}
use borrow.Author.Rules.{rules}
use borrow.Rule.Slice.PartMut.{put_mid}
use Rattle.std.proofs.lemmas.List.{length-take-le, places}
use Rattle.std.specs.Int.{bytes_low_first}
use lib.Dec.{T, leb, eqb, leb→le, eqb→eq}
use lib.ListN.{length, get_or, take, drop, set, replicate, length-set, length-drop}
use Rattle.ground.specs.Choice.{both}
use Rattle.ground.specs.Table.{all_below}
use Rattle.ground.proofs.Choice.{both_left, both_right}
use Rattle.ground.proofs.Table.{at_all}
use Rattle.ground.proofs.Fill.{fill_more}
use Rattle.bits.specs.Places.{bit_at}
use Rattle.pairs.specs.Inside.{spelt, spread, Stored}

-- the digits of a sum are sums of digits
spelt_add : (f g : ℕ → ℕ) (n : ℕ) → spelt f n + 64 * spelt g n ≡ spelt (λ k. f k + 64 * g k) n
unfolding spelt
spelt_add f g zero = refl
spelt_add f g (suc n) = omega (arith, spelt_add f g n)

-- a digit with m digits behind it
digit_at : (f : ℕ → ℕ) (k m : ℕ) → ((i : ℕ) → f i < 256) → spelt f (suc (k + m)) / 256 ^ m % 256 ≡ f k
unfolding spelt
digit_at f k zero small = ap (λ (i : ℕ). (spelt f i * 256 + f i) / 1 % 256) (add-zero k) ∙ ap (λ (x : ℕ). x % 256) (div-one (spelt f k * 256 + f k)) ∙ omega (arith, small k)
digit_at f k (suc m) small =
    let x : ℕ = spelt f (suc (k + m)) in
    let b : f (suc (k + m)) < 256 = small (suc (k + m)) in
    let q : (x * 256 + f (suc (k + m))) / 256 ≡ x = omega arith in
    ap (λ (i : ℕ). (spelt f i * 256 + f i) / 256 ^ suc m % 256) (add-suc k m)
    ∙ ap (λ (z : ℕ). (x * 256 + f (suc (k + m))) / z % 256) (pow-succ' 256 m)
    ∙ ap (λ (z : ℕ). z % 256) (sym (div-div-eq-div-mul (x * 256 + f (suc (k + m))) 256 (256 ^ m)))
    ∙ ap (λ (z : ℕ). z / 256 ^ m % 256) q
    ∙ digit_at f k m small

-- the digits of two bytes that are spread, the second above the first
pub spread_digit : (a b k : ℕ) → k < 8 → (spread a + 64 * spread b) / 256 ^ k % 256 ≡ a / 2 ^ (7 - k) % 2 + 64 * (b / 2 ^ (7 - k) % 2)
unfolding spread
spread_digit a b k h =
    let f : ℕ → ℕ = λ i. a / 2 ^ i % 2 + 64 * (b / 2 ^ i % 2) in
    let small : (i : ℕ) → f i < 256 = λ i. omega arith in
    let e : 8 ≡ suc (7 - k + k) = omega arith in
    ap (λ (x : ℕ). x / 256 ^ k % 256) (spelt_add (λ i. a / 2 ^ i % 2) (λ i. b / 2 ^ i % 2) 8 ∙ ap (spelt f) e)
    ∙ digit_at f (7 - k) k small

-- the bits of a byte of a word
pub bit_of_byte : (w : List ℕ) (i k : ℕ) → k < 8 → bit_at w (8 * i + k) ≡ get_or w i 0 / 2 ^ (7 - k) % 2
unfolding bit_at
bit_of_byte w i k h =
    let q : (8 * i + k) / 8 ≡ i = omega arith in
    let r : (8 * i + k) % 8 ≡ k = omega arith in
    ap₂ (λ (x y : ℕ). get_or w x 0 / 2 ^ (7 - y) % 2) q r

-- ---- the table
-- a byte is spread as half of it is, with its low bit above
stepped : ℕ → Bool
stepped y = both (eqb (spread (2 * y)) (spread y / 256)) (eqb (spread (2 * y + 1)) (spread y / 256 + 72057594037927936))

all_stepped : T (all_below stepped 128)
unfolding stepped spread spelt
all_stepped = tt

small : ℕ → Bool
small y = leb (spread y) 72340172838076673

all_small : T (all_below small 256)
unfolding small spread spelt
all_small = tt

pub spread_most : (y : ℕ) → y < 256 → spread y ≤ 72340172838076673
unfolding small
spread_most y h = leb→le (spread y) 72340172838076673 (at_all small 256 all_small y h)

spread_even : (y : ℕ) → y < 128 → spread (2 * y) ≡ spread y / 256
unfolding stepped
spread_even y h =
    eqb→eq (spread (2 * y)) (spread y / 256)
    (both_left (eqb (spread (2 * y)) (spread y / 256)) (eqb (spread (2 * y + 1)) (spread y / 256 + 72057594037927936)) (at_all stepped 128 all_stepped y h))

spread_odd : (y : ℕ) → y < 128 → spread (2 * y + 1) ≡ spread y / 256 + 72057594037927936
unfolding stepped
spread_odd y h =
    eqb→eq (spread (2 * y + 1)) (spread y / 256 + 72057594037927936)
    (both_right (eqb (spread (2 * y)) (spread y / 256)) (eqb (spread (2 * y + 1)) (spread y / 256 + 72057594037927936)) (at_all stepped 128 all_stepped y h))

-- the first x entries of the table stand
pub record Filled (t : List ℕ) (x : ℕ) : Type 0 where
  pub len : length t ≡ 256
  pub entries : (k : ℕ) → k < x → get_or t k 0 ≡ spread k

filled_next : (t : List ℕ) (x v : ℕ) → Filled t x → x < 256 → v ≡ spread x → Filled (set t x v) (x + 1)
filled_next t x v f h e = record { len = length-set t x v ∙ f.len; entries = fill_more spread 0 t x v (omega (arith, f.len)) e f.entries }

pub filled_none : Filled (set (replicate 256 0) 1 72057594037927936) 2
unfolding spread spelt
filled_none =
    filled_next (replicate 256 0) 1 72057594037927936
    (record { len = refl; entries = λ k h. subst (λ (i : ℕ). get_or (replicate 256 0) i 0 ≡ spread i) {x = 0} {y = k} (omega arith) refl }) (omega arith) refl

-- two entries more, by that of half their numbers
pub filled_more : (t : List ℕ) (y : ℕ) → Filled t (2 * y) → 0 < y → y < 128
    → Filled (set (set t (2 * y) (get_or t y 0 / 256)) (2 * y + 1) (get_or t y 0 / 256 + 72057594037927936)) (2 * (y + 1))
filled_more t y f some h =
    let v : ℕ = get_or t y 0 / 256 in
    let e : v ≡ spread y / 256 = ap (λ (x : ℕ). x / 256) (f.entries y (omega arith)) in
    let n : 2 * y + 1 + 1 ≡ 2 * (y + 1) = omega arith in
    let first : Filled (set t (2 * y) v) (2 * y + 1) = filled_next t (2 * y) v f (omega arith) (e ∙ sym (spread_even y h)) in
    subst (Filled (set (set t (2 * y) v) (2 * y + 1) (v + 72057594037927936))) n
    (filled_next (set t (2 * y) v) (2 * y + 1) (v + 72057594037927936) first (omega arith) (ap (λ (x : ℕ). x + 72057594037927936) e ∙ sym (spread_odd y h)))

-- ---- n bytes copied over a part
pub stored_part : (l p : List ℕ) (at n size : ℕ) (f : ℕ → ℕ) → at + n ≤ length l → size ≡ n → length p ≡ length (take size (drop at l)) → ((k : ℕ) → k < n → get_or p k 0 ≡ f k)
    → Stored l at f (put_mid at size l p) n
stored_part l p at n size f room same e bytes =
    let len : length p ≡ n = e ∙ length-take-le size (drop at l) (omega (arith, length-drop at l)) ∙ same in
    record {
      len = search (rules, places);
      here = λ k h. search (rules, places);
      before = λ k h. search (rules, places);
      behind = λ k h. search (rules, places);
    }

-- the bytes of a number, the lowest first
byte_from : (i n x k : ℕ) → k < n → get_or (bytes_low_first i n x) k 0 ≡ x / 256 ^ (i + k) % 256
byte_from i zero x k h = absurd (omega arith)
byte_from zero (suc n) x zero h = ap (λ (y : ℕ). y % 256) (sym (div-one x))
byte_from (suc i) (suc n) x zero h = rw add-zero refl
byte_from i (suc n) x (suc k) h = byte_from (suc i) n x k (omega arith) ∙ ap (λ (j : ℕ). x / 256 ^ j % 256) (omega arith)

pub byte_of : (n x k : ℕ) → k < n → get_or (bytes_low_first 0 n x) k 0 ≡ x / 256 ^ k % 256
byte_of n x k h = byte_from 0 n x k h ∙ ap (λ (j : ℕ). x / 256 ^ j % 256) (zero-add k)
