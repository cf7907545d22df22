-- Laws of bits, num, unpack and pack.
-- Assumes nothing.
use Prim.Native.Nat.{ℕ, zero, suc, ◌+◌, ◌*◌, ◌/◌, ◌%◌, ◌^◌, ◌≤◌, ◌<◌}
use mathlib.Core.Path.{◌≡◌, refl, sym, ap, ap₂, ◌∙◌}
use mathlib.Core.List.{List, [], ◌∷◌, ◌++◌}
use native.Mathlib.Nat.{pow-suc, mul_assoc, mul_comm, add-mul, mul-add-mod_self_right, mul-add-div_right, mod-eq_of_lt, mod-one, zero-mul, zero-add, suc-add, lt_of_lt_of_le}
use native.Mathlib.Numerals.{one-add, add-one}
use native.Mathlib.Omega.{arith}
use lib.ListN.{length, get_or, take, drop, replicate, length-append, length-take, length-drop, take-append-drop}
use lib.Seq.{take_at, drop_at, take-suc, get_or-drop, length-take-le, take-append-le, drop-append-le}
use lib.Pow.{pow_pos, pow_mono, high, pow-add, mod-pow-add}
use lib.Arith.{digits_lt}
use Rattle.bits.specs.Lists.{bits, num, unpack, pack, Below}
use Rattle.bits.proofs.Below.{below_append, below_take, below_drop}

pub bits_length : (n v : ℕ) → length (bits n v) ≡ n
unfolding bits
bits_length zero v = refl
bits_length (suc n) v = ap suc (bits_length n v)

pub bits_below : (n v : ℕ) → Below 2 (bits n v)
unfolding bits
bits_below zero v = tt
bits_below (suc n) v = (omega arith, bits_below n v)

pub num_lt : (l : List ℕ) → Below 2 l → num l < 2 ^ length l
unfolding num
num_lt [] h = pow_pos 0
num_lt (b ∷ l) h = rw (pow-suc, mul_comm (2 ^ length l) 2) (digits_lt h.0 (num_lt l h.1))

-- what stands above the n low bits does not show in them
pub bits_high : (n a r : ℕ) → bits n (a * 2 ^ n + r) ≡ bits n r
unfolding bits
bits_high zero a r = refl
bits_high (suc n) a r =
    let e : a * 2 ^ suc n + r ≡ (a * 2) * 2 ^ n + r = rw (pow-suc, mul_comm (2 ^ n) 2, mul_assoc) refl in
    rw e (ap₂ (λ (x : ℕ) (l : List ℕ). x ∷ l) (rw (mul-add-div_right (pow_pos n) (a * 2) r) (mul-add-mod_self_right a 2 (r / 2 ^ n))) (bits_high n (a * 2) r))

pub bits_num : (l : List ℕ) → Below 2 l → bits (length l) (num l) ≡ l
unfolding bits num
bits_num [] h = refl
bits_num (b ∷ l) h =
    ap₂ (λ (x : ℕ) (m : List ℕ). x ∷ m)
    (rw (high b (length l) (num_lt l h.1)) (mod-eq_of_lt h.0))
    (bits_high (length l) b (num l) ∙ bits_num l h.1)

pub num_bits_mod : (n v : ℕ) → num (bits n v) ≡ v % 2 ^ n
unfolding bits num
num_bits_mod zero v = sym (mod-one v)
num_bits_mod (suc n) v = rw (bits_length n v, num_bits_mod n v, ← one-add n) (sym (mod-pow-add v 1 n))

pub num_bits : (n v : ℕ) → v < 2 ^ n → num (bits n v) ≡ v
num_bits n v h = num_bits_mod n v ∙ mod-eq_of_lt h

pub num_append : (l m : List ℕ) → num (l ++ m) ≡ num l * 2 ^ length m + num m
unfolding num
num_append [] m = omega (arith, zero-mul (2 ^ length m))
num_append (b ∷ l) m =
    let e : b * 2 ^ length (l ++ m) + num (l ++ m) ≡ (b * 2 ^ length l + num l) * 2 ^ length m + num m =
    rw (length-append, num_append l m, pow-add, ← mul_assoc, add-mul) (omega arith) in
    e

-- one bit more
pub num_snoc : (l : List ℕ) (b : ℕ) → num (l ++ (b ∷ [])) ≡ num l * 2 + b
unfolding num
num_snoc l b = num_append l (b ∷ []) ∙ omega arith

pub num_zeros : (n : ℕ) → num (replicate n 0) ≡ 0
unfolding num
num_zeros zero = refl
num_zeros (suc n) = ap₂ (λ (x y : ℕ). x + y) (zero-mul (2 ^ length (replicate n 0))) (num_zeros n)

-- the number of i bits from a place on: one bit more, and how large it gets
pub num_more : (b : List ℕ) (at i : ℕ) → at + i < length b → num (take (i + 1) (drop at b)) ≡ num (take i (drop at b)) * 2 + get_or b (at + i) 0
num_more b at i h =
    let l : i < length (drop at b) = rw length-drop (omega arith) in
    rw (add-one, take-suc (drop at b) i 0 l, num_snoc, get_or-drop)

pub unpack_length : (w : List ℕ) → length (unpack w) ≡ 8 * length w
unfolding unpack
unpack_length [] = refl
unpack_length (b ∷ w) = simp (length-append, bits_length, unpack_length w) (omega arith)

pub unpack_below : (w : List ℕ) → Below 2 (unpack w)
unfolding unpack
unpack_below [] = tt
unpack_below (b ∷ w) = below_append 2 (bits 8 b) (unpack w) (bits_below 8 b) (unpack_below w)

pub unpack_append : (a b : List ℕ) → unpack (a ++ b) ≡ unpack a ++ unpack b
unfolding unpack
unpack_append [] b = refl
unpack_append (x ∷ a) b = rw (unpack_append a b) (sym (mathlib.Core.List.append_assoc (bits 8 x) (unpack a) (unpack b)))

-- the bits of the first bytes, and of those behind them
unpack_cut : (n : ℕ) (w : List ℕ) → n ≤ length w → (unpack w ≡ unpack (take n w) ++ unpack (drop n w)) × (length (unpack (take n w)) ≡ 8 * n)
unpack_cut n w h = (
  ap unpack (sym (take-append-drop n w)) ∙ unpack_append (take n w) (drop n w),
  unpack_length (take n w) ∙ ap (λ (k : ℕ). 8 * k) (length-take-le n w h),
)

pub unpack_drop : (n : ℕ) (w : List ℕ) → n ≤ length w → drop (8 * n) (unpack w) ≡ unpack (drop n w)
unpack_drop n w h =
    let c = unpack_cut n w h in
    ap (drop (8 * n)) c.0 ∙ drop_at (unpack (take n w)) (unpack (drop n w)) (8 * n) c.1

pub unpack_take : (n : ℕ) (w : List ℕ) → n ≤ length w → take (8 * n) (unpack w) ≡ unpack (take n w)
unpack_take n w h =
    let c = unpack_cut n w h in
    ap (take (8 * n)) c.0 ∙ take_at (unpack (take n w)) (unpack (drop n w)) (8 * n) c.1

pub pack_length : (n : ℕ) (l : List ℕ) → length (pack n l) ≡ n
unfolding pack
pack_length zero l = refl
pack_length (suc n) l = ap suc (pack_length n (drop 8 l))

pub pack_below : (n : ℕ) (l : List ℕ) → Below 2 l → Below 256 (pack n l)
unfolding pack
pack_below zero l h = tt
pack_below (suc n) l h = (
  lt_of_lt_of_le (num_lt (take 8 l) (below_take 2 8 l h)) (pow_mono {j = 8} (rw length-take (omega arith))),
  pack_below n (drop 8 l) (below_drop 2 8 l h),
)

-- a list of bits packed and unpacked again
pub unpack_pack : (n : ℕ) (l : List ℕ) → Below 2 l → length l ≡ 8 * n → unpack (pack n l) ≡ l
unfolding pack unpack
unpack_pack zero [] h e = refl
unpack_pack zero (x ∷ l) h e = absurd (omega arith)
unpack_pack (suc n) l h e =
    let t : length (take 8 l) ≡ 8 = length-take 8 l ∙ omega arith in
    let b : bits 8 (num (take 8 l)) ≡ take 8 l = ap (λ k. bits k (num (take 8 l))) (sym t) ∙ bits_num (take 8 l) (below_take 2 8 l h) in
    ap₂ (λ (x y : List ℕ). x ++ y) b (unpack_pack n (drop 8 l) (below_drop 2 8 l h) (length-drop 8 l ∙ omega arith))
    ∙ take-append-drop 8 l

-- a packed part and what follows it
pub unpack_part : (n : ℕ) (x y : List ℕ) {z : List ℕ} → Below 2 x → length x ≡ 8 * n → unpack y ≡ z → unpack (pack n x ++ y) ≡ x ++ z
unpack_part n x y h e f = unpack_append (pack n x) y ∙ ap₂ (λ (a b : List ℕ). a ++ b) (unpack_pack n x h e) f

-- bytes unpacked and packed again
pub pack_unpack : (w : List ℕ) → Below 256 w → pack (length w) (unpack w) ≡ w
unfolding pack unpack
pack_unpack [] h = refl
pack_unpack (b ∷ w) h =
    ap₂ (λ (x : ℕ) (l : List ℕ). x ∷ l)
    (ap num (take_at (bits 8 b) (unpack w) 8 (bits_length 8 b)) ∙ num_bits 8 b h.0)
    (ap (pack (length w)) (drop_at (bits 8 b) (unpack w) 8 (bits_length 8 b)) ∙ pack_unpack w h.1)

-- bytes with the same bits are the same bytes
pub unpack_inj : (v w : List ℕ) → Below 256 v → Below 256 w → unpack v ≡ unpack w → v ≡ w
unpack_inj v w hv hw e =
    let l : length v ≡ length w = omega (arith, unpack_length v, unpack_length w, ap length e) in
    sym (pack_unpack v hv) ∙ ap₂ pack l e ∙ pack_unpack w hw

-- n bytes are packed from the first 8 * n bits
pub pack_front : (n : ℕ) (l m : List ℕ) → 8 * n ≤ length l → pack n (l ++ m) ≡ pack n l
unfolding pack
pack_front zero l m h = refl
pack_front (suc n) l m h =
    ap₂ (λ (x : ℕ) (y : List ℕ). x ∷ y)
    (ap num (take-append-le 8 l m (omega arith)))
    (ap (pack n) (drop-append-le 8 l m (omega arith)) ∙ pack_front n (drop 8 l) m (rw length-drop (omega arith)))

pub pack_take : (n m : ℕ) (l : List ℕ) → 8 * n ≤ m → m ≤ length l → pack n (take m l) ≡ pack n l
pack_take n m l h k =
    sym (pack_front n (take m l) (drop m l) (rw length-take (omega arith))) ∙ ap (pack n) (take-append-drop m l)

-- whole bytes, and those behind them
pub pack_append : (m n : ℕ) (a b : List ℕ) → length a ≡ 8 * m → pack (m + n) (a ++ b) ≡ pack m a ++ pack n b
unfolding pack
pack_append zero n [] b e = ap (λ (k : ℕ). pack k b) (zero-add n)
pack_append zero n (x ∷ a) b e = absurd (omega arith)
pack_append (suc m) n a b e =
    let t : length (take 8 a) ≡ 8 = length-take-le 8 a (omega arith) in
    let s : a ++ b ≡ take 8 a ++ (drop 8 a ++ b) = ap (λ (l : List ℕ). l ++ b) (sym (take-append-drop 8 a)) ∙ mathlib.Core.List.append_assoc (take 8 a) (drop 8 a) b in
    ap (λ (k : ℕ). pack k (a ++ b)) (suc-add m n)
    ∙ ap₂ (λ (x : ℕ) (y : List ℕ). x ∷ y)
    (ap (λ (l : List ℕ). num (take 8 l)) s ∙ ap num (take_at (take 8 a) (drop 8 a ++ b) 8 t))
    (ap (λ (l : List ℕ). pack (m + n) (drop 8 l)) s ∙ ap (pack (m + n)) (drop_at (take 8 a) (drop 8 a ++ b) 8 t) ∙ pack_append m n (drop 8 a) b (length-drop 8 a ∙ omega arith))
