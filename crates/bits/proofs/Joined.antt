-- The laws that join the two styles: a list of bits, and the bit at a place.
-- Assumes nothing.
use Prim.Native.Nat.{ℕ, zero, suc, ◌+◌, ◌-◌, ◌*◌, ◌/◌, ◌%◌, ◌^◌, ◌≤◌, ◌<◌}
use mathlib.Core.Path.{◌≡◌, refl, sym, ap, ap₂, ◌∙◌, subst}
use mathlib.Core.List.{List, [], ◌∷◌, ◌++◌}
use native.Mathlib.Nat.{zero-div, zero-add, add-zero}
use native.Mathlib.Numerals.{add-one}
use native.Mathlib.Decide.{dec_lt}
use native.Mathlib.Omega.{arith}
use lib.ListN.{length, get_or, take, drop, length-drop, get_or-append}
use lib.Seq.{get_or-append-add, get_or-drop, get_or-take, length-take-le, drop-drop, ext_get_or}
use Rattle.ground.specs.Table.{tab}
use Rattle.ground.proofs.Table.{length_tab, get_or_tab, tab_snoc}
use Rattle.bits.specs.Lists.{bits, num, unpack, pack, Below}
use Rattle.bits.specs.Places.{bit_at, number, packed, field_at}
use Rattle.bits.proofs.Below.{below_tab}
use Rattle.bits.proofs.Lists.{bits_length, num_snoc, num_more, unpack_length, pack_length, unpack_pack, pack_unpack}
use Rattle.bits.proofs.Places.{bit_lt, number_cong, field_is, packed_ext, packed_cong}

-- bit i of the n low bits of v
pub bits_at : (n v i : ℕ) → i < n → get_or (bits n v) i 0 ≡ v / 2 ^ (n - 1 - i) % 2
unfolding bits
bits_at zero v i h = absurd (omega arith)
bits_at (suc n) v zero h = ap (λ (k : ℕ). v / 2 ^ k % 2) (omega arith)
bits_at (suc n) v (suc i) h = bits_at n v i (omega arith) ∙ ap (λ (k : ℕ). v / 2 ^ k % 2) (omega arith)

-- the bit at a place is the entry of the list of bits, past the end too
pub bit_unpack : (w : List ℕ) (i : ℕ) → bit_at w i ≡ get_or (unpack w) i 0
unfolding unpack bit_at
bit_unpack [] i =
    let e : 0 / 2 ^ (7 - i % 8) % 2 ≡ 0 = rw (zero-div (2 ^ (7 - i % 8))) refl in
    e
bit_unpack (b ∷ w) i = go (dec_lt i 8) (bit_unpack w (i - 8))
  where
    go : Dec (i < 8) → get_or w ((i - 8) / 8) 0 / 2 ^ (7 - (i - 8) % 8) % 2 ≡ get_or (unpack w) (i - 8) 0
        → get_or (b ∷ w) (i / 8) 0 / 2 ^ (7 - i % 8) % 2 ≡ get_or (bits 8 b ++ unpack w) i 0
    go (yes p) r =
        let a : i / 8 ≡ 0 = omega arith in
        let m : i % 8 ≡ i = omega arith in
        rw (get_or-append (bits 8 b) (unpack w) 0 i (subst (λ (k : ℕ). i < k) (sym (bits_length 8 b)) p), a, m) (sym (bits_at 8 b i p))
    go (no p) r =
        let e : i ≡ length (bits 8 b) + (i - 8) = rw bits_length (omega arith) in
        let a : i / 8 ≡ suc ((i - 8) / 8) = omega arith in
        let m : i % 8 ≡ (i - 8) % 8 = omega arith in
        rw (a, m) (r ∙ sym (ap (λ (k : ℕ). get_or (bits 8 b ++ unpack w) k 0) e ∙ get_or-append-add (bits 8 b) (unpack w) (i - 8) 0))

-- a run of bits as a list
pub run_unpack : (w : List ℕ) (at n : ℕ) → at + n ≤ 8 * length w → tab (bit_at w) at n ≡ take n (drop at (unpack w))
run_unpack w at n h =
    let u : List ℕ = unpack w in
    let l : length (take n (drop at u)) ≡ n = length-take-le n (drop at u) (rw (length-drop, unpack_length) (omega arith)) in
    ext_get_or 0 (tab (bit_at w) at n) (take n (drop at u)) (length_tab (bit_at w) at n ∙ sym l)
    (λ k p.
    let q : k < n = subst (λ (m : ℕ). k < m) (length_tab (bit_at w) at n) p in
    get_or_tab (bit_at w) 0 at n k q ∙ bit_unpack w (at + k) ∙ sym (get_or-take n (drop at u) k 0 q ∙ get_or-drop at u k 0))

pub run_below : (w : List ℕ) (at n : ℕ) → Below 2 (tab (bit_at w) at n)
run_below w at n = below_tab 2 (bit_at w) (bit_lt w) at n

-- the run of a byte
pub run_byte : (w : List ℕ) (j : ℕ) → tab (bit_at w) (8 * j) 8 ≡ bits 8 (get_or w j 0)
unfolding bit_at
run_byte w j =
    ext_get_or 0 (tab (bit_at w) (8 * j) 8) (bits 8 (get_or w j 0)) (length_tab (bit_at w) (8 * j) 8 ∙ sym (bits_length 8 (get_or w j 0)))
    (λ i h.
    let k : i < 8 = subst (λ (n : ℕ). i < n) (length_tab (bit_at w) (8 * j) 8) h in
    get_or_tab (bit_at w) 0 (8 * j) 8 i k ∙ there i k ∙ sym (bits_at 8 (get_or w j 0) i k))
  where
    there : (i : ℕ) → i < 8 → bit_at w (8 * j + i) ≡ get_or w j 0 / 2 ^ (8 - 1 - i) % 2
    there i h =
        let a : (8 * j + i) / 8 ≡ j = omega arith in
        let b : 7 - (8 * j + i) % 8 ≡ 8 - 1 - i = omega arith in
        ap₂ (λ (x y : ℕ). get_or w x 0 / 2 ^ y % 2) a b

-- what a run writes is its running number
pub num_tab : (f : ℕ → ℕ) (i n : ℕ) → num (tab f i n) ≡ number f i n
unfolding number num tab
num_tab f i zero = refl
num_tab f i (suc n) = ap num (tab_snoc f i n) ∙ num_snoc (tab f i n) (f (i + n)) ∙ ap (λ (x : ℕ). x * 2 + f (i + n)) (num_tab f i n)

-- the running number over a list of bits is the number that the list writes
pub number_list : (l : List ℕ) (at n : ℕ) → at + n ≤ length l → number (λ i. get_or l i 0) at n ≡ num (take n (drop at l))
unfolding number num
number_list l at zero h = refl
number_list l at (suc n) h =
    let e : num (take (suc n) (drop at l)) ≡ num (take n (drop at l)) * 2 + get_or l (at + n) 0 = rw add-one at (num_more l at n (omega arith)) in
    ap (λ (x : ℕ). x * 2 + get_or l (at + n) 0) (number_list l at n (omega arith)) ∙ sym e

pub number_num : (w : List ℕ) (at n : ℕ) → at + n ≤ 8 * length w → number (bit_at w) at n ≡ num (take n (drop at (unpack w)))
number_num w at n h =
    number_cong (bit_at w) (λ i. get_or (unpack w) i 0) at n (λ k p. bit_unpack w (at + k))
    ∙ number_list (unpack w) at n (rw unpack_length h)

-- a field of packed bytes
pub field_num : (w : List ℕ) (at n : ℕ) → n ≤ 32 → at + n ≤ 8 * length w → field_at w at n ≡ num (take n (drop at (unpack w)))
field_num w at n k h = field_is w at n k ∙ number_num w at n h

-- a field of one bit is that bit
pub field_bit : (w : List ℕ) (i : ℕ) → field_at w i 1 ≡ get_or (unpack w) i 0
unfolding number
field_bit w i = field_is w i 1 (omega arith) ∙ zero-add (bit_at w (i + 0)) ∙ ap (bit_at w) (add-zero i) ∙ bit_unpack w i

pub pack_at : (n : ℕ) (l : List ℕ) (k : ℕ) → k < n → get_or (pack n l) k 0 ≡ num (take 8 (drop (8 * k) l))
unfolding pack
pack_at zero l k h = absurd (omega arith)
pack_at (suc n) l zero h = refl
pack_at (suc n) l (suc k) h =
    let e : 8 + 8 * k ≡ 8 * suc k = omega arith in
    pack_at n (drop 8 l) k (omega arith) ∙ ap (λ (x : List ℕ). num (take 8 x)) (drop-drop (8 * k) 8 l ∙ ap (λ (m : ℕ). drop m l) e)

-- bytes packed from the entries of a list of bits are the list packed
pub packed_pack : (n : ℕ) (l : List ℕ) → 8 * n ≤ length l → packed (λ i. get_or l i 0) n ≡ pack n l
packed_pack n l h =
    sym (packed_ext (λ i. get_or l i 0) (pack n l) n (pack_length n l) (λ k p. pack_at n l k p ∙ sym (number_list l (8 * k) 8 (omega arith))))

-- bytes are packed from their own bits
pub packed_bits : (w : List ℕ) → Below 256 w → packed (bit_at w) (length w) ≡ w
packed_bits w h =
    packed_cong (bit_at w) (λ i. get_or (unpack w) i 0) (length w) (λ i p. bit_unpack w i)
    ∙ packed_pack (length w) (unpack w) (rw unpack_length (omega arith)) ∙ pack_unpack w h

-- the bits of packed bytes are those that were packed
pub bit_packed : (f : ℕ → ℕ) → ((k : ℕ) → f k < 2) → (n i : ℕ) → i < 8 * n → bit_at (packed f n) i ≡ f i
bit_packed f b n i h =
    let l : List ℕ = tab f 0 (8 * n) in
    let e : packed f n ≡ pack n l =
    packed_cong f (λ k. get_or l k 0) n (λ k p. sym (get_or_tab f 0 0 (8 * n) k p ∙ ap f (zero-add k)))
    ∙ packed_pack n l (rw length_tab (omega arith)) in
    bit_unpack (packed f n) i ∙ ap (λ (w : List ℕ). get_or (unpack w) i 0) e
    ∙ ap (λ (x : List ℕ). get_or x i 0) (unpack_pack n l (below_tab 2 f b 0 (8 * n)) (length_tab f 0 (8 * n)))
    ∙ get_or_tab f 0 0 (8 * n) i h ∙ ap f (zero-add i)

-- a field that stands i bits behind a place
pub field_from : (w : List ℕ) (at i n : ℕ) → n ≤ 32 → at + i + n ≤ 8 * length w → field_at w (at + i) n ≡ num (take n (drop i (drop at (unpack w))))
field_from w at i n k h = field_num w (at + i) n k h ∙ ap (λ (l : List ℕ). num (take n l)) (sym (drop-drop i at (unpack w)))
