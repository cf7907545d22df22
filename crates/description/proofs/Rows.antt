-- A row is read back from what is written of it, and written back from what is read; the same for a list of rows.
-- Assumes nothing.
use Prim.Native.Nat.{ℕ, zero, suc, ◌+◌, ◌-◌, ◌*◌, ◌^◌, ◌≤◌, ◌<◌}
use mathlib.Core.Path.{◌≡◌, refl, sym, ap, ap₂, ◌∙◌, subst}
use mathlib.Core.List.{List, [], ◌∷◌, ◌++◌, append_assoc}
use native.Mathlib.Omega.{arith}
use native.Mathlib.Nat.{lt_of_lt_of_le, suc-mul, zero-mul, le_of_eq}
use lib.ListN.{length, get_or, take, drop, length-append, length-take, length-drop}
use lib.Seq.{take_at, drop_at, take-add, length-take-le, drop-drop}
use lib.Pow.{pow_mono}
use Rattle.bits.specs.Lists.{bits, num, Below, pack}
use Rattle.bits.proofs.Lists.{bits_length, bits_below, num_bits, bits_num, num_lt, pack_take}
use Rattle.bits.proofs.Below.{below_take, below_drop, below_append}
use Rattle.description.specs.Rows.{Each, width, join, cut, Row, joins, cuts}

pub join_length : (t vs : List ℕ) → length (join t vs) ≡ width t
unfolding join width
join_length [] vs = refl
join_length (k ∷ t) [] = length-append (bits k 0) (join t []) ∙ ap₂ (λ (x y : ℕ). x + y) (bits_length k 0) (join_length t [])
join_length (k ∷ t) (v ∷ vs) = length-append (bits k v) (join t vs) ∙ ap₂ (λ (x y : ℕ). x + y) (bits_length k v) (join_length t vs)

pub join_below : (t vs : List ℕ) → Below 2 (join t vs)
unfolding join
join_below [] vs = tt
join_below (k ∷ t) [] = below_append 2 (bits k 0) (join t []) (bits_below k 0) (join_below t [])
join_below (k ∷ t) (v ∷ vs) = below_append 2 (bits k v) (join t vs) (bits_below k v) (join_below t vs)

pub cut_join : (t vs rest : List ℕ) → Row t vs → cut t (join t vs ++ rest) ≡ vs
unfolding join cut Row
cut_join [] [] rest h = refl
cut_join [] (v ∷ vs) rest h = absurd h
cut_join (k ∷ t) [] rest h = absurd h
cut_join (k ∷ t) (v ∷ vs) rest h =
    let a : (bits k v ++ join t vs) ++ rest ≡ bits k v ++ (join t vs ++ rest) = append_assoc (bits k v) (join t vs) rest in
    let e : num (take k (bits k v ++ (join t vs ++ rest))) ∷ cut t (drop k (bits k v ++ (join t vs ++ rest))) ≡ v ∷ vs =
    rw (take_at (bits k v) (join t vs ++ rest) k (bits_length k v), drop_at (bits k v) (join t vs ++ rest) k (bits_length k v), num_bits k v h.0, cut_join t vs rest h.1) in
    rw a e

pub cut_row : (t b : List ℕ) → Below 2 b → Row t (cut t b)
unfolding cut Row
cut_row [] b h = tt
cut_row (k ∷ t) b h = (
  lt_of_lt_of_le (num_lt (take k b) (below_take 2 k b h)) (pow_mono {j = k} (rw length-take (omega arith))),
  cut_row t (drop k b) (below_drop 2 k b h),
)

pub join_cut : (t b : List ℕ) → Below 2 b → width t ≤ length b → join t (cut t b) ≡ take (width t) b
unfolding cut join width
join_cut [] b h f = refl
join_cut (k ∷ t) b h f =
    let e : bits k (num (take k b)) ≡ take k b =
    subst (λ (n : ℕ). bits n (num (take k b)) ≡ take k b) (length-take-le k b (omega arith)) (bits_num (take k b) (below_take 2 k b h)) in
    let g : width t ≤ length (drop k b) = rw length-drop (omega arith) in
    rw (e, join_cut t (drop k b) (below_drop 2 k b h) g, take-add k (width t) b)

-- ---- lists of rows
pub joins_length : (t : List ℕ) (rs : List (List ℕ)) → length (joins t rs) ≡ length rs * width t
unfolding joins
joins_length t [] = sym (zero-mul (width t))
joins_length t (r ∷ rs) = length-append (join t r) (joins t rs) ∙ omega (arith, join_length t r, joins_length t rs, suc-mul (length rs) (width t))

pub joins_below : (t : List ℕ) (rs : List (List ℕ)) → Below 2 (joins t rs)
unfolding joins
joins_below t [] = tt
joins_below t (r ∷ rs) = below_append 2 (join t r) (joins t rs) (join_below t r) (joins_below t rs)

pub cuts_joins : (t : List ℕ) (rs : List (List ℕ)) (rest : List ℕ) → Each (Row t) rs → cuts t (length rs) (joins t rs ++ rest) ≡ rs
unfolding joins cuts
cuts_joins t [] rest h = refl
cuts_joins t (r ∷ rs) rest h =
    let a : (join t r ++ joins t rs) ++ rest ≡ join t r ++ (joins t rs ++ rest) = append_assoc (join t r) (joins t rs) rest in
    let e : cut t (join t r ++ (joins t rs ++ rest)) ∷ cuts t (length rs) (drop (width t) (join t r ++ (joins t rs ++ rest))) ≡ r ∷ rs =
    rw (cut_join t r (joins t rs ++ rest) h.0, drop_at (join t r) (joins t rs ++ rest) (width t) (join_length t r), cuts_joins t rs rest h.1) in
    rw a e

pub cuts_length : (t : List ℕ) (n : ℕ) (b : List ℕ) → length (cuts t n b) ≡ n
unfolding cuts
cuts_length t zero b = refl
cuts_length t (suc n) b = ap suc (cuts_length t n (drop (width t) b))

pub cuts_rows : (t : List ℕ) (n : ℕ) (b : List ℕ) → Below 2 b → Each (Row t) (cuts t n b)
unfolding cuts
cuts_rows t zero b h = tt
cuts_rows t (suc n) b h = (cut_row t b h, cuts_rows t n (drop (width t) b) (below_drop 2 (width t) b h))

pub joins_cuts : (t : List ℕ) (n : ℕ) (b : List ℕ) → Below 2 b → n * width t ≤ length b → joins t (cuts t n b) ≡ take (n * width t) b
unfolding cuts joins
joins_cuts t zero b h f = rw zero-mul refl
joins_cuts t (suc n) b h f =
    let m : suc n * width t ≡ width t + n * width t = suc-mul n (width t) ∙ omega arith in
    let g : n * width t ≤ length (drop (width t) b) = rw length-drop (omega arith) in
    rw (m, join_cut t b h (omega arith), joins_cuts t n (drop (width t) b) (below_drop 2 (width t) b h) g, take-add (width t) (n * width t) b)

-- row i of a list of rows
pub cuts_at : (t : List ℕ) (n i : ℕ) (b : List ℕ) → i < n → get_or (cuts t n b) i [] ≡ cut t (drop (i * width t) b)
unfolding cuts
cuts_at t zero i b h = absurd (omega arith)
cuts_at t (suc n) zero b h = rw zero-mul refl
cuts_at t (suc n) (suc i) b h =
    let m : suc i * width t ≡ width t + i * width t = suc-mul i (width t) ∙ omega arith in
    cuts_at t n i (drop (width t) b) (omega arith) ∙ rw (m, drop-drop (i * width t) (width t) b)

-- where field k of a row starts
unfoldable pub offset : List ℕ → ℕ → ℕ
offset [] k = 0
offset (w ∷ t) zero = 0
offset (w ∷ t) (suc k) = w + offset t k

pub cut_field : (t : List ℕ) (k : ℕ) (b : List ℕ) → k < length t → get_or (cut t b) k 0 ≡ num (take (get_or t k 0) (drop (offset t k) b))
unfolding cut offset
cut_field [] k b h = absurd (omega arith)
cut_field (w ∷ t) zero b h = refl
cut_field (w ∷ t) (suc k) b h = cut_field t k (drop w b) (omega arith) ∙ rw (drop-drop (offset t k) w b)

-- a part of a list of rows
pub cuts_drop : (t : List ℕ) (k n : ℕ) (b : List ℕ) → k ≤ n → drop k (cuts t n b) ≡ cuts t (n - k) (drop (k * width t) b)
unfolding cuts
cuts_drop t zero n b h = let e : n - 0 ≡ n = omega arith in rw (e, zero-mul) refl
cuts_drop t (suc k) zero b h = absurd (omega arith)
cuts_drop t (suc k) (suc n) b h =
    let m : suc k * width t ≡ width t + k * width t = suc-mul k (width t) ∙ omega arith in
    let e : suc n - suc k ≡ n - k = omega arith in
    cuts_drop t k n (drop (width t) b) (omega arith) ∙ rw (m, e, drop-drop (k * width t) (width t) b)

pub cuts_take : (t : List ℕ) (k n : ℕ) (b : List ℕ) → k ≤ n → take k (cuts t n b) ≡ cuts t k b
unfolding cuts
cuts_take t zero n b h = refl
cuts_take t (suc k) zero b h = absurd (omega arith)
cuts_take t (suc k) (suc n) b h = ap (λ (l : List (List ℕ)). cut t b ∷ l) (cuts_take t k n (drop (width t) b) (omega arith))

-- a value of a row fits its field
pub row_at_lem : (t vs : List ℕ) (k : ℕ) → Row t vs → k < length t → get_or vs k 0 < 2 ^ get_or t k 0
unfolding Row
row_at_lem [] vs k r h = absurd (omega arith)
row_at_lem (w ∷ t) [] k r h = absurd r
row_at_lem (w ∷ t) (v ∷ vs) zero r h = r.0
row_at_lem (w ∷ t) (v ∷ vs) (suc k) r h = row_at_lem t vs k r.1 (omega arith)

-- what is written from row k on
pub joins_at : (t : List ℕ) (k : ℕ) (rs : List (List ℕ)) → k < length rs → drop (k * width t) (joins t rs) ≡ join t (get_or rs k []) ++ joins t (drop (suc k) rs)
unfolding joins
joins_at t k [] h = absurd (omega arith)
joins_at t zero (r ∷ rs) h = rw zero-mul refl
joins_at t (suc k) (r ∷ rs) h =
    let m : suc k * width t ≡ width t + k * width t = suc-mul k (width t) ∙ omega arith in
    rw (m, ← drop-drop (k * width t) (width t) (join t r ++ joins t rs), drop_at (join t r) (joins t rs) (width t) (join_length t r))
    (joins_at t k rs (omega arith))

-- whole bytes of a row and of rows are those of the bits that they were read of
pub pack_cut : (t : List ℕ) (n : ℕ) (b : List ℕ) → Below 2 b → 8 * n ≡ width t → width t ≤ length b → pack n (join t (cut t b)) ≡ pack n b
pack_cut t n b h e f = ap (pack n) (join_cut t b h f) ∙ pack_take n (width t) b (le_of_eq e) f

pub pack_cuts : (t : List ℕ) (n m : ℕ) (b : List ℕ) → Below 2 b → 8 * m ≡ n * width t → n * width t ≤ length b → pack m (joins t (cuts t n b)) ≡ pack m b
pack_cuts t n m b h e f = ap (pack m) (joins_cuts t n b h f) ∙ pack_take m (n * width t) b (le_of_eq e) f
