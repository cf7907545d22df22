-- Laws of the copies out of a word: its bytes, and a section more.
-- Assumes nothing.
use Prim.Native.Nat.{ℕ, zero, suc, ◌+◌, ◌-◌, ◌*◌, ◌/◌, ◌%◌, ◌^◌, ◌≤◌, ◌<◌}
use mathlib.Core.Path.{◌≡◌, refl, sym, ap, ap₂, ◌∙◌, subst}
use mathlib.Core.List.{List, [], ◌∷◌, ◌++◌}
use native.Mathlib.Nat.{mod-eq_of_lt}
use native.Mathlib.Omega.{arith}
use lib.ListN.{length, get_or, take, drop, length-append, length-drop, take-append-drop}
use borrow.Rule.Slice.PartMut.{put_mid}
use Rattle.std.proofs.lemmas.Slice.{put_mid-paste}
use lib.Seq.{paste, paste-suc, length-paste, sets-eq, take_at, drop-drop, take-append-le, drop-append-le, length-take-le}
use Rattle.byte_runs.specs.Runs.{copied, run_of}
use Rattle.byte_runs.proofs.Runs.{copied_all}
use Rattle.bits.specs.Lists.{bits, num, unpack, pack, Below}
use Rattle.bits.specs.Places.{field_at}
use Rattle.bits.proofs.Lists.{bits_length, num_append, num_lt, unpack_below, unpack_length, unpack_drop, unpack_take, pack_length, pack_unpack, pack_take}
use Rattle.bits.proofs.Below.{below_take, below_drop}
use Rattle.bits.proofs.Places.{field_lt}
use Rattle.bits.proofs.Joined.{field_from, pack_at}
use Rattle.description.specs.Rows.{width, join, cut, joins, cuts}
use Rattle.description.specs.Fields.{table19}
use Rattle.description.specs.Sheet.{in_sheet}
use Rattle.description.proofs.Rows.{join_cut, joins_at, cuts_at, cuts_length}
use Rattle.description.proofs.Form1.{in_length}

-- ---- the n bytes at a bit place that is a byte's
bytes_at : (w : List ℕ) (at n : ℕ) → Below 256 w → at % 8 ≡ 0 → at / 8 + n ≤ length w → take n (drop (at / 8) w) ≡ pack n (drop at (unpack w))
bytes_at w at n b z h =
    let a : ℕ = at / 8 in
    let v : List ℕ = drop a w in
    let l : length v ≡ length w - a = length-drop a w in
    let m : length (take n v) ≡ n = length-take-le n v (omega (arith, l)) in
    let i : 8 * a ≡ at = omega arith in
    sym (pack_unpack (take n v) (below_take 256 n v (below_drop 256 a w b)))
    ∙ ap (λ (k : ℕ). pack k (unpack (take n v))) m
    ∙ ap (pack n) (sym (unpack_take n v (omega (arith, l))))
    ∙ pack_take n (8 * n) (unpack v) (omega arith) (omega (arith, unpack_length v, l))
    ∙ ap (pack n) (sym (unpack_drop a w (omega arith)) ∙ ap (λ (k : ℕ). drop k (unpack w)) i)

-- a copy of them, as the bytes of the bits that stand there
pub pasted : (w o : List ℕ) (from until to n : ℕ) {o' : List ℕ} → Below 256 w → from % 8 ≡ 0 → until / 8 ≡ from / 8 + n → until / 8 ≤ length w → to / 8 + n ≤ length o
    → o' ≡ copied (run_of w from until) o (to / 8) → o' ≡ paste o (to / 8) (pack n (drop from (unpack w))) n
pasted w o from until to n b z e h k f =
    let x : List ℕ = pack n (drop from (unpack w)) in
    let l : length x ≡ n = pack_length n _ in
    let d : until / 8 - from / 8 ≡ n = omega arith in
    f
    ∙ ap (λ (y : List ℕ). copied y o (to / 8)) (ap (λ (i : ℕ). take i (drop (from / 8) w)) d ∙ bytes_at w from n b z (omega arith))
    ∙ sym (copied_all x o (to / 8) (omega arith) n (sym l))

-- ---- a section more of a copy: section k of the d at a bit place

-- the d sections in the bits b, as they stand in a sheet: their bits, and their bytes
abbrev pub sheet_bits : ℕ → List ℕ → List ℕ
sheet_bits d b = joins (4 ∷ table19) (in_sheet (cuts table19 d b))

abbrev pub sheet_sections : ℕ → List ℕ → List ℕ
sheet_sections d b = pack (2 * d) (sheet_bits d b)

in_sheet_at : (rs : List (List ℕ)) (k : ℕ) → k < length rs → get_or (in_sheet rs) k [] ≡ 0 ∷ get_or rs k []
in_sheet_at [] k h = absurd (omega arith)
in_sheet_at (r ∷ rs) zero h = refl
in_sheet_at (r ∷ rs) (suc k) h = in_sheet_at rs k (omega arith)

-- the two bytes of twelve bits under four zeros
module _ (u : List ℕ) (h : Below 2 u) (e : length u ≡ 12) where
  low_length : length (drop 4 u) ≡ 8
  low_length = length-drop 4 u ∙ omega arith

  low_lt : num (drop 4 u) < 256
  low_lt = subst (λ (n : ℕ). num (drop 4 u) < 2 ^ n) low_length (num_lt (drop 4 u) (below_drop 2 4 u h))

  split : num u ≡ num (take 4 u) * 256 + num (drop 4 u)
  split =
      ap num (sym (take-append-drop 4 u)) ∙ num_append (take 4 u) (drop 4 u)
      ∙ ap (λ (n : ℕ). num (take 4 u) * 2 ^ n + num (drop 4 u)) low_length

  section_high : num (take 8 (bits 4 0 ++ u)) ≡ num u / 256
  unfolding bits num
  section_high = omega (arith, split, low_lt)

  section_low : num (drop 8 (bits 4 0 ++ u)) ≡ num u % 256
  unfolding bits
  section_low = omega (arith, split, low_lt)

-- section k of d in the bits b, and what follows it
module _ (d k : ℕ) (b : List ℕ) (h : Below 2 b) (f : 12 * d ≤ length b) (l : k < d) where
  twelve : List ℕ
  twelve = take 12 (drop (12 * k) b)

  rows : List (List ℕ)
  rows = in_sheet (cuts table19 d b)

  twelve_below : Below 2 twelve
  unfolding twelve
  twelve_below = below_take 2 12 (drop (12 * k) b) (below_drop 2 (12 * k) b h)

  enough : 12 ≤ length (drop (12 * k) b)
  enough = rw length-drop (omega arith)

  twelve_length : length twelve ≡ 12
  unfolding twelve
  twelve_length = length-take-le 12 (drop (12 * k) b) enough

  row_is : join (4 ∷ table19) (get_or rows k []) ≡ bits 4 0 ++ twelve
  unfolding rows twelve join width
  row_is =
      let n : k < length (cuts table19 d b) = rw cuts_length l in
      let m : k * 12 ≡ 12 * k = omega arith in
      ap (join (4 ∷ table19)) (in_sheet_at (cuts table19 d b) k n)
      ∙ ap (λ (r : List ℕ). join (4 ∷ table19) (0 ∷ r)) (cuts_at table19 d k b l ∙ ap (λ (i : ℕ). cut table19 (drop i b)) m)
      ∙ ap (λ (r : List ℕ). bits 4 0 ++ r) (join_cut table19 (drop (12 * k) b) (below_drop 2 (12 * k) b h) enough)

  rest : List ℕ
  rest = joins (4 ∷ table19) (drop (suc k) rows)

  from_row : drop (16 * k) (joins (4 ∷ table19) rows) ≡ (bits 4 0 ++ twelve) ++ rest
  unfolding rows rest width
  from_row =
      let n : k < length rows = rw (in_length, cuts_length) l in
      let m : 16 * k ≡ k * 16 = omega arith in
      ap (λ (i : ℕ). drop i (joins (4 ∷ table19) rows)) m ∙ joins_at (4 ∷ table19) k rows n ∙ ap (λ (r : List ℕ). r ++ rest) row_is

  row_length_lem : length (bits 4 0 ++ twelve) ≡ 16
  row_length_lem = length-append (bits 4 0) twelve ∙ ap₂ (λ (x y : ℕ). x + y) (bits_length 4 0) twelve_length

  at_even : get_or (sheet_sections d b) (2 * k) 0 ≡ num twelve / 256
  unfolding rows
  at_even =
      let m : 8 * (2 * k) ≡ 16 * k = omega arith in
      pack_at (2 * d) (joins (4 ∷ table19) rows) (2 * k) (omega arith)
      ∙ ap (λ (i : ℕ). num (take 8 (drop i (joins (4 ∷ table19) rows)))) m
      ∙ ap (λ (r : List ℕ). num (take 8 r)) from_row
      ∙ ap num (take-append-le 8 (bits 4 0 ++ twelve) rest (omega (arith, row_length_lem)))
      ∙ section_high twelve twelve_below twelve_length

  at_odd : get_or (sheet_sections d b) (suc (2 * k)) 0 ≡ num twelve % 256
  unfolding rows
  at_odd =
      let m : 8 * suc (2 * k) ≡ 16 * k + 8 = omega arith in
      pack_at (2 * d) (joins (4 ∷ table19) rows) (suc (2 * k)) (omega arith)
      ∙ ap (λ (i : ℕ). num (take 8 (drop i (joins (4 ∷ table19) rows)))) m
      ∙ ap (λ (r : List ℕ). num (take 8 r))
      (sym (drop-drop 8 (16 * k) (joins (4 ∷ table19) rows)) ∙ ap (drop 8) from_row
      ∙ drop-append-le 8 (bits 4 0 ++ twelve) rest (omega (arith, row_length_lem)))
      ∙ ap num (take_at (drop 8 (bits 4 0 ++ twelve)) rest 8 (length-drop 8 (bits 4 0 ++ twelve) ∙ omega (arith, row_length_lem)))
      ∙ section_low twelve twelve_below twelve_length

-- its two bytes
abbrev section_bytes : ℕ → List ℕ
section_bytes v = v / 256 % 256 ∷ v % 256 ∷ []

pub section_more : (o w : List ℕ) (at to d k v : ℕ) {x : List ℕ} {n : ℕ} → to + 2 * d ≤ length o → k < d → at + 12 * d ≤ 8 * length w → v ≡ field_at w (at + 12 * k) 12
    → x ≡ section_bytes v → n ≡ 2
    → put_mid (to + 2 * k) n (paste o to (sheet_sections d (drop at (unpack w))) (2 * k)) x ≡ paste o to (sheet_sections d (drop at (unpack w))) (2 * (k + 1))
unfolding twelve
section_more o w at to d k v hd h f e ex en =
    let b : List ℕ = drop at (unpack w) in
    let x : List ℕ = sheet_sections d b in
    let l : List ℕ = paste o to x (2 * k) in
    let c : field_at w (at + 12 * k) 12 < 4096 = field_lt w (at + 12 * k) 12 (omega arith) in
    let q : v ≡ num (take 12 (drop (12 * k) b)) = e ∙ field_from w at (12 * k) 12 (omega arith) (omega arith) in
    let hb : Below 2 b = below_drop 2 at (unpack w) (unpack_below w) in
    let fb : 12 * d ≤ length b = rw (length-drop, unpack_length) (omega arith) in
    let m : v / 256 % 256 ≡ get_or x (2 * k) 0 = mod-eq_of_lt (omega arith) ∙ ap (λ (y : ℕ). y / 256) q ∙ sym (at_even d k b hb fb h) in
    let n : v % 256 ≡ get_or x (suc (2 * k)) 0 = ap (λ (y : ℕ). y % 256) q ∙ sym (at_odd d k b hb fb h) in
    let z : length x ≡ 2 * d = pack_length (2 * d) (sheet_bits d b) in
    let r : length l ≡ length o = length-paste o to x (2 * k) (omega arith) (omega arith) in
    let i : to + suc (2 * k) ≡ suc (to + 2 * k) = omega arith in
    let j : suc (suc (2 * k)) ≡ 2 * (k + 1) = omega arith in
    put_mid-paste (to + 2 * k) _ l _ (section_bytes v) 2 ex (sym en) refl ∙ sym (sets-eq (section_bytes v) l (to + 2 * k) (omega arith))
    ∙ rw (m, n, paste-suc o to x (2 * k) 0 (omega arith) (omega arith), ← i)
    (paste-suc o to x (suc (2 * k)) 0 (omega arith) (omega arith) ∙ ap (paste o to x) j)
