-- The word of a sheet's lists part by part: each part is bits of the sheet, and the fields that go into the sink are those bits.
-- Assumes nothing.
use Prim.Native.Nat.{ℕ, zero, suc, ◌+◌, ◌-◌, ◌*◌, ◌/◌, ◌≤◌, ◌<◌}
use mathlib.Core.Path.{◌≡◌, refl, sym, ap, ap₂, ◌∙◌}
use mathlib.Core.List.{List, [], ◌∷◌, ◌++◌, append_assoc}
use native.Mathlib.Nat.{mul_comm}
use native.Mathlib.Decide.{dec_lt}
use native.Mathlib.Omega.{arith}
use lib.ListN.{length, get_or, take, drop, replicate, length-append, length-drop, length-replicate, get_or-replicate, replicate-append-replicate, get_or-append, get_or-eq_default}
use lib.Seq.{paste, take_at, drop_at, drop-drop, take-append-le, drop-append-le, get_or-append-add, length-take-le}
use Rattle.ground.proofs.Copy.{paste_behind}
use Rattle.byte_runs.specs.Runs.{copied, run_of}
use Rattle.byte_runs.proofs.Runs.{copied_all}
use Rattle.bits.specs.Lists.{num, unpack, pack, Below}
use Rattle.bits.specs.Places.{bit_at, number, field_at}
use Rattle.bits.proofs.Below.{below_append, below_drop, below_replicate}
use Rattle.bits.proofs.Lists.{unpack_below, unpack_length, unpack_append, unpack_take, unpack_drop}
use Rattle.bits.proofs.Joined.{bit_unpack, number_list, field_num}
use Rattle.description.specs.Rows.{width, join, cut, joins, cuts}
use Rattle.description.specs.Fields.{table15, table16, table16b, table18, table19}
use Rattle.description.specs.Description.{Lists}
use Rattle.description.specs.Rules.{size}
use Rattle.description.specs.Layout.{body, padded, word_of}
use Rattle.description.specs.Sheet.{form1, tail_from, pipes_from, streams_from, sections_from, sheet_end}
use Rattle.description.specs.Form1.{bare, sheet_sections, sheet_lists}
use Rattle.description.proofs.Rows.{join_length, joins_length, join_cut, joins_cuts, joins_at, cuts_at, cuts_length}
use Rattle.description.proofs.Form1.{bare_length}
use Rattle.description.proofs.Word.{body_below}
use Rattle.views.specs.declared.View.{View}
use Rattle.views.proofs.Views.{WordPlaces, SheetPlaces}
use Rattle.to_word.specs.Laid.{Placed, Seals}
use Rattle.to_word.proofs.Sinks.{bits_of}

-- ---- sections without the four bits above each

-- the d sections in the bits b, without the four bits above each
abbrev pub bare_bits : ℕ → List ℕ → List ℕ
bare_bits d b = joins table19 (bare (cuts (4 ∷ table19) d b))

bare_at : (rs : List (List ℕ)) (k : ℕ) → k < length rs → get_or (bare rs) k [] ≡ drop 1 (get_or rs k [])
bare_at [] k h = absurd (omega arith)
bare_at (r ∷ rs) zero h = refl
bare_at (r ∷ rs) (suc k) h = bare_at rs k (omega arith)

pub bare_bits_lem : (d : ℕ) (b : List ℕ) → length (bare_bits d b) ≡ 12 * d
unfolding width
bare_bits_lem d b = joins_length table19 (bare (cuts (4 ∷ table19) d b)) ∙ rw (bare_length, cuts_length) (omega arith)

module _ (d k : ℕ) (b : List ℕ) (h : Below 2 b) (f : 16 * d ≤ length b) (l : k < d) where
  row_is : join table19 (get_or (bare (cuts (4 ∷ table19) d b)) k []) ≡ take 12 (drop 4 (drop (16 * k) b))
  unfolding cut width
  row_is =
      let n : k < length (cuts (4 ∷ table19) d b) = rw cuts_length l in
      let m : k * 16 ≡ 16 * k = omega arith in
      let c : List ℕ = drop 4 (drop (16 * k) b) in
      let e : 12 ≤ length c = rw (length-drop, length-drop) (omega arith) in
      ap (join table19) (bare_at (cuts (4 ∷ table19) d b) k n)
      ∙ ap (λ (r : List ℕ). join table19 (drop 1 r)) (cuts_at (4 ∷ table19) d k b l ∙ ap (λ (i : ℕ). cut (4 ∷ table19) (drop i b)) m)
      ∙ join_cut table19 c (below_drop 2 4 (drop (16 * k) b) (below_drop 2 (16 * k) b h)) e

  from_row : take 12 (drop (12 * k) (bare_bits d b)) ≡ take 12 (drop 4 (drop (16 * k) b))
  unfolding width
  from_row =
      let rs : List (List ℕ) = bare (cuts (4 ∷ table19) d b) in
      let n : k < length rs = rw (bare_length, cuts_length) l in
      let m : 12 * k ≡ k * 12 = omega arith in
      ap (λ (i : ℕ). take 12 (drop i (joins table19 rs))) m ∙ ap (take 12) (joins_at table19 k rs n)
      ∙ take_at (join table19 (get_or rs k [])) (joins table19 (drop (suc k) rs)) 12 (join_length table19 (get_or rs k [])) ∙ row_is

-- ---- the parts of the word of a sheet's bits b
module _ (b : List ℕ) (p s d : ℕ) (below : Below 2 b) (long : length b ≡ 8 * sheet_end form1 p s d) where
  multiplex_part : join table15 (cut table15 (drop (8 * form1) b)) ≡ take 56 (drop (8 * form1) b)
  unfolding width
  multiplex_part = join_cut table15 (drop (8 * form1) b) (below_drop 2 (8 * form1) b below) (rw length-drop (omega arith))

  pipes_part : joins table16 (cuts table16 p (drop (8 * pipes_from form1) b)) ≡ take (48 * p) (drop (8 * pipes_from form1) b)
  unfolding width
  pipes_part = rw (mul_comm 48 p) (joins_cuts table16 p (drop (8 * pipes_from form1) b) (below_drop 2 (8 * pipes_from form1) b below) (rw length-drop (omega arith)))

  tail_part : join table16b (cut table16b (drop (8 * tail_from form1) b)) ≡ take 16 (drop (8 * tail_from form1) b)
  unfolding width
  tail_part = join_cut table16b (drop (8 * tail_from form1) b) (below_drop 2 (8 * tail_from form1) b below) (rw length-drop (omega arith))

  streams_part : joins table18 (cuts table18 s (drop (8 * streams_from form1 p) b)) ≡ take (16 * s) (drop (8 * streams_from form1 p) b)
  unfolding width
  streams_part =
      let at : ℕ = 8 * streams_from form1 p in
      rw (mul_comm 16 s) (joins_cuts table18 s (drop at b) (below_drop 2 at b below) (rw length-drop (omega arith)))

  body_parts : body (sheet_lists form1 p s d b)
      ≡ take 56 (drop (8 * form1) b) ++ take (48 * p) (drop (8 * pipes_from form1) b) ++ take 16 (drop (8 * tail_from form1) b) ++ take (16 * s) (drop (8 * streams_from form1 p) b)
      ++ bare_bits d (drop (8 * sections_from form1 p s) b)
  unfolding body sheet_lists sheet_sections
  body_parts = rw (multiplex_part, pipes_part, tail_part, streams_part) (simp append_assoc)

-- ---- a section that stands in a list
section_there : (sh L rest : List ℕ) (at place d : ℕ) → drop place L ≡ bare_bits d (drop at (unpack sh)) ++ rest → at + 16 * d ≤ 8 * length sh → place + 12 * d ≤ length L
    → (k : ℕ) → k < d → field_at sh (at + 4 + 16 * k) 12 ≡ number (bits_of L) (place + 12 * k) 12
section_there sh L rest at place d there within room k h =
    let c : List ℕ = drop at (unpack sh) in
    let n : 16 * d ≤ length c = rw (length-drop, unpack_length) (omega arith) in
    let i : at + 4 + 16 * k ≡ at + 16 * k + 4 = omega arith in
    let e : drop (at + 4 + 16 * k) (unpack sh) ≡ drop 4 (drop (16 * k) c) =
    ap (λ (j : ℕ). drop j (unpack sh)) i ∙ sym (drop-drop 4 (at + 16 * k) (unpack sh)) ∙ ap (drop 4) (sym (drop-drop (16 * k) at (unpack sh))) in
    let z : length (drop (12 * k) (bare_bits d c)) ≡ 12 * d - 12 * k = length-drop (12 * k) (bare_bits d c) ∙ ap (λ (j : ℕ). j - 12 * k) (bare_bits_lem d c) in
    let t : take 12 (drop (place + 12 * k) L) ≡ take 12 (drop (12 * k) (bare_bits d c)) =
    ap (take 12) (sym (drop-drop (12 * k) place L) ∙ ap (drop (12 * k)) there ∙ drop-append-le (12 * k) (bare_bits d c) rest (omega (arith, bare_bits_lem d c)))
    ∙ take-append-le 12 (drop (12 * k) (bare_bits d c)) rest (omega (arith, z)) in
    field_num sh (at + 4 + 16 * k) 12 (omega arith) (omega arith)
    ∙ ap num (ap (take 12) e ∙ sym (from_row d k c (below_drop 2 at (unpack sh) (unpack_below sh)) n h) ∙ sym t)
    ∙ sym (number_list L (place + 12 * k) 12 (omega arith))

-- ---- zeros behind a list
no_bit : (n k : ℕ) → ◌≡◌ {A = ℕ} (get_or (replicate n 0) k 0) 0
no_bit n k =
    elim (dec_lt k n) [
      | yes l ↦ get_or-replicate n k 0 0 l
      | no l ↦ get_or-eq_default (replicate n 0) 0 (omega (arith, length-replicate {A = ℕ} n 0))
    ]

zeros_behind : (x : List ℕ) (n m j : ℕ) → length x ≤ j → get_or ((x ++ replicate n 0) ++ replicate m 0) j 0 ≡ 0
zeros_behind x n m j h =
    let z : List ℕ = replicate (n + m) 0 in
    let i : length x + (j - length x) ≡ j = omega arith in
    let e : (x ++ replicate n 0) ++ replicate m 0 ≡ x ++ z = append_assoc x (replicate n 0) (replicate m 0) ∙ ap (λ (y : List ℕ). x ++ y) (replicate-append-replicate n m 0) in
    ap (λ (y : List ℕ). get_or y j 0) e ∙ ap (λ (k : ℕ). get_or (x ++ z) k 0) (sym i) ∙ get_or-append-add x z (j - length x) 0 ∙ no_bit (n + m) (j - length x)

-- ---- whole bytes

-- the n bytes from byte i on, as bits
run_bits : (sh : List ℕ) (i n : ℕ) → i + n ≤ length sh → unpack (take n (drop i sh)) ≡ take (8 * n) (drop (8 * i) (unpack sh))
run_bits sh i n h = sym (unpack_take n (drop i sh) (rw length-drop (omega arith))) ∙ ap (take (8 * n)) (sym (unpack_drop i sh (omega arith)))

-- a copy by the bytes that its places stand for
list_is : (sh out : List ℕ) (from until to : ℕ) {o : List ℕ} (i n k : ℕ) → from / 8 ≡ i → until / 8 ≡ i + n → to / 8 ≡ k
    → o ≡ copied (run_of sh from until) out (to / 8) → o ≡ copied (take n (drop i sh)) out k
list_is sh out from until to i n k e f g h =
    let d : until / 8 - from / 8 ≡ n = omega arith in
    h ∙ (λ j. copied (take (d j) (drop (e j) sh)) out (g j))

-- out with the bytes x copied to its front
record Copied (out x o : List ℕ) : Type 0 where
  holds : o ≡ x ++ drop (length x) out
  within : length x ≤ length out

copied_none : (out : List ℕ) → Copied out [] out
copied_none out = record { holds = refl; within = omega arith }

copied_more : {out x o o' : List ℕ} {a : ℕ} (y : List ℕ) → Copied out x o → a ≡ length x → length x + length y ≤ length out → o' ≡ copied y o a → Copied out (x ++ y) o'
copied_more {out} {x} {o} y c e h f =
    let n : ℕ = length x in
    let l : length o ≡ length out = ap length c.holds ∙ length-append x (drop n out) ∙ omega (arith, length-drop n out, c.within) in
    record {
      holds = f ∙ ap (copied y o) e ∙ sym (copied_all y o n (omega arith) (length y) refl) ∙ ap (λ (z : List ℕ). paste z n y (length y)) c.holds
          ∙ paste_behind out x y n (length y) refl refl ∙ ap (λ (k : ℕ). (x ++ y) ++ drop k out) (sym (length-append x y));
      within = omega (arith, length-append x y);
    }

-- its bits are those of any list that begins with the bits of x
bit_copied : {out x o : List ℕ} (b rest : List ℕ) → Copied out x o → unpack x ≡ b → (j : ℕ) → j < length b → bit_at o j ≡ bits_of (b ++ rest) j
bit_copied {out} {x} {o} b rest c e j h =
    let z : List ℕ = unpack (drop (length x) out) in
    bit_unpack o j ∙ ap (λ (y : List ℕ). get_or y j 0) (ap unpack c.holds ∙ unpack_append x (drop (length x) out) ∙ ap (λ (y : List ℕ). y ++ z) e)
    ∙ get_or-append b z 0 j h ∙ sym (get_or-append b rest 0 j h)

-- ---- the sheet's word
module _ (sh : List ℕ) (p s d : ℕ) (long : length sh ≡ sheet_end form1 p s d) (fits : size p s d ≤ 750) where
  abbrev pub lists : Lists
  lists = sheet_lists form1 p s d (unpack sh)

  b_long : length (unpack sh) ≡ 8 * sheet_end form1 p s d
  b_long = unpack_length sh ∙ ap (λ (n : ℕ). 8 * n) long

  -- the parts, and what is behind each
  m : List ℕ
  m = take 56 (drop (8 * form1) (unpack sh))

  ps : List ℕ
  ps = take (48 * p) (drop (8 * pipes_from form1) (unpack sh))

  t : List ℕ
  t = take 16 (drop (8 * tail_from form1) (unpack sh))

  ss : List ℕ
  ss = take (16 * s) (drop (8 * streams_from form1 p) (unpack sh))

  ds : List ℕ
  ds = bare_bits d (drop (8 * sections_from form1 p s) (unpack sh))

  zs : List ℕ
  zs = replicate (750 - length (body lists)) 0 ++ replicate 18 0

  abbrev pub all : List ℕ
  all = padded (body lists) ++ replicate 18 0

  all_parts : all ≡ m ++ (ps ++ (t ++ (ss ++ (ds ++ zs))))
  unfolding padded m ps t ss ds zs
  all_parts =
      append_assoc (body lists) (replicate (750 - length (body lists)) 0) (replicate 18 0)
      ∙ ap (λ (x : List ℕ). x ++ (replicate (750 - length (body lists)) 0 ++ replicate 18 0)) (body_parts (unpack sh) p s d (unpack_below sh) b_long)
      ∙ simp append_assoc

  m_long : length m ≡ 56
  unfolding m
  m_long = length-take-le 56 (drop (8 * form1) (unpack sh)) (rw length-drop (omega (arith, b_long)))

  ps_long : length ps ≡ 48 * p
  unfolding ps
  ps_long = length-take-le (48 * p) (drop (8 * pipes_from form1) (unpack sh)) (rw length-drop (omega (arith, b_long)))

  t_long : length t ≡ 16
  unfolding t
  t_long = length-take-le 16 (drop (8 * tail_from form1) (unpack sh)) (rw length-drop (omega (arith, b_long)))

  ss_long : length ss ≡ 16 * s
  unfolding ss
  ss_long = length-take-le (16 * s) (drop (8 * streams_from form1 p) (unpack sh)) (rw length-drop (omega (arith, b_long)))

  ds_long : length ds ≡ 12 * d
  unfolding ds
  ds_long = bare_bits_lem d (drop (8 * sections_from form1 p s) (unpack sh))

  -- the parts that are whole bytes
  bytes : List ℕ
  bytes = ((m ++ ps) ++ t) ++ ss

  bytes_long : length bytes ≡ 72 + 48 * p + 16 * s
  unfolding bytes
  bytes_long = simp length-append (omega (arith, m_long, ps_long, t_long, ss_long))

  all_bytes : all ≡ bytes ++ (ds ++ zs)
  unfolding bytes
  all_bytes = all_parts ∙ simp append_assoc

  sections_behind : drop (72 + 48 * p + 16 * s) all ≡ ds ++ zs
  sections_behind = ap (drop (72 + 48 * p + 16 * s)) all_bytes ∙ drop_at bytes (ds ++ zs) (72 + 48 * p + 16 * s) bytes_long

  body_long : length (body lists) ≡ size p s d
  unfolding m ps t ss ds
  body_long =
      ap length (body_parts (unpack sh) p s d (unpack_below sh) b_long)
      ∙ simp length-append (omega (arith, m_long, ps_long, t_long, ss_long, ds_long))

  pub padded_long : length (padded (body lists)) ≡ 750
  unfolding padded
  padded_long = length-append (body lists) (replicate (750 - length (body lists)) 0) ∙ omega (arith, body_long, length-replicate {A = ℕ} (750 - length (body lists)) 0)

  pub all_long : length all ≡ 768
  all_long = length-append (padded (body lists)) (replicate 18 0) ∙ omega (arith, padded_long, length-replicate {A = ℕ} 18 0)

  pub padded_bits : Below 2 (padded (body lists))
  unfolding padded
  padded_bits = below_append 2 (body lists) (replicate (750 - length (body lists)) 0) (body_below lists) (below_replicate 2 (750 - length (body lists)) 0 (omega arith))

  pub all_bits : Below 2 all
  all_bits = below_append 2 (padded (body lists)) (replicate 18 0) padded_bits (below_replicate 2 18 0 (omega arith))

  -- behind the lists there are zeros
  pub zero_behind : (j : ℕ) → size p s d ≤ j → get_or all j 0 ≡ 0
  unfolding padded
  zero_behind j h = zeros_behind (body lists) (750 - length (body lists)) 18 j (omega (arith, body_long))

  -- ---- the calls in their order
  x₁ : List ℕ
  x₁ = take 7 (drop form1 sh)

  x₂ : List ℕ
  x₂ = take (6 * p) (drop (pipes_from form1) sh)

  x₃ : List ℕ
  x₃ = take 2 (drop (tail_from form1) sh)

  x₄ : List ℕ
  x₄ = take (2 * s) (drop (streams_from form1 p) sh)

  run_long : (i n : ℕ) → i + n ≤ length sh → length (take n (drop i sh)) ≡ n
  run_long i n h = length-take-le n (drop i sh) (rw length-drop (omega arith))

  abbrev copies : List ℕ
  copies = ((x₁ ++ x₂) ++ x₃) ++ x₄

  all_copied : {out o₁ o₂ o₃ o₄ : List ℕ} → length out ≡ 96 → o₁ ≡ copied x₁ out 0 → o₂ ≡ copied x₂ o₁ 7 → o₃ ≡ copied x₃ o₂ (7 + 6 * p) → o₄ ≡ copied x₄ o₃ (9 + 6 * p)
      → Copied out copies o₄
  unfolding x₁ x₂ x₃ x₄
  all_copied {out} room e₁ e₂ e₃ e₄ =
      let l₁ : length x₁ ≡ 7 = run_long form1 7 (omega (arith, long)) in
      let l₂ : length x₂ ≡ 6 * p = run_long (pipes_from form1) (6 * p) (omega (arith, long)) in
      let l₃ : length x₃ ≡ 2 = run_long (tail_from form1) 2 (omega (arith, long)) in
      let l₄ : length x₄ ≡ 2 * s = run_long (streams_from form1 p) (2 * s) (omega (arith, long)) in
      let n₂ : length (x₁ ++ x₂) ≡ 7 + 6 * p = length-append x₁ x₂ ∙ omega arith in
      let n₃ : length ((x₁ ++ x₂) ++ x₃) ≡ 9 + 6 * p = length-append (x₁ ++ x₂) x₃ ∙ omega arith in
      let c₁ : Copied out x₁ _ = copied_more x₁ (copied_none out) refl (omega arith) e₁ in
      let c₂ = copied_more x₂ c₁ (sym l₁) (omega arith) e₂ in
      let c₃ = copied_more x₃ c₂ (sym n₂) (omega arith) e₃ in
      copied_more x₄ c₃ (sym n₃) (omega arith) e₄

  copies_bits : unpack copies ≡ bytes
  unfolding bytes m ps t ss x₁ x₂ x₃ x₄
  copies_bits =
      let u : List ℕ = unpack sh in
      let f₂ : 8 * (6 * p) ≡ 48 * p = omega arith in
      let f₄ : 8 * (2 * s) ≡ 16 * s = omega arith in
      let r₁ : unpack x₁ ≡ m = run_bits sh form1 7 (omega (arith, long)) in
      let r₂ : unpack x₂ ≡ ps = run_bits sh (pipes_from form1) (6 * p) (omega (arith, long)) ∙ ap (λ (n : ℕ). take n (drop (8 * pipes_from form1) u)) f₂ in
      let r₃ : unpack x₃ ≡ t = run_bits sh (tail_from form1) 2 (omega (arith, long)) in
      let r₄ : unpack x₄ ≡ ss = run_bits sh (streams_from form1 p) (2 * s) (omega (arith, long)) ∙ ap (λ (n : ℕ). take n (drop (8 * streams_from form1 p) u)) f₄ in
      unpack_append ((x₁ ++ x₂) ++ x₃) x₄
      ∙ ap₂ ◌++◌ (unpack_append (x₁ ++ x₂) x₃ ∙ ap₂ ◌++◌ (unpack_append x₁ x₂ ∙ ap₂ ◌++◌ r₁ r₂) r₃) r₄

  sections_fields : (k : ℕ) → k < d → field_at sh (8 * sections_from form1 p s + 4 + 16 * k) 12 ≡ number (bits_of all) (72 + 48 * p + 16 * s + 12 * k) 12
  unfolding ds
  sections_fields k l = section_there sh all zs (8 * sections_from form1 p s) (72 + 48 * p + 16 * s) d sections_behind (omega (arith, long)) (omega (arith, all_long)) k l

  pub laid : (v u : View) → SheetPlaces form1 p s v → WordPlaces p s u → (out : List ℕ) {o₁ o₂ o₃ o₄ o₅ : List ℕ} → length out ≡ 96
      → o₁ ≡ copied (run_of sh v.multiplex v.tail) out (u.multiplex / 8)
      → o₂ ≡ copied (run_of sh v.pipes v.streams) o₁ (u.pipes / 8)
      → o₃ ≡ copied (run_of sh v.tail v.pipes) o₂ (u.tail / 8)
      → o₄ ≡ copied (run_of sh v.streams v.sections) o₃ (u.streams / 8)
      → Placed sh v.sections v.apart d u.sections o₄ o₅
      → o₅ ≡ pack 96 all
  unfolding x₁ x₂ x₃ x₄
  laid v u a b out {o₁} {o₂} {o₃} {o₄} room e₁ e₂ e₃ e₄ q =
      let k₁ = list_is sh out v.multiplex v.tail u.multiplex form1 7 0 (omega (arith, a.multiplex)) (omega (arith, a.tail)) (omega (arith, b.multiplex)) e₁ in
      let k₂ = list_is sh o₁ v.pipes v.streams u.pipes (pipes_from form1) (6 * p) 7 (omega (arith, a.pipes)) (omega (arith, a.streams)) (omega (arith, b.pipes)) e₂ in
      let k₃ = list_is sh o₂ v.tail v.pipes u.tail (tail_from form1) 2 (7 + 6 * p) (omega (arith, a.tail)) (omega (arith, a.pipes)) (omega (arith, b.tail)) e₃ in
      let k₄ = list_is sh o₃ v.streams v.sections u.streams (streams_from form1 p) (2 * s) (9 + 6 * p) (omega (arith, a.streams)) (omega (arith, a.sections)) (omega (arith, b.streams)) e₄ in
      let f : ℕ → ℕ = bits_of all in
      let c = all_copied room k₁ k₂ k₃ k₄ in
      let same : (j : ℕ) → j < u.sections → bit_at o₄ j ≡ f j =
      λ j l. bit_copied bytes (ds ++ zs) c copies_bits j (omega (arith, bytes_long, b.sections)) ∙ ap (λ (y : List ℕ). get_or y j 0) (sym all_bytes) in
      let fields : (k : ℕ) → k < d → field_at sh (v.sections + v.apart * k) 12 ≡ number f (u.sections + 12 * k) 12 =
      λ k l. ap₂ (λ (x y : ℕ). field_at sh (x + y * k) 12) a.sections a.apart ∙ sections_fields k l ∙ ap (λ (x : ℕ). number f (x + 12 * k) 12) (sym b.sections) in
      q all all_bits all_long same fields (λ j l. zero_behind j (omega (arith, b.sections)))

-- sealed, it is the word of the lists
pub word_laid : (sh : List ℕ) (p s d : ℕ) (long : length sh ≡ sheet_end form1 p s d) (fits : size p s d ≤ 750) {x y : List ℕ} → x ≡ pack 96 (all sh p s d long fits) → Seals x y
    → y ≡ word_of (sheet_lists form1 p s d (unpack sh))
unfolding word_of
word_laid sh p s d long fits e g = g _ (padded_bits sh p s d long fits) (padded_long sh p s d long fits) e
