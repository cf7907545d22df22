-- The sheet of a word, part by part: each part is bytes of the word, and the calls put one behind the other.
-- Assumes nothing.
use Prim.Native.Nat.{ℕ, ◌+◌, ◌*◌, ◌/◌, ◌≤◌}
use mathlib.Core.Path.{◌≡◌, refl, sym, ap, ap₂, ◌∙◌}
use mathlib.Core.List.{List, ◌∷◌, ◌++◌, append_assoc}
use native.Mathlib.Omega.{arith}
use lib.ListN.{length, drop, length-append, length-drop}
use lib.Seq.{paste}
use Rattle.ground.proofs.Copy.{paste_behind}
use Rattle.bits.specs.Lists.{pack, Below}
use Rattle.bits.proofs.Lists.{pack_length}
use Rattle.bits.proofs.Below.{below_drop}
use Rattle.description.specs.Rows.{width, join, joins}
use Rattle.description.specs.Fields.{table15, table16, table16b, table18, table19}
use Rattle.description.specs.Rules.{size}
use Rattle.description.specs.Sheet.{form1, in_sheet, header, records, sheet_of}
use Rattle.description.specs.Word.{multiplex_in, p_in, pipes_in, tail_in, s_in, d_in, streams_in, sections_in, lists_in, front}
use Rattle.description.proofs.Rows.{cuts_length, pack_cut, pack_cuts}
use Rattle.views.specs.declared.View.{View}
use Rattle.views.proofs.Views.{WordPlaces, SheetPlaces}
use Rattle.to_sheet.proofs.Copies.{sheet_bits, sheet_sections}

header_length : (p s d : ℕ) → length (header form1 p s d) ≡ 12
unfolding header
header_length p s d = refl

-- ---- a part behind the parts before it

-- the room o is out with the n bytes a at its front
pub record Front (out a : List ℕ) (n : ℕ) (o : List ℕ) : Type 0 where
  pub long : length a ≡ n
  pub holds : o ≡ a ++ drop n out

front_more : {out a o o' : List ℕ} {n m : ℕ} (x : List ℕ) → length x ≡ m → Front out a n o → o' ≡ paste o n x m → Front out (a ++ x) (n + m) o'
front_more {out} {a} {n = n} {m} x l f e = record {
  long = length-append a x ∙ ap₂ (λ (i j : ℕ). i + j) f.long l;
  holds = e ∙ ap (λ (z : List ℕ). paste z n x m) f.holds ∙ paste_behind out a x n m f.long l;
}

bytes_more : {out a o o' : List ℕ} {m : ℕ} (n : ℕ) (l : List ℕ) → Front out a m o → o' ≡ paste o m (pack n l) n → Front out (a ++ pack n l) (m + n) o'
bytes_more n l f e = front_more (pack n l) (pack_length n l) f e

front_all : {out a o : List ℕ} {n : ℕ} → Front out a n o → o ≡ front a out
front_all {out} {a} f = f.holds ∙ ap (λ (i : ℕ). a ++ drop i out) (sym f.long)

-- ---- the parts of the sheet of a word's bits b
module _ (b : List ℕ) (p s d : ℕ) (below : Below 2 b) (pipes : p ≡ p_in b) (streams : s ≡ s_in b) (sections : d ≡ d_in b) (fits : size p s d ≤ length b) where
  p≡ : length (pipes_in b) ≡ p
  unfolding pipes_in
  p≡ = cuts_length table16 (p_in b) (drop 56 b) ∙ sym pipes

  s≡ : length (streams_in b) ≡ s
  unfolding streams_in
  s≡ = cuts_length table18 (s_in b) (drop (72 + 48 * p_in b) b) ∙ sym streams

  d≡ : length (sections_in b) ≡ d
  unfolding sections_in
  d≡ = cuts_length table19 (d_in b) (drop (72 + 48 * p_in b + 16 * s_in b) b) ∙ sym sections

  multiplex_part : pack 7 (join table15 (multiplex_in b)) ≡ pack 7 b
  unfolding multiplex_in width
  multiplex_part = pack_cut table15 7 b below refl (omega arith)

  tail_part : pack 2 (join table16b (tail_in b)) ≡ pack 2 (drop (56 + 48 * p) b)
  unfolding tail_in width
  tail_part =
      let at : ℕ = 56 + 48 * p in
      rw (← pipes) (pack_cut table16b 2 (drop at b) (below_drop 2 at b below) refl (omega (arith, length-drop at b)))

  pipes_part : pack (6 * length (pipes_in b)) (joins table16 (pipes_in b)) ≡ pack (6 * p) (drop 56 b)
  unfolding pipes_in width
  pipes_part =
      rw (p≡, ← pipes) (pack_cuts table16 p (6 * p) (drop 56 b) (below_drop 2 56 b below) (omega arith) (omega (arith, length-drop 56 b)))

  streams_part : pack (2 * length (streams_in b)) (joins table18 (streams_in b)) ≡ pack (2 * s) (drop (72 + 48 * p) b)
  unfolding streams_in width
  streams_part =
      let at : ℕ = 72 + 48 * p in
      rw (s≡, ← streams, ← pipes) (pack_cuts table18 s (2 * s) (drop at b) (below_drop 2 at b below) (omega arith) (omega (arith, length-drop at b)))

  sections_part : pack (2 * length (sections_in b)) (joins (4 ∷ table19) (in_sheet (sections_in b))) ≡ sheet_sections d (drop (72 + 48 * p + 16 * s) b)
  unfolding sections_in
  sections_part = rw (d≡, ← sections, ← streams, ← pipes)

  sheet_parts : sheet_of (lists_in b)
      ≡ header form1 p s d ++ pack 7 b ++ pack 2 (drop (56 + 48 * p) b) ++ pack (6 * p) (drop 56 b) ++ pack (2 * s) (drop (72 + 48 * p) b)
      ++ sheet_sections d (drop (72 + 48 * p + 16 * s) b)
  unfolding sheet_of records lists_in
  sheet_parts = rw (multiplex_part, tail_part, pipes_part, streams_part, sections_part, p≡, s≡, d≡) (simp append_assoc)

  -- the calls in their order, each from a place of the word to a place of the sheet
  pub filled : (from to : View) → WordPlaces p s from → SheetPlaces form1 p s to → (out : List ℕ) {o₁ o₂ o₃ o₄ o₅ o₆ : List ℕ}
      → o₁ ≡ header form1 p s d ++ drop 12 out
      → o₂ ≡ paste o₁ (to.multiplex / 8) (pack 7 (drop from.multiplex b)) 7
      → o₃ ≡ paste o₂ (to.tail / 8) (pack 2 (drop from.tail b)) 2
      → o₄ ≡ paste o₃ (to.pipes / 8) (pack (6 * p) (drop from.pipes b)) (6 * p)
      → o₅ ≡ paste o₄ (to.streams / 8) (pack (2 * s) (drop from.streams b)) (2 * s)
      → o₆ ≡ paste o₅ (to.sections / 8) (sheet_sections d (drop from.sections b)) (2 * d)
      → o₆ ≡ front (sheet_of (lists_in b)) out
  filled from to u v out {o₁} {o₂} {o₃} {o₄} {o₅} e₁ e₂ e₃ e₄ e₅ e₆ =
      let i₂ : to.multiplex / 8 ≡ 12 = omega (arith, v.multiplex) in
      let i₃ : to.tail / 8 ≡ 19 = omega (arith, v.tail) in
      let i₄ : to.pipes / 8 ≡ 21 = omega (arith, v.pipes) in
      let i₅ : to.streams / 8 ≡ 21 + 6 * p = omega (arith, v.streams) in
      let i₆ : to.sections / 8 ≡ 21 + 6 * p + 2 * s = omega (arith, v.sections) in
      let f₁ : Front out (header form1 p s d) 12 o₁ = record { long = header_length p s d; holds = e₁ } in
      let f₂ = bytes_more 7 b f₁ (e₂ ∙ ap₂ (λ (i j : ℕ). paste o₁ i (pack 7 (drop j b)) 7) i₂ u.multiplex) in
      let f₃ = bytes_more 2 (drop (56 + 48 * p) b) f₂ (e₃ ∙ ap₂ (λ (i j : ℕ). paste o₂ i (pack 2 (drop j b)) 2) i₃ u.tail) in
      let f₄ = bytes_more (6 * p) (drop 56 b) f₃ (e₄ ∙ ap₂ (λ (i j : ℕ). paste o₃ i (pack (6 * p) (drop j b)) (6 * p)) i₄ u.pipes) in
      let f₅ = bytes_more (2 * s) (drop (72 + 48 * p) b) f₄ (e₅ ∙ ap₂ (λ (i j : ℕ). paste o₄ i (pack (2 * s) (drop j b)) (2 * s)) i₅ u.streams) in
      let f₆ = bytes_more (2 * d) (sheet_bits d (drop (72 + 48 * p + 16 * s) b)) f₅ (e₆ ∙ ap₂ (λ (i j : ℕ). paste o₅ i (sheet_sections d (drop j b)) (2 * d)) i₆ u.sections) in
      front_all f₆ ∙ ap (λ (x : List ℕ). front x out) (sym sheet_parts)
