-- The lines of an accepted sheet, from what was read for them.
-- Assumes nothing.
use Prim.Native.Nat.{ℕ, ◌+◌}
use mathlib.Core.Path.{◌≡◌, sym, subst}
use mathlib.Core.List.{List, [], ◌∷◌, ◌++◌}
use lib.ListN.{length, length-append}
use Rattle.ground.specs.Outcome.{Is}
use Rattle.description.specs.Fields.{table16, table16b, table18, table19}
use Rattle.description.specs.Description.{Lists}
use Rattle.views.specs.Rows.{row_at, rows_at}
use Rattle.views.specs.View.{sheet_view, lists_at}
use Rattle.views.specs.declared.View.{View}
use Rattle.views.proofs.Rows.{rows_length}
use Rattle.records.specs.Records.{multiplex_of, multiplex_at}
use Rattle.records.specs.declared.Multiplex.{Multiplex}
use Rattle.words.specs.Words.{filled, line, put}
use Rattle.words.proofs.Puts.{put_same, put_more}
use Rattle.pipe_lines.specs.Lines.{pipe_lines, tail_line}
use Rattle.lines.specs.Lines.{multiplex_line, accepted}

-- ---- the first line is the text with the numbers that were read
abbrev pub multiplex_text : Multiplex → ℕ → ℕ → ℕ → List ℕ
multiplex_text m p s d = line "multiplex operator=# frame=# pipes=# streams=# sections=#\n" (m.operator ∷ m.frame ∷ p ∷ s ∷ d ∷ [])

multiplex_text_lem : (w : List ℕ) (v : View) (p s d : ℕ) (m : Multiplex) → m ≡ multiplex_at w v.multiplex → multiplex_text m p s d ≡ multiplex_line (lists_at v p s d w)
unfolding multiplex_line multiplex_at multiplex_of lists_at
multiplex_text_lem w v p s d m e = λ i.
    multiplex_text (e i) (sym (rows_length table16 48 w v.pipes p) i) (sym (rows_length table18 16 w v.streams s) i) (sym (rows_length table19 v.apart w v.sections d) i)

-- ---- all lines
pub accepted_length : (l : Lists) → length (accepted l) ≡ length (multiplex_line l) + length (pipe_lines 1 l.pipes) + length (tail_line l.tail) + 3
unfolding accepted filled
accepted_length l = simp length-append

-- one behind the other
module _ (o w : List ℕ) (v : View) (h p s d : ℕ) (e : v ≡ sheet_view h p s) (m : Multiplex) (k : m ≡ multiplex_at w v.multiplex) {o₁ o₂ o₃ o₄ : List ℕ} {r₁ r₂ r₃ r₄ : ℕ} where
  pub lines_put : Is (put o 0 (multiplex_text m p s d)) r₁ o₁ → Is (put o₁ r₁ (pipe_lines 1 (rows_at table16 48 p w v.pipes))) r₂ o₂
      → Is (put o₂ r₂ (tail_line (row_at table16b w v.tail))) r₃ o₃ → Is (put o₃ r₃ (line "ok\n" [])) r₄ o₄ → Is (put o 0 (accepted (lists_at (sheet_view h p s) p s d w))) r₄ o₄
  unfolding accepted lists_at
  lines_put a b c f =
      let l : Lists = lists_at v p s d w in
      let x : List ℕ = multiplex_line l in
      let ps : List ℕ = pipe_lines 1 l.pipes in
      let t : List ℕ = tail_line l.tail in
      subst (λ (u : View). Is (put o 0 (accepted (lists_at u p s d w))) r₄ o₄) e
      (put_more o 0 ((x ++ ps) ++ t) (line "ok\n" []) (put_more o 0 (x ++ ps) t (put_more o 0 x ps (put_same o 0 (multiplex_text_lem w v p s d m k) a) b) c) f)
