-- The lines of payload pipes and of the tail, from what was read for them, and the loop over the pipes.
-- Assumes nothing.
use Prim.Native.Nat.{ℕ, suc, ◌+◌, ◌*◌}
use mathlib.Core.Path.{◌≡◌, sym, ap, ◌∙◌}
use mathlib.Core.List.{List, [], ◌∷◌, ◌++◌, append-nil, append_assoc}
use native.Mathlib.Nat.{add-zero, add-suc, suc-add}
use native.Mathlib.Omega.{arith}
use borrow.Author.Tests.{eq-eqb, ne_eqb}
use lib.ListN.{length}
use Rattle.ground.specs.Outcome.{Is}
use Rattle.ground.proofs.Choice.{choose_true, choose_false}
use Rattle.description.specs.Fields.{table16, table16b, tail_width}
use Rattle.views.specs.Rows.{row_at, rows_at}
use Rattle.views.proofs.Rows.{rows_length, rows_more}
use Rattle.records.specs.Records.{pipe_of, pipe_at, tail_at}
use Rattle.records.specs.declared.Pipe.{Pipe}
use Rattle.ground.specs.Table.{tab}
use Rattle.words.specs.Words.{line, put}
use Rattle.words.proofs.Puts.{put_none, put_same, put_more}
use Rattle.pipe_lines.specs.Lines.{pipe_line, pipe_lines, tail_line}

-- ---- each line is the text with the numbers that were read
abbrev pub pipe_text : ℕ → Pipe → List ℕ
pipe_text k q = line "pipe # pattern=# width=# streams=# sections=#\n" (k ∷ q.pattern ∷ q.width ∷ q.s ∷ q.d ∷ [])

pipe_text_lem : (w : List ℕ) (at i : ℕ) (q : Pipe) → q ≡ pipe_at w at i → pipe_text (i + 1) q ≡ pipe_line (i + 1) (row_at table16 w (at + 48 * i))
unfolding pipe_line pipe_at pipe_of
pipe_text_lem w at i q e = ap (pipe_text (i + 1)) e

module _ (w : List ℕ) (at : ℕ) {width : ℕ} (e : width ≡ tail_at w at) where
  pub tail_unused : width ≡ 0 → line "tail unused\n" [] ≡ tail_line (row_at table16b w at)
  unfolding tail_line tail_at
  tail_unused z = sym (choose_true _ _ (eq-eqb (tail_width (row_at table16b w at)) 0 (sym e ∙ z)))

  pub tail_used : (width ≡ 0 → ⊥) → line "tail width=#\n" (width ∷ []) ≡ tail_line (row_at table16b w at)
  unfolding tail_line tail_at
  tail_used h =
      ap (λ (k : ℕ). line "tail width=#\n" (k ∷ [])) e
      ∙ sym (choose_false _ _ (ne_eqb (tail_width (row_at table16b w at)) 0 (λ z. h (e ∙ z))))

-- ---- the loop over the payload pipes
lines_append : (k : ℕ) (a b : List (List ℕ)) → pipe_lines k (a ++ b) ≡ pipe_lines k a ++ pipe_lines (k + length a) b
unfolding pipe_lines
lines_append k [] b = ap (λ (j : ℕ). pipe_lines j b) (sym (add-zero k))
lines_append k (f ∷ a) b =
    ap (λ (x : List ℕ). pipe_line k f ++ x) (lines_append (suc k) a b ∙ ap (λ (j : ℕ). pipe_lines (suc k) a ++ pipe_lines j b) (suc-add k (length a) ∙ sym (add-suc k (length a))))
    ∙ sym (append_assoc (pipe_line k f) (pipe_lines (suc k) a) (pipe_lines (k + suc (length a)) b))

-- the lines of the first i pipes are put
abbrev pub Lined : List ℕ → ℕ → List ℕ → ℕ → List ℕ → ℕ → ℕ → Type 0
Lined o to w at new next i = Is (put o to (pipe_lines 1 (rows_at table16 48 i w at))) next new

module _ (o : List ℕ) (to : ℕ) (w : List ℕ) (at : ℕ) where
  pub lined_none : Lined o to w at o to 0
  unfolding pipe_lines rows_at tab
  lined_none = put_none o to

  -- a line more
  line_more : (i : ℕ) → pipe_lines 1 (rows_at table16 48 (i + 1) w at) ≡ pipe_lines 1 (rows_at table16 48 i w at) ++ pipe_line (i + 1) (row_at table16 w (at + 48 * i))
  unfolding pipe_lines
  line_more i =
      let rows : List (List ℕ) = rows_at table16 48 i w at in
      let f : List ℕ = row_at table16 w (at + 48 * i) in
      let k : 1 + length rows ≡ i + 1 = ap (λ (n : ℕ). 1 + n) (rows_length table16 48 w at i) ∙ omega arith in
      ap (pipe_lines 1) (rows_more table16 48 w at i) ∙ lines_append 1 rows (f ∷ [])
      ∙ ap (λ (n : ℕ). pipe_lines 1 rows ++ pipe_lines n (f ∷ [])) k
      ∙ ap (λ (x : List ℕ). pipe_lines 1 rows ++ x) (append-nil (pipe_line (i + 1) f))

  pub lined_more : {new new' : List ℕ} {next next' : ℕ} (i : ℕ) → Lined o to w at new next i → (q : Pipe) → q ≡ pipe_at w at i
      → Is (put new next (pipe_text (i + 1) q)) next' new' → Lined o to w at new' next' (i + 1)
  lined_more {new} {next = next} i l q e n =
      put_same o to (sym (line_more i))
      (put_more o to (pipe_lines 1 (rows_at table16 48 i w at)) (pipe_line (i + 1) (row_at table16 w (at + 48 * i))) l (put_same new next (pipe_text_lem w at i q e) n))
