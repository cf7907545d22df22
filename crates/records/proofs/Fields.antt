-- What is read of a record is what stands in its row.
-- Assumes nothing.
use Prim.Native.Nat.{ℕ, ◌+◌, ◌*◌, ◌^◌, ◌≤◌, ◌<◌}
use mathlib.Core.Path.{◌≡◌, sym, ap, ap₂, ◌∙◌, subst}
use mathlib.Core.List.{List}
use native.Mathlib.Nat.{add-zero}
use lib.Dec.{eqb}
use Rattle.ground.specs.Choice.{choose}
use Rattle.bits.specs.Places.{field_at}
use Rattle.bits.proofs.Places.{field_lt}
use Rattle.description.specs.Description.{own_streams, own_sections}
use Rattle.views.specs.Rows.{row_from, row_at}
use Rattle.records.specs.Records.{multiplex_of, multiplex_at, pipe_of, pipe_at, tail_at}
use Rattle.records.specs.declared.Multiplex.{Multiplex}
use Rattle.records.specs.declared.Pipe.{Pipe}

-- a number that was read is within the bits that were asked for
pub read_lt : {x : ℕ} (w : List ℕ) (at n : ℕ) → n ≤ 32 → x ≡ field_at w at n → x < 2 ^ n
read_lt w at n h e = subst (λ (y : ℕ). y < 2 ^ n) (sym e) (field_lt w at n h)

abbrev pub multiplex : ℕ → ℕ → ℕ → ℕ → Multiplex
multiplex a b c d = record { version = a; operator = b; frame = c; pipes = d }

abbrev pub pipe : ℕ → ℕ → ℕ → ℕ → Pipe
pipe a b c d = record { pattern = a; width = b; s = c; d = d }

module _ (w : List ℕ) (at : ℕ) where
  -- the first field of a row stands where the row does
  first : (k : ℕ) → field_at w at k ≡ field_at w (at + 0) k
  first k = ap (λ (i : ℕ). field_at w i k) (sym (add-zero at))

  pub multiplex_read : {a b c d : ℕ} → a ≡ field_at w at 4 → b ≡ field_at w (at + 16) 8 → c ≡ field_at w (at + 26) 22 → d ≡ field_at w (at + 52) 4
      → multiplex a b c d ≡ multiplex_at w at
  unfolding multiplex_at multiplex_of row_at row_from
  multiplex_read e f g h = λ i. multiplex ((e ∙ first 4) i) (f i) (g i) (h i)

  pub tail_read : {a : ℕ} → a ≡ field_at w (at + 7) 9 → a ≡ tail_at w at
  unfolding tail_at row_at row_from
  tail_read e = e

-- what a pipe owns, by its width and a count field
abbrev pub own_by : ℕ → ℕ → ℕ
own_by width count = choose (eqb width 0) 0 (count + 1)

module _ (w : List ℕ) (at k : ℕ) where
  pub pipe_read : {a b c d m n : ℕ} → a ≡ field_at w (at + 48 * k) 6 → b ≡ field_at w (at + 48 * k + 6) 10 → m ≡ field_at w (at + 48 * k + 16) 5
      → n ≡ field_at w (at + 48 * k + 21) 3 → c ≡ own_by b m → d ≡ own_by b n → pipe a b c d ≡ pipe_at w at k
  unfolding pipe_at pipe_of own_streams own_sections row_at row_from
  pipe_read e f g h u v = λ i. pipe ((e ∙ first w (at + 48 * k) 6) i) (f i) ((u ∙ ap₂ own_by f g) i) ((v ∙ ap₂ own_by f h) i)
