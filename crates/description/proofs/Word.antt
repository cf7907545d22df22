-- The lists in a word's bits: what is written is read back, and what is read is written back.
-- Assumes nothing.
use Prim.Native.Nat.{ℕ, ◌+◌, ◌*◌, ◌≤◌}
use mathlib.Core.Path.{◌≡◌, sym, ap, ap₂, ◌∙◌}
use mathlib.Core.List.{List, ◌++◌, append_assoc}
use native.Mathlib.Nat.{mul_comm}
use native.Mathlib.Omega.{arith}
use lib.ListN.{length, get_or, take, drop, length-append, length-drop}
use lib.Seq.{drop_at, drop-drop, take-add}
use Rattle.bits.specs.Lists.{Below}
use Rattle.bits.proofs.Below.{below_drop, below_append}
use Rattle.description.specs.Rows.{width, join, joins}
use Rattle.description.specs.Fields.{table15, table16, table16b, table18, table19}
use Rattle.description.specs.Description.{Lists, stream_count, section_count}
use Rattle.description.specs.Rules.{size}
use Rattle.description.specs.Layout.{body}
use Rattle.description.specs.Word.{multiplex_in, p_in, pipes_in, tail_in, s_in, d_in, streams_in, sections_in, lists_in}
use Rattle.description.proofs.Rows.{join_length, join_below, joins_below, cut_join, join_cut, cut_row, joins_length, cuts_joins, joins_cuts, cuts_length, cuts_rows}
use Rattle.description.proofs.Deal.{Counted}
use Rattle.description.proofs.Sound.{Sound}

-- what follows each part of the body
abbrev after4 : Lists → List ℕ → List ℕ
after4 l rest = joins table19 l.sections ++ rest

abbrev after3 : Lists → List ℕ → List ℕ
after3 l rest = joins table18 l.streams ++ after4 l rest

abbrev after2 : Lists → List ℕ → List ℕ
after2 l rest = join table16b l.tail ++ after3 l rest

abbrev after1 : Lists → List ℕ → List ℕ
after1 l rest = joins table16 l.pipes ++ after2 l rest

pub body_length : (l : Lists) → length (body l) ≡ size (length l.pipes) (length l.streams) (length l.sections)
unfolding body width
body_length l = simp (length-append, join_length, joins_length) (omega arith)

pub body_below : (l : Lists) → Below 2 (body l)
unfolding body
body_below l =
    below_append 2 (join table15 l.multiplex) _ (join_below table15 l.multiplex)
    (below_append 2 (joins table16 l.pipes) _ (joins_below table16 l.pipes)
    (below_append 2 (join table16b l.tail) _ (join_below table16b l.tail)
    (below_append 2 (joins table18 l.streams) (joins table19 l.sections) (joins_below table18 l.streams) (joins_below table19 l.sections))))

-- ---- written, then read
module _ (l : Lists) (sound : Sound l) (c : Counted l) (rest : List ℕ) where
  whole : List ℕ
  whole = join table15 l.multiplex ++ after1 l rest

  whole_body : body l ++ rest ≡ whole
  unfolding body whole
  whole_body = simp append_assoc

  multiplex≡ : multiplex_in whole ≡ l.multiplex
  unfolding multiplex_in whole
  multiplex≡ = cut_join table15 l.multiplex (after1 l rest) sound.multiplex

  p≡ : p_in whole ≡ length l.pipes
  unfolding p_in
  p≡ = ap (λ (m : List ℕ). get_or m 9 0) multiplex≡ ∙ sym c.pipes

  d1 : drop 56 whole ≡ after1 l rest
  unfolding whole width
  d1 = drop_at (join table15 l.multiplex) (after1 l rest) 56 (join_length table15 l.multiplex)

  pipes≡ : pipes_in whole ≡ l.pipes
  unfolding pipes_in
  pipes≡ = rw (d1, p≡) (cuts_joins table16 l.pipes (after2 l rest) sound.pipes)

  d2 : drop (56 + 48 * p_in whole) whole ≡ after2 l rest
  unfolding width
  d2 =
      let e : length (joins table16 l.pipes) ≡ 48 * p_in whole = joins_length table16 l.pipes ∙ omega (arith, p≡) in
      sym (drop-drop (48 * p_in whole) 56 whole) ∙ ap (λ (b : List ℕ). drop (48 * p_in whole) b) d1
      ∙ drop_at (joins table16 l.pipes) (after2 l rest) (48 * p_in whole) e

  tail≡ : tail_in whole ≡ l.tail
  unfolding tail_in
  tail≡ = rw d2 (cut_join table16b l.tail (after3 l rest) sound.tail)

  d3 : drop (72 + 48 * p_in whole) whole ≡ after3 l rest
  unfolding width
  d3 =
      let n : 72 + 48 * p_in whole ≡ 56 + 48 * p_in whole + 16 = omega arith in
      rw (n, ← drop-drop 16 (56 + 48 * p_in whole) whole, d2) (drop_at (join table16b l.tail) (after3 l rest) 16 (join_length table16b l.tail))

  s≡ : s_in whole ≡ length l.streams
  unfolding s_in
  s≡ = ap₂ stream_count pipes≡ tail≡ ∙ sym c.streams

  streams≡ : streams_in whole ≡ l.streams
  unfolding streams_in
  streams≡ = rw (d3, s≡) (cuts_joins table18 l.streams (after4 l rest) sound.streams)

  d4 : drop (72 + 48 * p_in whole + 16 * s_in whole) whole ≡ after4 l rest
  unfolding width
  d4 =
      let e : length (joins table18 l.streams) ≡ 16 * s_in whole = joins_length table18 l.streams ∙ omega (arith, s≡) in
      rw (← drop-drop (16 * s_in whole) (72 + 48 * p_in whole) whole, d3) (drop_at (joins table18 l.streams) (after4 l rest) (16 * s_in whole) e)

  d≡ : d_in whole ≡ length l.sections
  unfolding d_in
  d≡ = ap section_count pipes≡ ∙ sym c.sections

  sections≡ : sections_in whole ≡ l.sections
  unfolding sections_in
  sections≡ = rw (d4, d≡) (cuts_joins table19 l.sections rest sound.sections)

  pub lists_body : lists_in (body l ++ rest) ≡ l
  unfolding lists_in
  lists_body =
      ap lists_in whole_body
      ∙ (λ i. record { multiplex = multiplex≡ i; pipes = pipes≡ i; tail = tail≡ i; streams = streams≡ i; sections = sections≡ i })

-- ---- read, then written
pub counted_in : (b : List ℕ) → Counted (lists_in b)
unfolding lists_in pipes_in streams_in sections_in p_in s_in d_in
counted_in b = record {
  pipes = cuts_length table16 (p_in b) (drop 56 b);
  streams = cuts_length table18 (s_in b) (drop (72 + 48 * p_in b) b);
  sections = cuts_length table19 (d_in b) (drop (72 + 48 * p_in b + 16 * s_in b) b);
}

pub sound_in : (b : List ℕ) → Below 2 b → Sound (lists_in b)
unfolding lists_in multiplex_in pipes_in tail_in streams_in sections_in
sound_in b h = record {
  multiplex = cut_row table15 b h;
  pipes = cuts_rows table16 (p_in b) (drop 56 b) (below_drop 2 56 b h);
  tail = cut_row table16b (drop (56 + 48 * p_in b) b) (below_drop 2 (56 + 48 * p_in b) b h);
  streams = cuts_rows table18 (s_in b) (drop (72 + 48 * p_in b) b) (below_drop 2 (72 + 48 * p_in b) b h);
  sections = cuts_rows table19 (d_in b) (drop (72 + 48 * p_in b + 16 * s_in b) b) (below_drop 2 (72 + 48 * p_in b + 16 * s_in b) b h);
}

module _ (b : List ℕ) (h : Below 2 b) (fits : size (p_in b) (s_in b) (d_in b) ≤ length b) where
  p : ℕ
  p = p_in b

  s : ℕ
  s = s_in b

  d : ℕ
  d = d_in b

  m≡ : join table15 (multiplex_in b) ≡ take 56 b
  unfolding multiplex_in width
  m≡ = join_cut table15 b h (omega arith)

  ps≡ : joins table16 (pipes_in b) ≡ take (48 * p) (drop 56 b)
  unfolding pipes_in width p
  ps≡ = rw (mul_comm 48 (p_in b)) (joins_cuts table16 (p_in b) (drop 56 b) (below_drop 2 56 b h) (rw length-drop (omega arith)))

  t≡ : join table16b (tail_in b) ≡ take 16 (drop (56 + 48 * p) b)
  unfolding tail_in width p
  t≡ = join_cut table16b (drop (56 + 48 * p_in b) b) (below_drop 2 (56 + 48 * p_in b) b h) (rw length-drop (omega arith))

  ss≡ : joins table18 (streams_in b) ≡ take (16 * s) (drop (72 + 48 * p) b)
  unfolding streams_in width p s
  ss≡ =
      rw (mul_comm 16 (s_in b))
      (joins_cuts table18 (s_in b) (drop (72 + 48 * p_in b) b) (below_drop 2 (72 + 48 * p_in b) b h) (rw length-drop (omega arith)))

  ds≡ : joins table19 (sections_in b) ≡ take (12 * d) (drop (72 + 48 * p + 16 * s) b)
  unfolding sections_in width p s d
  ds≡ =
      rw (mul_comm 12 (d_in b))
      (joins_cuts table19 (d_in b) (drop (72 + 48 * p_in b + 16 * s_in b) b) (below_drop 2 (72 + 48 * p_in b + 16 * s_in b) b h) (rw length-drop (omega arith)))

  cut4 : take (16 * s + 12 * d) (drop (72 + 48 * p) b) ≡ joins table18 (streams_in b) ++ joins table19 (sections_in b)
  cut4 = rw (ss≡, ds≡, take-add (16 * s) (12 * d) (drop (72 + 48 * p) b), drop-drop (16 * s) (72 + 48 * p) b)

  cut3 : take (16 + (16 * s + 12 * d)) (drop (56 + 48 * p) b) ≡ join table16b (tail_in b) ++ (joins table18 (streams_in b) ++ joins table19 (sections_in b))
  cut3 =
      let n : 56 + 48 * p + 16 ≡ 72 + 48 * p = omega arith in
      rw (t≡, ← cut4, take-add 16 (16 * s + 12 * d) (drop (56 + 48 * p) b), drop-drop 16 (56 + 48 * p) b, n)

  cut2 : take (48 * p + (16 + (16 * s + 12 * d))) (drop 56 b)
      ≡ joins table16 (pipes_in b) ++ (join table16b (tail_in b) ++ (joins table18 (streams_in b) ++ joins table19 (sections_in b)))
  cut2 = rw (ps≡, ← cut3, take-add (48 * p) (16 + (16 * s + 12 * d)) (drop 56 b), drop-drop (48 * p) 56 b)

  pub body_lists : body (lists_in b) ≡ take (size (p_in b) (s_in b) (d_in b)) b
  unfolding body lists_in p s d
  body_lists =
      let n : size (p_in b) (s_in b) (d_in b) ≡ 56 + (48 * p + (16 + (16 * s + 12 * d))) = omega arith in
      rw (n, m≡, ← cut2, take-add 56 (48 * p + (16 + (16 * s + 12 * d))) b)
