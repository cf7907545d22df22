-- What the walk finds, call after call, is what stands in the word: its counts are small, so that nothing it adds up wraps.
-- Assumes nothing.
use Prim.Native.Nat.{ℕ, ◌+◌, ◌*◌, ◌%◌, ◌≤◌, ◌<◌}
use mathlib.Core.Path.{◌≡◌, refl, ap, ap₂, ◌∙◌, subst}
use mathlib.Core.List.{List}
use native.Mathlib.Nat.{mod-eq_of_lt}
use native.Mathlib.Omega.{arith}
use Rattle.bits.specs.Places.{field_at}
use Rattle.bits.proofs.Places.{field_lt}
use Rattle.description.specs.Rules.{size}
use Rattle.views.specs.Rows.{row_from, row_at}
use Rattle.sheets.specs.Owned.{owned_at, tail_owned_at}
use Rattle.sheets.specs.declared.owned.Share.{Share}
use Rattle.sheets.proofs.Owning.{owned_small, tail_small}
use Rattle.steps.specs.Steps.{onward, with_tail}
use Rattle.walk.specs.Tour.{p_of, s_of, d_of, tour_of}
use Rattle.walk.specs.declared.Toured.{Toured}

onward_small : (a n k : ℕ) → a + n * k < 4294967296 → onward a n k ≡ a + n * k
unfolding onward
onward_small a n k h = mod-eq_of_lt h

-- ---- what each call of the walk gives: the fields, the counts, and the reader's places in between
abbrev pub place₁ : ℕ
place₁ = onward 0 1 52

abbrev pub place₂ : ℕ
place₂ = onward place₁ 1 4

module _ (w : List ℕ) where
  abbrev pub version : ℕ
  version = field_at w 0 4

  abbrev pub pipes : ℕ
  pipes = field_at w place₁ 4

  abbrev pub own : Share
  own = owned_at w place₂ (pipes % 256)

  abbrev pub place₃ : ℕ
  place₃ = onward place₂ pipes 48

  abbrev pub tail : ℕ
  tail = tail_owned_at w place₃

  abbrev pub place₄ : ℕ
  place₄ = onward place₃ 1 16

  abbrev pub all : Share
  all = with_tail own tail

  abbrev pub place₅ : ℕ
  place₅ = onward place₄ all.s 16

  abbrev pub place₆ : ℕ
  place₆ = onward place₅ all.d 12

  abbrev pub found : Toured
  found = record { version = version; counts = record { p = pipes; s = all.s; d = all.d }; end = place₆ }

-- ---- and these are what stands in the word
abbrev share : ℕ → ℕ → Share
share s d = record { s = s; d = d }

abbrev toured : ℕ → ℕ → ℕ → ℕ → ℕ → Toured
toured v p s d e = record { version = v; counts = record { p = p; s = s; d = d }; end = e }

module _ (w : List ℕ) where
  pipes_are : pipes w ≡ p_of w
  unfolding onward p_of row_at row_from
  pipes_are = refl

  pub pipes_few : p_of w < 16
  pipes_few = subst (λ (x : ℕ). x < 16) pipes_are (field_lt w place₁ 4 (omega arith))

  second : place₂ ≡ 56
  unfolding onward
  second = refl

  own_is : own w ≡ owned_at w 56 (p_of w)
  own_is =
      let e : pipes w % 256 ≡ p_of w = omega (arith, pipes_are, pipes_few) in
      ap₂ (λ (a p : ℕ). owned_at w a p) second e

  third : place₃ w ≡ 56 + 48 * p_of w
  third = onward_small place₂ (pipes w) 48 (omega (arith, second, pipes_are, pipes_few)) ∙ omega (arith, second, pipes_are)

  tail_is : tail w ≡ tail_owned_at w (56 + 48 * p_of w)
  tail_is = ap (tail_owned_at w) third

  pub streams_few : s_of w ≤ 481
  unfolding s_of
  streams_few = omega (arith, (owned_small w 56 (p_of w) _ refl).0, tail_small w (56 + 48 * p_of w) refl, pipes_few)

  pub sections_few : d_of w ≤ 120
  unfolding d_of
  sections_few = omega (arith, (owned_small w 56 (p_of w) _ refl).1, pipes_few)

  streams_are : (all w).s ≡ s_of w
  unfolding with_tail s_of
  streams_are =
      let s : (own w).s ≡ (owned_at w 56 (p_of w)).s = ap (λ (o : Share). o.s) own_is in
      omega (arith, s, tail_is, (owned_small w 56 (p_of w) _ refl).0, tail_small w (56 + 48 * p_of w) refl, pipes_few)

  sections_are : (all w).d ≡ d_of w
  unfolding with_tail d_of
  sections_are = ap (λ (o : Share). o.d) own_is

  fourth : place₄ w ≡ 72 + 48 * p_of w
  fourth = onward_small (place₃ w) 1 16 (omega (arith, third, pipes_few)) ∙ omega (arith, third)

  fifth : place₅ w ≡ 72 + 48 * p_of w + 16 * s_of w
  fifth = onward_small (place₄ w) (all w).s 16 (omega (arith, fourth, streams_are, streams_few, pipes_few)) ∙ omega (arith, fourth, streams_are)

  sixth : place₆ w ≡ size (p_of w) (s_of w) (d_of w)
  sixth = onward_small (place₅ w) (all w).d 12 (omega (arith, fifth, sections_are, sections_few, streams_few, pipes_few)) ∙ omega (arith, fifth, sections_are)

  -- the walk ends with what stands in the word
  pub found_is : found w ≡ tour_of w
  unfolding tour_of row_at row_from
  found_is = λ i. toured (field_at w 0 4) (pipes_are i) (streams_are i) (sections_are i) (sixth i)
