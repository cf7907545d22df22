-- The taps of sections, added up one by one.
-- Assumes nothing.
use Prim.Native.Nat.{ℕ, ◌+◌, ◌<◌}
use mathlib.Core.Path.{◌≡◌, refl, sym, ap, ◌∙◌}
use mathlib.Core.List.{List, []}
use native.Mathlib.Numerals.{add-one}
use native.Mathlib.Omega.{arith}
use lib.ListN.{take}
use lib.Seq.{take_all}
use Rattle.description.specs.Rules.{taps}
use Rattle.description.specs.Rows.{total}
use Rattle.description.proofs.Each.{total_take}
use Rattle.tap_lengths.specs.declared.Section.{Section}
use Rattle.tap_lengths.specs.Lengths.{tap_total}
use Rattle.tap_lengths.specs.Sections.{sections_at, section_of, section_at}
use Rattle.tap_lengths.proofs.Walking.{sections_length, section_at_lem}

module _ (n : ℕ) (l : List ℕ) where
  pub taps_none : 0 ≡ tap_total (take 0 (sections_at n l))
  unfolding total
  taps_none = refl

  pub taps_more : (i t : ℕ) → i < n → t ≡ (section_at l i).taps → tap_total (take i (sections_at n l)) + t ≡ tap_total (take (i + 1) (sections_at n l))
  unfolding section_of
  taps_more i t h e =
      ap (λ (x : ℕ). tap_total (take i (sections_at n l)) + x) (e ∙ ap (λ (s : Section). s.taps) (section_at_lem n l i h))
      ∙ sym (ap (λ (j : ℕ). tap_total (take j (sections_at n l))) (add-one i) ∙ total_take taps (sections_at n l) i [] (omega (arith, sections_length n l)))

  pub taps_all : tap_total (take n (sections_at n l)) ≡ tap_total (sections_at n l)
  taps_all = ap tap_total (take_all n (sections_at n l) (omega (arith, sections_length n l)))
