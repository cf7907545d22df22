-- Views made one place after the other.
-- Assumes nothing.
use Prim.Native.Nat.{ℕ, ◌+◌, ◌*◌}
use mathlib.Core.Path.{◌≡◌, ap}
use native.Mathlib.Omega.{arith}
use Rattle.description.specs.Sheet.{tail_from, pipes_from, streams_from, sections_from}
use Rattle.views.specs.View.{word_view, sheet_view}
use Rattle.views.specs.declared.View.{View}

abbrev pub view : ℕ → ℕ → ℕ → ℕ → ℕ → ℕ → View
view m t p s d a = record { multiplex = m; tail = t; pipes = p; streams = s; sections = d; apart = a }

pub word_viewed : (p s : ℕ) → view 0 (56 + 48 * p) 56 (56 + 48 * p + 16) (56 + 48 * p + 16 + 16 * s) 12 ≡ word_view p s
unfolding word_view
word_viewed p s =
    let a : 56 + 48 * p + 16 ≡ 72 + 48 * p = omega arith in
    let b : 56 + 48 * p + 16 + 16 * s ≡ 72 + 48 * p + 16 * s = omega arith in
    λ i. view 0 (56 + 48 * p) 56 (a i) (b i) 12

pub sheet_viewed : (h p s : ℕ)
    → view (8 * h) (8 * h + 56) (8 * h + 56 + 16) (8 * h + 56 + 16 + 48 * p) (8 * h + 56 + 16 + 48 * p + 16 * s + 4) 16 ≡ sheet_view h p s
unfolding sheet_view
sheet_viewed h p s =
    let a : 8 * h + 56 ≡ 8 * tail_from h = omega arith in
    let b : 8 * h + 56 + 16 ≡ 8 * pipes_from h = omega arith in
    let c : 8 * h + 56 + 16 + 48 * p ≡ 8 * streams_from h p = omega arith in
    let d : 8 * h + 56 + 16 + 48 * p + 16 * s + 4 ≡ 8 * sections_from h p s + 4 = omega arith in
    λ i. view (8 * h) (a i) (b i) (c i) (d i) 16

-- the places one by one
pub record Stands (m t p s d a : ℕ) (v : View) : Type 0 where
  pub multiplex : v.multiplex ≡ m
  pub tail : v.tail ≡ t
  pub pipes : v.pipes ≡ p
  pub streams : v.streams ≡ s
  pub sections : v.sections ≡ d
  pub apart : v.apart ≡ a

stands : {m t p s d a : ℕ} (v : View) → v ≡ view m t p s d a → Stands m t p s d a v
stands v e = record {
  multiplex = ap (λ (x : View). x.multiplex) e;
  tail = ap (λ (x : View). x.tail) e;
  pipes = ap (λ (x : View). x.pipes) e;
  streams = ap (λ (x : View). x.streams) e;
  sections = ap (λ (x : View). x.sections) e;
  apart = ap (λ (x : View). x.apart) e;
}

abbrev pub WordPlaces : ℕ → ℕ → View → Type 0
WordPlaces p s = Stands 0 (56 + 48 * p) 56 (72 + 48 * p) (72 + 48 * p + 16 * s) 12

pub word_places : (p s : ℕ) (v : View) → v ≡ word_view p s → WordPlaces p s v
unfolding word_view
word_places p s v e = stands v e

abbrev pub SheetPlaces : ℕ → ℕ → ℕ → View → Type 0
SheetPlaces h p s = Stands (8 * h) (8 * tail_from h) (8 * pipes_from h) (8 * streams_from h p) (8 * sections_from h p s + 4) 16

pub sheet_places : (h p s : ℕ) (v : View) → v ≡ sheet_view h p s → SheetPlaces h p s v
unfolding sheet_view
sheet_places h p s v e = stands v e
