-- The bits of a whole word: what stands in them passes the reader's tests exactly when they are the sealed body of lists that do.
-- Assumes nothing.
use Prim.Native.Nat.{ℕ, zero, suc, ◌-◌, ◌≤◌}
use mathlib.Core.Path.{◌≡◌, refl, sym, ap, ap₂, ◌∙◌, subst}
use mathlib.Core.Bool.{false, not}
use mathlib.Core.List.{List, ◌++◌, append_assoc}
use native.Mathlib.Omega.{arith}
use lib.ListN.{length, take, drop, replicate, length-append, length-drop, length-replicate, take-append-drop}
use lib.Seq.{take_at, drop_at, drop-drop, length-take-le, take-take}
use borrow.Author.Tests.{eq-eqb}
use Rattle.ground.specs.Choice.{first_of}
use Rattle.ground.proofs.Choice.{no_difference, all_clear, clear_all}
use Rattle.bits.specs.Lists.{bits, num, Below}
use Rattle.bits.proofs.Below.{below_take, below_drop, below_append}
use Rattle.bits.proofs.Lists.{bits_num, num_bits, bits_length, bits_below}
use Rattle.crc.specs.Crc.{crc_of}
use Rattle.crc.proofs.Laws.{crc_lt}
use Rattle.description.specs.Description.{Lists}
use Rattle.description.specs.Rules.{size}
use Rattle.description.specs.Layout.{body, padded, sealed}
use Rattle.description.specs.Tests.{lists_fault, any_set}
use Rattle.description.specs.Word.{p_in, s_in, d_in, lists_in, spare_fault, crc_fault, padding_fault, word_faults}
use Rattle.description.proofs.Deal.{Counted}
use Rattle.description.proofs.Sound.{Sound}
use Rattle.description.proofs.Tests.{lists_clear, none_set, set_none}
use Rattle.description.proofs.Keeps.{Clean}
use Rattle.description.proofs.Word.{body_length, body_below, lists_body, counted_in, body_lists}

-- the reader's tests of a word's bits find nothing
pub record Passes (b : List ℕ) : Type 0 where
  pub spare : spare_fault b ≡ false
  pub crc : crc_fault b ≡ false
  pub padding : padding_fault b ≡ false
  pub lists : Clean (lists_in b)

-- the lists are as long as the counts
pub counts_in : {A : Type 0} (f : ℕ → ℕ → ℕ → A) (b : List ℕ)
    → f (length (lists_in b).pipes) (length (lists_in b).streams) (length (lists_in b).sections) ≡ f (p_in b) (s_in b) (d_in b)
unfolding lists_in p_in s_in d_in
counts_in f b =
    let c = counted_in b in
    ap₂ (λ (p s : ℕ). f p s (length (lists_in b).sections)) c.pipes c.streams ∙ ap (f (p_in b) (s_in b)) c.sections

pub passes : (b : List ℕ) → first_of (word_faults b) ≡ 0 → Passes b
unfolding word_faults lists_in
passes b h =
    let a = all_clear (word_faults b) tt h in
    let c = a.1.1 in
    record {
      spare = a.0;
      crc = a.1.0;
      padding = c.1.1.0;
      lists = record {
        version = c.0;
        fits = counts_in lists_fault b ∙ c.1.0;
        widths = c.1.1.1.0;
        tapped = c.1.1.1.1.0;
        unique = c.1.1.1.1.1.0;
      };
    }

pub passed : (b : List ℕ) → Passes b → first_of (word_faults b) ≡ 0
unfolding word_faults lists_in
passed b p =
    let l = p.lists in
    clear_all (word_faults b)
    (p.spare, (p.crc, (l.version, (sym (counts_in lists_fault b) ∙ l.fits, (p.padding, (l.widths, (l.tapped, (l.unique, tt))))))))

-- ---- a word that passes is written as it stands
module _ (b : List ℕ) (h : Below 2 b) (l : length b ≡ 768) (p : Passes b) where
  n : ℕ
  n = size (p_in b) (s_in b) (d_in b)

  n≤ : n ≤ 750
  unfolding n
  n≤ = lists_clear (p_in b) (s_in b) (d_in b) (sym (counts_in lists_fault b) ∙ p.lists.fits)

  pad≡ : padded (body (lists_in b)) ≡ take 750 b
  unfolding padded n padding_fault
  pad≡ =
      let k : length (drop n (take 750 b)) ≡ 750 - n = length-drop n (take 750 b) ∙ ap (λ (m : ℕ). m - n) (length-take-le 750 b (omega arith)) in
      let q : drop n (take 750 b) ≡ replicate (750 - n) 0 = none_set (drop n (take 750 b)) p.padding ∙ ap (λ (m : ℕ). replicate m 0) k in
      let z : n ≤ length b = omega (arith, n≤) in
      rw (body_lists b h z, length-take-le n b z, ← q, ← take-take n 750 b n≤) (take-append-drop n (take 750 b))

  crc≡ : bits 12 (crc_of 12 0x80F (take 750 b)) ≡ take 12 (drop 750 b)
  unfolding crc_fault
  crc≡ =
      let c : List ℕ = take 12 (drop 750 b) in
      let k : length c ≡ 12 = length-take-le 12 (drop 750 b) (rw length-drop (omega arith)) in
      let e : num c ≡ crc_of 12 0x80F (take 750 b) = no_difference (num c) (crc_of 12 0x80F (take 750 b)) p.crc in
      ap (bits 12) (sym e) ∙ ap (λ (m : ℕ). bits m (num c)) (sym k) ∙ bits_num c (below_take 2 12 (drop 750 b) (below_drop 2 750 b h))

  spare≡ : drop 762 b ≡ replicate 6 0
  unfolding spare_fault
  spare≡ =
      let k : length (drop 762 b) ≡ 6 = length-drop 762 b ∙ omega arith in
      none_set (drop 762 b) p.spare ∙ ap (λ (m : ℕ). replicate m 0) k

  pub sealed_read : sealed (padded (body (lists_in b))) ≡ b
  unfolding sealed
  sealed_read =
      rw (pad≡, crc≡, ← spare≡, ← drop-drop 12 750 b, take-append-drop 12 (drop 750 b)) (take-append-drop 750 b)

-- ---- a sealed body is made of bits
pub sealed_below : (l : Lists) → Below 2 (sealed (padded (body l)))
unfolding sealed padded
sealed_below l =
    below_append 2 (padded (body l)) _
    (below_append 2 (body l) _ (body_below l) (zeros_below (750 - length (body l))))
    (below_append 2 (bits 12 _) (replicate 6 0) (bits_below 12 _) (zeros_below 6))
  where
    zeros_below : (n : ℕ) → Below 2 (replicate n 0)
    zeros_below zero = tt
    zeros_below (suc n) = (omega arith, zeros_below n)

-- ---- the sealed body of lists that pass is read back, and passes
module _ (l : Lists) (s : Sound l) (c : Counted l) (k : Clean l) where
  m : ℕ
  m = length (body l)

  pub body_fits : length (body l) ≤ 750
  body_fits = rw body_length (lists_clear _ _ _ k.fits)

  crc : List ℕ
  crc = bits 12 (crc_of 12 0x80F (padded (body l)))

  pub padded_length : length (padded (body l)) ≡ 750
  unfolding padded
  padded_length = rw (length-append, length-replicate) (omega (arith, body_fits))

  whole : List ℕ
  whole = sealed (padded (body l))

  pub sealed_length : length (sealed (padded (body l))) ≡ 768
  unfolding sealed
  sealed_length = rw (length-append, length-append, length-replicate, bits_length, padded_length)

  rest≡ : whole ≡ body l ++ (replicate (750 - length (body l)) 0 ++ (crc ++ replicate 6 0))
  unfolding whole sealed padded crc
  rest≡ = append_assoc (body l) (replicate (750 - length (body l)) 0) (crc ++ replicate 6 0)

  pub lists_sealed : lists_in (sealed (padded (body l))) ≡ l
  unfolding whole
  lists_sealed = ap lists_in rest≡ ∙ lists_body l s c (replicate (750 - length (body l)) 0 ++ (crc ++ replicate 6 0))

  head≡ : take 750 whole ≡ padded (body l)
  unfolding whole sealed
  head≡ = take_at (padded (body l)) _ 750 padded_length

  end≡ : drop 750 whole ≡ crc ++ replicate 6 0
  unfolding whole sealed crc
  end≡ = drop_at (padded (body l)) _ 750 padded_length

  size≡ : size (p_in whole) (s_in whole) (d_in whole) ≡ length (body l)
  unfolding whole
  size≡ = sym (counts_in size whole) ∙ ap (λ (x : Lists). size (length x.pipes) (length x.streams) (length x.sections)) lists_sealed ∙ sym (body_length l)

  zeros≡ : drop (length (body l)) (padded (body l)) ≡ replicate (750 - length (body l)) 0
  unfolding padded
  zeros≡ = drop_at (body l) (replicate (750 - length (body l)) 0) (length (body l)) refl

  sent≡ : take 12 (drop 750 whole) ≡ crc
  unfolding crc
  sent≡ = ap (take 12) end≡ ∙ take_at crc (replicate 6 0) 12 (bits_length 12 _)

  pub passes_sealed : Passes (sealed (padded (body l)))
  unfolding whole crc spare_fault crc_fault padding_fault
  passes_sealed = record {
    spare = ap any_set (sym (drop-drop 12 750 whole) ∙ ap (drop 12) end≡ ∙ drop_at crc (replicate 6 0) 12 (bits_length 12 _)) ∙ set_none 6;
    crc =
        ap not
        (eq-eqb (num (take 12 (drop 750 whole))) (crc_of 12 0x80F (take 750 whole))
        (ap num sent≡ ∙ num_bits 12 (crc_of 12 0x80F (padded (body l))) (crc_lt 12 0x80F (padded (body l))) ∙ ap (crc_of 12 0x80F) (sym head≡)));
    padding = ap any_set (ap₂ drop size≡ head≡ ∙ zeros≡) ∙ set_none (750 - length (body l));
    lists = subst Clean (sym lists_sealed) k;
  }
