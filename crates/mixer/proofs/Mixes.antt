-- What the mixer's entry gives: its refusals, and the mixed codeword.
-- Assumes nothing.
use Prim.Native.Nat.{ℕ, ◌*◌, ◌/◌, ◌≤◌, ◌<◌}
use mathlib.Core.Path.{◌≡◌, refl, sym, ap, ap₂, ◌∙◌, subst}
use mathlib.Core.Bool.{Bool, true, false}
use mathlib.Core.Logic.{⊎_elim, inl}
use mathlib.Core.List.{List}
use native.Mathlib.Omega.{arith}
use borrow.Author.Rules.{rules}
use borrow.Author.Tests.{ltb-false, eqb-true, eq-eqb}
use lib.Dec.{T, eqb, ltb, leb, ltb→lt, leb→le}
use lib.ListN.{length}
use Rattle.ground.specs.Outcome.{Is}
use Rattle.ground.specs.Choice.{choose, both, first_of}
use Rattle.ground.specs.Table.{all_below}
use Rattle.ground.proofs.Choice.{choose_true, both_left, both_right, past, no_difference}
use Rattle.ground.proofs.Table.{at_all}
use Rattle.ground.proofs.Refusing.{acceptance_leaves}
use Rattle.bits.specs.Places.{bit_at, packed}
use Rattle.patterns.specs.Rates.{rates, rate_of}
use Rattle.patterns.specs.Sent.{code_length}
use Rattle.patterns.specs.Blocks.{Coded, block_by, block_faults}
use Rattle.patterns.proofs.Length.{length_rule}
use Rattle.patterns.proofs.Blocks.{fit_coded, coded_fit}
use Rattle.mixer.specs.Mixer.{increment, mixed_from, mixed}
use Rattle.mixer.specs.Inside.{Round}
use Rattle.mixer.specs.Mixing.{codeword_bytes, block_of, mix_faults, mixing}

-- nothing is refused
clear : (p : ℕ) (c out : List ℕ) → p ≤ 27 → first_of (block_faults p (block_of p c)) ≡ 0 → length out ≡ length c → first_of (mix_faults p c out) ≡ 0
unfolding mix_faults
clear p c out h n o = search rules

-- ---- what the functions of patterns answered: the block that the codeword's length tells

module _ (p : ℕ) (c : List ℕ) {l n : ℕ} (length_is : l ≡ code_length p 12282) (by : n ≡ block_by (l / 8) 480 (length c)) where
  pub block_told : n ≡ block_of p c
  block_told = by ∙ ap (λ (x : ℕ). block_by (x / 8) 480 (length c)) length_is

-- ---- what is accepted

-- 480 bytes are the signalling codeword
signalling_length : code_length 0 762 / 8 ≡ 480
unfolding code_length rate_of rates
signalling_length = refl

-- the codeword has its length
length_by : (p len : ℕ) (s t : Bool) → eqb len (codeword_bytes p) ≡ s → eqb len 480 ≡ t → Coded p (choose s 12282 (choose t 762 0))
    → len ≡ code_length p (choose s 12282 (choose t 762 0)) / 8
length_by p len true t e f h = eqb-true len (codeword_bytes p) e
length_by p len false true e f h =
    eqb-true len 480 f ∙ sym signalling_length
    ∙ ap (λ (q : ℕ). code_length q 762 / 8) (⊎_elim (λ w. absurd (omega arith)) (λ w. sym w.0) h)
length_by p len false false e f h = ⊎_elim (λ w. absurd (omega arith)) (λ w. absurd (omega arith)) h

sized : ℕ → ℕ → Bool
sized n p = both (ltb 2047 (code_length p n)) (leb (code_length p n) 61440)

payload_sized : T (all_below (sized 12282) 28)
unfolding sized code_length rate_of rates
payload_sized = tt

signalling_sized : T (sized 762 0)
unfolding sized code_length rate_of rates
signalling_sized = tt

parts : (p n : ℕ) → T (sized n p) → (2047 < code_length p n) × (code_length p n ≤ 61440)
unfolding sized
parts p n t =
    let l : ℕ = code_length p n in
    (ltb→lt 2047 l (both_left (ltb 2047 l) (leb l 61440) t), leb→le l 61440 (both_right (ltb 2047 l) (leb l 61440) t))

pub bounds : (p n : ℕ) → Coded p n → (2047 < code_length p n) × (code_length p n ≤ 61440)
bounds p n =
    ⊎_elim (λ w. subst (λ (m : ℕ). (2047 < code_length p m) × (code_length p m ≤ 61440)) (sym w.1) (parts p 12282 (at_all (sized 12282) 28 payload_sized p w.0)))
    (λ w. subst (λ (m : ℕ). (2047 < code_length p m) × (code_length p m ≤ 61440)) (sym w.1)
    (subst (λ (q : ℕ). (2047 < code_length q 762) × (code_length q 762 ≤ 61440)) (sym w.0) (parts 0 762 signalling_sized)))

module _ (p : ℕ) (c out : List ℕ) (k : p ≤ 27) (n : first_of (block_faults p (block_of p c)) ≡ 0) (o : length out ≡ length c) where
  coded : Coded p (block_of p c)
  coded = fit_coded (codeword_bytes p) 480 (length c) p n

  codeword_length : length c ≡ code_length p (block_of p c) / 8
  unfolding block_by
  codeword_length = length_by p (length c) (eqb (length c) (codeword_bytes p)) (eqb (length c) 480) refl refl coded

  len_is : 8 * length c ≡ code_length p (block_of p c)
  len_is = omega (arith, codeword_length, (length_rule p (block_of p c) coded).bytes)

  pub mix_able : (inc : ℕ) → inc < 256 → Round inc c
  mix_able inc s =
      let b = bounds p (block_of p c) coded in
      record { some = omega (arith, b.0, len_is); within = omega (arith, b.0, len_is); most = omega (arith, b.1, len_is) }

  pub mix_done : (inc : ℕ) (m : List ℕ) → inc ≡ increment p (block_of p c) → m ≡ packed (λ i. bit_at c (mixed_from inc (8 * length c) i)) (length out) → Is (mixing p c out) 0 m
  unfolding mixing mixed
  mix_done inc m e h =
      acceptance_leaves (first_of (mix_faults p c out)) (mixed p (block_of p c) c) out (clear p c out k n o)
      (h ∙ ap₂ (λ (x y : ℕ). packed (λ i. bit_at c (mixed_from inc x i)) y) len_is (o ∙ codeword_length)
      ∙ ap (λ (x : ℕ). packed (λ i. bit_at c (mixed_from x (code_length p (block_of p c)) i)) (code_length p (block_of p c) / 8)) e)

-- ---- a payload codeword of its length, into as much room

module _ (p : ℕ) (c out : List ℕ) (h : p < 28) (e : length c ≡ codeword_bytes p) (o : length out ≡ length c) where
  block_is : block_of p c ≡ 12282
  unfolding block_by
  block_is = choose_true _ _ (eq-eqb (length c) (codeword_bytes p) e)

  fits : first_of (block_faults p (block_of p c)) ≡ 0
  fits = ap (λ (n : ℕ). first_of (block_faults p n)) block_is ∙ coded_fit p 12282 (inl (h, refl))

  pub mix_accepts : (mixing p c out).answer ≡ 0
  unfolding mixing
  mix_accepts = clear p c out (omega arith) fits o

  pub mix_is : (mixing p c out).memory ≡ mixed p 12282 c
  unfolding mixing
  mix_is = choose_true _ _ (eq-eqb (first_of (mix_faults p c out)) 0 (clear p c out (omega arith) fits o)) ∙ ap (λ (n : ℕ). mixed p n c) block_is

-- ---- what an accepted call says

pub record Accepted (p : ℕ) (c out : List ℕ) : Type 0 where
  pub coded : Coded p (block_of p c)
  pub long : length c ≡ code_length p (block_of p c) / 8
  pub left : (mixing p c out).memory ≡ mixed p (block_of p c) c

pub mix_accepted : (p : ℕ) (c out : List ℕ) → first_of (mix_faults p c out) ≡ 0 → Accepted p c out
unfolding mix_faults mixing
mix_accepted p c out e =
    let x : 0 < 3 = omega arith in
    let y : 0 < 21 = omega arith in
    let a = past _ 3 _ x e in
    let b = past _ 21 _ y a.1 in
    let d = past _ 21 _ y b.1 in
    let k : p ≤ 27 = ltb-false 27 p a.0 in
    let n : first_of (block_faults p (block_of p c)) ≡ 0 = no_difference _ _ b.0 in
    let o : length out ≡ length c = no_difference _ _ d.0 in
    record {
      coded = coded p c out k n o;
      long = codeword_length p c out k n o;
      left = choose_true _ _ (eq-eqb (first_of (mix_faults p c out)) 0 e);
    }
