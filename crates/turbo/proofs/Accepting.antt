-- What is known of an infoword, a pattern and a codeword that are not refused, and what the codeword then is.
-- Assumes nothing.
use Prim.Native.Nat.{ℕ, ◌+◌, ◌*◌, ◌/◌}
use mathlib.Core.Path.{◌≡◌, sym, ap₂, ◌∙◌}
use mathlib.Core.Logic.{⊎_elim}
use mathlib.Core.List.{List}
use native.Mathlib.Decide.{ℕ_discrete}
use native.Mathlib.Omega.{arith}
use lib.Dec.{eqb}
use lib.ListN.{length, get_or}
use borrow.Author.Tests.{eq-eqb, ne_eqb}
use Rattle.ground.specs.Choice.{choose}
use Rattle.ground.specs.Outcome.{Is}
use Rattle.ground.proofs.Choice.{choose_true, choose_false, no_difference, all_clear}
use Rattle.ground.proofs.Refusing.{refusal_leaves, acceptance_leaves}
use Rattle.bits.specs.Places.{packed}
use Rattle.patterns.specs.Rows.{copies}
use Rattle.patterns.specs.Blocks.{block_by, Coded}
use Rattle.patterns.specs.Sent.{places, total, code_length}
use Rattle.patterns.proofs.Blocks.{fit_coded, fit_parts, coded_bounds}
use Rattle.patterns.specs.Length.{Length}
use Rattle.patterns.proofs.Length.{length_rule, total_rule}
use Rattle.interleaver.specs.Read.{block_for}
use Rattle.turbo.specs.Encode.{block_of, code_bits, codeword, word_faults, faults, refusal, encoded}
use Rattle.turbo.specs.Stream.{code_bit}

-- what is left where nothing is refused
pub record Accepted (p n bytes : ℕ) : Type 0 where
  pub coded : Coded p n
  pub size : bytes ≡ code_length p n / 8

pub accepted : (p : ℕ) (w : List ℕ) (bytes : ℕ) → refusal p w bytes ≡ 0 → Accepted p (block_of w) bytes
unfolding refusal faults word_faults
accepted p w bytes e =
    let n : ℕ = block_of w in
    let parts = fit_parts p n (word_faults p n w bytes) e in
    let c = all_clear (word_faults p n w bytes) tt parts.1 in
    record {
      coded = fit_coded 1536 96 (length w) p parts.0;
      size = no_difference bytes (code_length p n / 8) c.0;
    }

-- the code bits fill the codeword's bytes
pub fills : (p n : ℕ) (out : List ℕ) → Accepted p n (length out) → total (copies p n) (places n) ≡ 8 * length out
fills p n out h =
    let r : Length p n = length_rule p n h.coded in
    total_rule p n h.coded ∙ omega (arith, r.bytes, h.size)

-- a word whose length tells a block has the block's bits and the six spare ones
pub word_size : (p n len : ℕ) → n ≡ block_by 1536 96 len → Coded p n → 8 * len ≡ n + 6
unfolding block_by
word_size p n len e c =
    elim (ℕ_discrete len 1536) [
      | yes l ↦ omega (arith, e ∙ choose_true 12282 (choose (eqb len 96) 762 0) (eq-eqb len 1536 l))
      | no l ↦ short l (ℕ_discrete len 96)
    ]
  where
    short : (len ≡ 1536 → ⊥) → Dec (len ≡ 96) → 8 * len ≡ n + 6
    short l (yes k) = omega (arith, e ∙ choose_false 12282 (choose (eqb len 96) 762 0) (ne_eqb len 1536 l) ∙ choose_true 762 0 (eq-eqb len 96 k))
    short l (no k) = absurd (omega (arith, e ∙ choose_false 12282 (choose (eqb len 96) 762 0) (ne_eqb len 1536 l) ∙ choose_false 762 0 (ne_eqb len 96 k), (coded_bounds p n c).1))

-- the interleaver's block is the encoder's
pub same_block : (p n : ℕ) → Coded p n → block_for n ≡ n
unfolding block_for
same_block p n = ⊎_elim (λ w. choose_true 12282 762 (eq-eqb n 12282 w.1) ∙ sym w.1) (λ w. choose_false 12282 762 (ne_eqb n 12282 (λ e. omega (arith, w.1))) ∙ sym w.1)

-- what was sent is the codeword
pub wrote : (p n : ℕ) (w out out' : List ℕ) → n ≡ block_of w → refusal p w (length out) ≡ 0 → out' ≡ packed (code_bit p n w) (length out) → Is (encoded p w out) 0 out'
unfolding encoded codeword code_bit
wrote p n w out out' en z e =
    acceptance_leaves (refusal p w (length out)) (codeword p (block_of w) w) out z
    (e ∙ ap₂ (λ (m k : ℕ). packed (λ j. get_or (code_bits p m w) j 0) k) en (accepted p w (length out) z).size)

-- a refusal leaves the bytes as they were
pub refused : (p r : ℕ) (w out : List ℕ) → r ≡ refusal p w (length out) → (r ≡ 0 → ⊥) → Is (encoded p w out) r out
unfolding encoded
refused p r w out e h = refusal_leaves (refusal p w (length out)) (codeword p (block_of w) w) out e h
