-- Of infowords whose spare bits are zero the sum is one too, and its codeword is the sum of theirs; where both are accepted, so is the sum; zeros are coded as zeros.
-- Assumes nothing.
use Prim.Native.Nat.{ℕ, ◌+◌, ◌*◌, ◌/◌}
use mathlib.Core.Path.{◌≡◌, refl, sym, ap, ap₂, ◌∙◌}
use mathlib.Core.Bool.{not}
use mathlib.Core.List.{List}
use native.Mathlib.Omega.{arith}
use lib.Bits.{bit_xor, xor_self}
use lib.ListN.{length, replicate, length-replicate}
use borrow.Author.Tests.{eq-eqb}
use Rattle.ground.specs.Choice.{first_of}
use Rattle.ground.proofs.Choice.{clear_all, all_clear, no_difference}
use Rattle.bits.specs.Places.{field_at}
use Rattle.bits.specs.Sums.{summed}
use Rattle.bits.proofs.Places.{packed_length}
use Rattle.bits.proofs.Summed.{summed_length, summed_self, field_summed}
use Rattle.patterns.specs.Blocks.{block_by, Coded}
use Rattle.patterns.specs.Sent.{code_length}
use Rattle.patterns.proofs.Blocks.{coded_fit, fit_after, fit_parts}
use Rattle.turbo.specs.Encode.{block_of, codeword, word_faults, faults, refusal}
use Rattle.turbo.proofs.Accepting.{Accepted, accepted, word_size}
use Rattle.sums.specs.Sums.{Adds, SumsCoded, SumsAccepted, ZerosCoded}
use Rattle.sums.proofs.Codewords.{codeword_sum}

pub sums_coded : SumsCoded
sums_coded p n c v w b b' s s' =
    let l : 8 * length v ≡ n + 6 = word_size p n (length v) (sym b) c in
    let l' : 8 * length w ≡ n + 6 = word_size p n (length w) (sym b') c in
    let e : length v ≡ length w = omega arith in
    record {
      block = ap (block_by 1536 96) (summed_length v w e) ∙ b;
      spare = field_summed v w n 6 e (omega arith) ∙ ap₂ bit_xor s s';
      codewords = codeword_sum v w e p n;
    }

-- ---- what is accepted: a block that is coded under the pattern, with zero spare bits, into a codeword of its length

pub taken : (p n : ℕ) (w : List ℕ) (bytes : ℕ) → Coded p n → block_of w ≡ n → field_at w n 6 ≡ 0 → bytes ≡ code_length p n / 8 → refusal p w bytes ≡ 0
unfolding refusal faults word_faults
taken p n w bytes c b s l =
    ap (λ (k : ℕ). first_of (faults p k w bytes)) b ∙ fit_after p n (word_faults p n w bytes) (coded_fit p n c)
    ∙ clear_all (word_faults p n w bytes) (ap not (eq-eqb bytes (code_length p n / 8) l), (ap not (eq-eqb (field_at w n 6) 0 s), tt))

pub spare_zero : (p : ℕ) (w : List ℕ) (bytes : ℕ) → refusal p w bytes ≡ 0 → field_at w (block_of w) 6 ≡ 0
unfolding refusal faults word_faults
spare_zero p w bytes z =
    let n : ℕ = block_of w in
    no_difference (field_at w n 6) 0 (all_clear (word_faults p n w bytes) tt (fit_parts p n (word_faults p n w bytes) z).1).1.0

pub sums_accepted : SumsAccepted
sums_accepted p bytes v w e z z' =
    let n : ℕ = block_of v in
    let same : block_of w ≡ n = ap (block_by 1536 96) (sym e) in
    let a : Accepted p n bytes = accepted p v bytes z in
    let s : Adds p n v w =
    sums_coded p n a.coded v w refl same (spare_zero p v bytes z) (ap (λ (k : ℕ). field_at w k 6) (sym same) ∙ spare_zero p w bytes z') in
    taken p n (summed v w) bytes a.coded s.block s.spare a.size

-- ---- zeros are their own sum, and so are their codeword and their spare bits

own_sum : (len : ℕ) → replicate len 0 ≡ summed (replicate len 0) (replicate len 0)
own_sum len = sym (summed_self (replicate len 0) ∙ ap (λ (k : ℕ). replicate k 0) (length-replicate len 0))

pub zeros_coded : ZerosCoded
unfolding codeword
zeros_coded p n len =
    let z : List ℕ = replicate len 0 in
    ap (codeword p n) (own_sum len) ∙ codeword_sum z z refl p n ∙ summed_self (codeword p n z)
    ∙ ap (λ (k : ℕ). replicate k 0) (packed_length _ (code_length p n / 8))

pub zeros_spare : (len n : ℕ) → field_at (replicate len 0) n 6 ≡ 0
zeros_spare len n =
    let z : List ℕ = replicate len 0 in
    ap (λ (x : List ℕ). field_at x n 6) (own_sum len) ∙ field_summed z z n 6 refl (omega arith) ∙ xor_self (field_at z n 6)
