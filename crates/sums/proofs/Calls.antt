-- Calls that did what the encoder's definition says: of two infowords and of their sum, and of a word of zeros.
-- Assumes nothing.
use Prim.Native.Nat.{ℕ}
use mathlib.Core.Path.{◌≡◌, sym, ap, ap₂, ◌∙◌}
use mathlib.Core.List.{List}
use lib.ListN.{length, replicate}
use Rattle.ground.specs.Outcome.{Is}
use Rattle.bits.specs.Places.{field_at}
use Rattle.bits.specs.Sums.{summed}
use Rattle.bits.proofs.Summed.{summed_length}
use Rattle.patterns.specs.Blocks.{block_by}
use Rattle.turbo.specs.Encode.{block_of, codeword, refusal, encoded}
use Rattle.turbo.proofs.CodeBits.{encoded_zero}
use Rattle.sums.specs.Calls.{Call, SumAnswered, SumSent, ZerosSent}
use Rattle.sums.proofs.Codewords.{codeword_sum}
use Rattle.sums.proofs.Sums.{sums_accepted, zeros_coded, taken, zeros_spare}

abbrev pub Did : Call → Type 0
Did a = Is (encoded a.pattern a.infoword a.lent) a.answer a.left

abbrev refused : Call → ℕ
refused a = refusal a.pattern a.infoword (length a.lent)

-- a call that refused nothing answered 0 and left the codeword, and the other way round
left_codeword : (a : Call) → Did a → refused a ≡ 0 → (a.answer ≡ 0) × (a.left ≡ codeword a.pattern (block_of a.infoword) a.infoword)
unfolding encoded
left_codeword a did z =
    let zero : a.answer ≡ 0 = did.answer ∙ z in
    (zero, (encoded_zero a.pattern a.infoword a.lent a.left a.answer did zero).1)

answer_refused : (a : Call) → Did a → a.answer ≡ 0 → refused a ≡ 0
unfolding encoded
answer_refused a did zero = sym did.answer ∙ zero

module _ (a b c : Call) (da : Did a) (db : Did b) (dc : Did c) where
  pub sum_answered : SumAnswered a b c
  sum_answered s za zb =
      let v : List ℕ = a.infoword in
      let w : List ℕ = b.infoword in
      let p : ℕ = a.pattern in
      let n : ℕ = block_of v in
      let same : block_of w ≡ n = ap (block_by 1536 96) (sym s.words) in
      let whole : block_of (summed v w) ≡ n = ap (block_by 1536 96) (summed_length v w s.words) in
      let ra : refused a ≡ 0 = answer_refused a da za in
      let rb : refusal p w (length a.lent) ≡ 0 = sym (ap₂ (λ (q k : ℕ). refusal q w k) s.pattern_b s.lent_b) ∙ answer_refused b db zb in
      let rc : refused c ≡ 0 =
      ap₂ (λ (q k : ℕ). refusal q c.infoword k) s.pattern_c s.lent_c ∙ ap (λ (x : List ℕ). refusal p x (length a.lent)) s.sum
      ∙ sums_accepted p (length a.lent) v w s.words ra rb in
      let la = left_codeword a da ra in
      let lb = left_codeword b db (answer_refused b db zb) in
      let lc = left_codeword c dc rc in
      let third : c.left ≡ codeword p n (summed v w) =
      lc.1 ∙ ap₂ (λ (q : ℕ) (x : List ℕ). codeword q (block_of x) x) s.pattern_c s.sum ∙ ap (λ (k : ℕ). codeword p k (summed v w)) whole in
      let second : b.left ≡ codeword p n w = lb.1 ∙ ap₂ (λ (q k : ℕ). codeword q k w) s.pattern_b same in
      (lc.0, third ∙ codeword_sum v w s.words p n ∙ sym (ap₂ summed la.1 second))

  pub sum_sent : SumSent a b c
  sum_sent n s f spare spare' =
      let za : a.answer ≡ 0 = (left_codeword a da (taken a.pattern n a.infoword (length a.lent) f.coded f.block spare f.lent)).0 in
      let rb : refusal a.pattern b.infoword (length a.lent) ≡ 0 =
      taken a.pattern n b.infoword (length a.lent) f.coded (ap (block_by 1536 96) (sym s.words) ∙ f.block) spare' f.lent in
      let zb : b.answer ≡ 0 = (left_codeword b db (ap₂ (λ (q k : ℕ). refusal q b.infoword k) s.pattern_b s.lent_b ∙ rb)).0 in
      let third = sum_answered s za zb in
      (za, zb, third.0, third.1)

pub zeros_sent : (a : Call) → Did a → ZerosSent a
zeros_sent a did n f zeros =
    let len : ℕ = length a.infoword in
    let left = left_codeword a did (taken a.pattern n a.infoword (length a.lent) f.coded f.block (ap (λ (x : List ℕ). field_at x n 6) zeros ∙ zeros_spare len n) f.lent) in
    (left.0, left.1 ∙ ap₂ (codeword a.pattern) f.block zeros ∙ zeros_coded a.pattern n len ∙ ap (λ (k : ℕ). replicate k 0) (sym f.lent))
