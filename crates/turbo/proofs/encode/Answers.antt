-- `turbo::encode` meets its contract. Assumes nothing.
use Prim.Native.Nat.{ℕ, ◌≤◌}
use mathlib.Core.Path.{◌≡◌, sym, ap, ◌∙◌, subst}
use mathlib.Core.List.{List}
use lib.ListN.{length}
use Rattle.std.proofs.lemmas.Result.{err_from_is_err_and}
use Rattle.ground.specs.Choice.{first_of}
use Rattle.ground.proofs.Refusals.{number_not_0}
use Rattle.patterns.proofs.Blocks.{block_le}
use Rattle.interleaver.specs.Read.{interleaved}
use Rattle.turbo.specs.Encode.{block_of, faults, refusal}
use Rattle.turbo.proofs.Accepting.{Accepted, accepted, fills, word_size, same_block, wrote, refused}
use Rattle.turbo.proofs.encode.Goals as goal

-- what is looked for in a word's block is looked for in the word
answer : (p n : ℕ) (w : List ℕ) (bytes : ℕ) {r : ℕ} → n ≡ block_of w → r ≡ first_of (faults p n w bytes) → r ≡ refusal p w bytes
unfolding refusal
answer p n w bytes b e = e ∙ ap (λ (m : ℕ). first_of (faults p m w bytes)) b

pub refusal-requires : goal.refusal-requires
refusal-requires c = subst (λ (n : ℕ). n ≤ 12282) (sym c.block_by-n.ensures) (block_le 1536 96 _)

pub returns-in_err-refusal : goal.returns-in_err-refusal
returns-in_err-refusal c =
    let a = c.args in
    let r = answer a.pattern c.block_by-n.result a.infoword.now (length a.codeword.now) c.block_by-n.ensures c.in_err-refusal.ensures in
    let p = err_from_is_err_and c.from_residual.result c.from_residual.ensures.1 in
    rw (p.1, p.2) (refused a.pattern _ a.infoword.now a.codeword.now r (number_not_0 _))

pub code-requires : goal.code-requires
code-requires c =
    let a = c.args in
    let n : ℕ = c.block_by-n.result in
    let ok = sym (answer a.pattern n a.infoword.now (length a.codeword.now) c.block_by-n.ensures c.in_ok-refusal.ensures) in
    let h = subst (λ (m : ℕ). Accepted a.pattern m (length a.codeword.now)) (sym c.block_by-n.ensures) (accepted a.pattern a.infoword.now (length a.codeword.now) ok) in (
      h.coded,
      word_size a.pattern n (length a.infoword.now) c.block_by-n.ensures h.coded,
      c.interleave.ensures ∙ ap (λ (m : ℕ). interleaved m a.infoword.now) (same_block a.pattern n h.coded),
      fills a.pattern n a.codeword.now h,
    )

pub returns : goal.returns
returns c =
    let a = c.args in
    let n : ℕ = c.block_by-n.result in
    let ok = sym (answer a.pattern n a.infoword.now (length a.codeword.now) c.block_by-n.ensures c.in_ok-refusal.ensures) in
    wrote a.pattern n a.infoword.now a.codeword.now _ c.block_by-n.ensures ok c.code.ensures
