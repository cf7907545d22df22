-- `turbo::refusal` meets its contract: each test that finds nothing leads to the next. Assumes nothing.
use Prim.Native.Nat.{ℕ, ◌/◌, ◌≤◌}
use mathlib.Core.Path.{◌≡◌, sym, ap, ◌∙◌}
use mathlib.Core.List.{List}
use borrow.Author.Tests.{eq-eqb, ne_eqb, le-ltb}
use lib.Dec.{ltb}
use Rattle.std.proofs.lemmas.Result.{err_from_is_err_and}
use Rattle.ground.specs.Choice.{choose, first_of}
use Rattle.ground.proofs.Choice.{choose_false}
use Rattle.ground.proofs.Faults.{first_before}
use Rattle.ground.proofs.Refusals.{number_not_0}
use Rattle.patterns.specs.Blocks.{block_faults}
use Rattle.patterns.specs.Sent.{code_length}
use Rattle.patterns.proofs.Blocks.{fit_after}
use Rattle.turbo.specs.Encode.{word_faults, faults}
use Rattle.turbo.proofs.refusal.Goals as goal

-- where the block and the pattern go together, what is looked for of the words answers
late : (p n : ℕ) (w : List ℕ) (bytes : ℕ) {k : ℕ} → 0 ≡ first_of (block_faults p n) → k ≡ first_of (word_faults p n w bytes) → k ≡ first_of (faults p n w bytes)
unfolding faults
late p n w bytes z e = e ∙ sym (fit_after p n (word_faults p n w bytes) (sym z))

-- the codeword's bytes
size : (p n l : ℕ) → n ≤ 12282 → l ≡ choose (ltb 12282 n) 0 (code_length p n) → code_length p n / 8 ≡ l / 8
size p n l h e = ap (λ (x : ℕ). x / 8) (sym (e ∙ choose_false 0 (code_length p n) (le-ltb 12282 n h)))

pub returns-in_err-unfit : goal.returns-in_err-unfit
unfolding faults
returns-in_err-unfit c =
    let p = err_from_is_err_and c.from_residual.result c.from_residual.ensures.1 in
    let a = c.args in
    let e = c.in_err-unfit.ensures in
    rw (p.1, p.2) (e ∙ sym (first_before (block_faults a.pattern a.n) (word_faults a.pattern a.n a.word.now a.bytes) (λ z. number_not_0 _ (e ∙ z))))

pub returns-then-bytes-code_length : goal.returns-then-bytes-code_length
unfolding word_faults
returns-then-bytes-code_length c =
    let a = c.args in
    late a.pattern a.n a.word.now a.bytes c.in_ok-unfit.ensures (simp (size a.pattern a.n _ c.requires c.code_length.ensures, ne_eqb _ _ c.if-bytes-code_length.true))

pub returns-then-field-ne0 : goal.returns-then-field-ne0
unfolding word_faults
returns-then-field-ne0 c =
    let a = c.args in
    late a.pattern a.n a.word.now a.bytes c.in_ok-unfit.ensures
    (simp (size a.pattern a.n _ c.requires c.code_length.ensures, eq-eqb _ _ c.if-bytes-code_length.false, sym c.field.ensures, ne_eqb _ _ c.if-field-ne0.true))

pub returns : goal.returns
unfolding word_faults
returns c =
    let a = c.args in
    late a.pattern a.n a.word.now a.bytes c.in_ok-unfit.ensures
    (simp (size a.pattern a.n _ c.requires c.code_length.ensures, eq-eqb _ _ c.if-bytes-code_length.false, sym c.field.ensures, eq-eqb _ _ c.if-field-ne0.false))
