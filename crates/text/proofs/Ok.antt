-- A listing says ok last exactly when the sheet is accepted: a refused sheet's text ends in a digit.
-- Assumes nothing.
use Prim.Native.Nat.{ℕ, zero, suc, ◌+◌, ◌/◌, ◌%◌, ◌≤◌, ◌<◌}
use mathlib.Core.Path.{◌≡◌, refl, sym, ap, ◌∙◌}
use mathlib.Core.List.{List, [], ◌∷◌, ◌++◌, append_assoc}
use native.Mathlib.Decide.{dec_lt}
use native.Mathlib.Omega.{arith}
use lib.ListN.{length, get_or, length-append}
use lib.Seq.{get_or-append-add}
use borrow.Author.Tests.{lt-ltb, le-ltb}
use Rattle.ground.proofs.Choice.{choose_true, choose_false}
use Rattle.description.specs.Description.{Lists}
use Rattle.words.specs.Words.{ascii, digits, decimal, filled}
use Rattle.pipe_lines.specs.Lines.{pipe_lines, tail_line}
use Rattle.lines.specs.Lines.{multiplex_line, accepted}
use Rattle.text.specs.Listing.{refused}
use Rattle.text.specs.Answers.{SaysOk}

pub accepted_says : (l : Lists) → SaysOk (accepted l)
unfolding accepted filled
accepted_says l = (multiplex_line l ++ pipe_lines 1 l.pipes ++ tail_line l.tail, refl)

-- a text whose last byte is a digit
abbrev Digit : List ℕ → Type 0
Digit text = (before : List ℕ) × (d : ℕ) × (d < 10) × (text ≡ before ++ ((48 + d) ∷ []))

digits_end : (k n : ℕ) → n ≤ k → Digit (digits k n)
unfolding digits
digits_end zero n h = ([], n, omega arith, refl)
digits_end (suc k) n h =
    elim (dec_lt n 10) [
      | yes l ↦ ([], n, l, choose_true _ _ (lt-ltb n 10 l))
      | no l ↦ (digits k (n / 10), n % 10, omega arith, choose_false _ _ (le-ltb n 10 (omega arith)))
    ]

-- the line is those words, the number and the line's end
words_end : (n : ℕ) → refused n ≡ ascii "refused " ++ (decimal n ++ (10 ∷ []))
unfolding refused filled
words_end n = refl

-- it ends in a digit and the line's end
refused_end : (n : ℕ) → (before : List ℕ) × (d : ℕ) × (d < 10) × (refused n ≡ before ++ ((48 + d) ∷ 10 ∷ []))
unfolding decimal
refused_end n =
    let (y, d, l, q) = digits_end n n (omega arith) in (
      ascii "refused " ++ y,
      d,
      l,
      words_end n ∙ ap (λ (x : List ℕ). ascii "refused " ++ (x ++ (10 ∷ []))) q
          ∙ ap (λ (x : List ℕ). ascii "refused " ++ x) (append_assoc y ((48 + d) ∷ []) (10 ∷ [])) ∙ sym (append_assoc (ascii "refused ") y ((48 + d) ∷ 10 ∷ [])),
    )

-- so the byte before the line's end is no k
pub refused_silent : (n : ℕ) → SaysOk (refused n) → ⊥
refused_silent n (b, e) =
    let (w, d, l, q) = refused_end n in
    let same : w ++ ((48 + d) ∷ 10 ∷ []) ≡ b ++ ascii "ok\n" = sym q ∙ e in
    let len : length w + 2 ≡ length b + 3 = sym (length-append w ((48 + d) ∷ 10 ∷ [])) ∙ ap length same ∙ length-append b (ascii "ok\n") in
    let k : get_or (w ++ ((48 + d) ∷ 10 ∷ [])) (length w + 0) 0 ≡ get_or (b ++ ascii "ok\n") (length b + 1) 0 =
    ap (λ (x : List ℕ). get_or x (length w + 0) 0) same ∙ ap (λ (i : ℕ). get_or (b ++ ascii "ok\n") i 0) (omega arith) in
    let digit : 48 + d ≡ 107 = sym (get_or-append-add w ((48 + d) ∷ 10 ∷ []) 0 0) ∙ k ∙ get_or-append-add b (ascii "ok\n") 1 0 in
    omega arith
