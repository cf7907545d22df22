-- Words of stream types 0 and 1 have nothing of type 2.
-- Assumes nothing.
use Prim.Native.Nat.{ℕ, ◌-◌}
use mathlib.Core.Bool.{false, not}
use mathlib.Core.Path.{◌≡◌, ap, ap₂, ◌∙◌}
use mathlib.Core.List.{List, [], ◌∷◌, ◌++◌}
use native.Mathlib.Omega.{arith}
use borrow.Author.Tests.{ne_eqb, le-ltb}
use lib.Dec.{eqb}
use lib.ListN.{length}
use Rattle.ground.specs.Choice.{choose, refuse, first_of, refusing}
use Rattle.bits.specs.Lists.{bits, pack}
use Rattle.infoword.specs.Suffix.{has_parity, lead_bits, header, closed}
use Rattle.infoword.specs.Word.{filled, word_with, word_of}
use Rattle.infoword.proofs.Closing.{has_not}
use Rattle.infoword.proofs.Ending.{lead_short}
use Rattle.infoword.proofs.Written.{front_short, parity_short}
use Rattle.write_faults.specs.Faults.{write_refusal}
use Rattle.encapsulation.specs.Writing.{written}
use Rattle.encapsulation.specs.Claims.{plain_word, TypesZeroAndOne}
use Rattle.encapsulation.proofs.Laid.{packet_other}

-- the word
plain_word_lem : (kind id : ℕ) (p : List ℕ) → has_parity kind ≡ false → word_of kind id p ≡ plain_word kind id p
unfolding word_with plain_word filled
plain_word_lem kind id p n =
    ap₂ (λ (f : ℕ) (s : List ℕ). filled f p ++ pack (1536 - f) (s ++ closed (header (bits (lead_bits kind) 0) id kind 0))) (front_short kind n) (parity_short kind p n)
    ∙ ap (λ (r : ℕ). filled 1532 p ++ pack 4 (closed (header (bits r 0) id kind 0))) (lead_short kind n)

pub types_0_and_1 : TypesZeroAndOne
unfolding written write_refusal
types_0_and_1 kind id count p null w h =
    let n : kind ≡ 2 → ⊥ = λ e. omega arith in
    let r : write_refusal kind count (length p) (length null) (length w) ≡ first_of (refuse 1 (not (eqb (length p) (choose (eqb kind 1) 1532 0))) ∷ refuse 1 (not (eqb (length w) 1536)) ∷ []) =
    simp (le-ltb 2 kind (omega arith), ne_eqb kind 2 n) in
    ap₂ (λ (x : ℕ) (y : List ℕ). refusing x y w) r (ap (word_of kind id) (packet_other kind count p null n) ∙ plain_word_lem kind id p (has_not kind n (λ e. omega arith)))
