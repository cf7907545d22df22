-- What all tests of a word say, in the order from word to sheet: 1 2 5 6 7 8 9 10 11.
-- Assumes nothing.
use Rattle.std.specs.Prelude.{ℕ, not, List, [], ◌∷◌, eqb, length}
use Rattle.ground.specs.Outcome.{Told}
use Rattle.ground.specs.Choice.{refuse, verdict}
use Rattle.bits.specs.Lists.{unpack}
use Rattle.description.specs.Word.{p_in, s_in, d_in, word_faults}

-- the counts, or the first refusal; 1: the word is not 96 bytes
unfoldable pub surveyed_word : List ℕ → Told
surveyed_word w =
    let b : List ℕ = unpack w in
    verdict (refuse 1 (not (eqb (length w) 96)) ∷ word_faults b) (p_in b ∷ s_in b ∷ d_in b ∷ [])
