-- Text in ASCII: quoted words, numbers in decimal, lines of both, and what a buffer holds into which they are put.
-- Assumes nothing.
use Rattle.std.specs.Prelude.{ℕ, zero, suc, ◌+◌, ◌-◌, ◌/◌, ◌%◌, List, [], ◌∷◌, ◌++◌, eqb, ltb, length, get_or, take, drop}
use Prim.Native.Char.{code}
use Prim.Native.String as string
use Prim.Native.String.{String}
use Rattle.ground.specs.Outcome.{Outcome}
use Rattle.ground.specs.Choice.{choose}

-- the bytes of a quoted text
abbrev pub ascii : String → List ℕ
ascii string.[] = []
ascii (string.◌∷◌ c s) = code c ∷ ascii s

-- the digits of n, no zero before the first: those of n / 10, where there are any, and then that of n % 10; k bounds their number
unfoldable pub digits : ℕ → ℕ → List ℕ
digits zero n = (48 + n) ∷ []
digits (suc k) n = choose (ltb n 10) ((48 + n) ∷ []) (digits k (n / 10) ++ ((48 + n % 10) ∷ []))

-- a number in decimal: n has at most n + 1 digits
unfoldable pub decimal : ℕ → List ℕ
decimal n = digits n n

-- a character of a text with numbers, the next number being n: # (35) stands for it, and any other for itself
abbrev pub spelled : ℕ → ℕ → List ℕ
spelled c n = choose (eqb c 35) (decimal n) (c ∷ [])

-- how many of the numbers it takes
abbrev pub taken : ℕ → ℕ
taken c = choose (eqb c 35) 1 0

-- a text with numbers
unfoldable pub filled : List ℕ → List ℕ → List ℕ
filled [] ns = []
filled (c ∷ text) ns = spelled c (get_or ns 0 0) ++ filled text (drop (taken c) ns)

abbrev pub line : String → List ℕ → List ℕ
line text ns = filled (ascii text) ns

-- text laid over a buffer from a place on: the place behind it, and the buffer afterwards
abbrev pub laid : List ℕ → ℕ → List ℕ → Outcome ℕ (List ℕ)
laid out at text = record { answer = at + length text; memory = take at out ++ text ++ drop (at + length text) out }

-- text put into a buffer from a place on: what has no room behind the place is left out
unfoldable pub put : List ℕ → ℕ → List ℕ → Outcome ℕ (List ℕ)
put out at text = laid out at (take (length out - at) text)
