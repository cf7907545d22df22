-- Theorems about the functions' own promises: a part is a remainder and its parity bit.
-- Assumes nothing.
use Prim.Native.Nat.{ℕ, ◌*◌, ◌/◌, ◌%◌, ◌^◌, ◌<◌}
use mathlib.Core.Path.{◌≡◌, sym, ap, ◌∙◌, subst}
use mathlib.Core.List.{List, ◌++◌}
use lib.ListN.{get_or}
use lib.Pow.{high, low}
use contract.Lifetimes.{Lfts}
use borrow.Fn.World.{ArgsD, ResD}
use borrow.Fn.Kinds.{ended_of}
use denote.Triple.Clauses.{AtExit}
use Rattle.bits.specs.Lists.{bits, num}
use Rattle.bits.proofs.Joined.{run_below}
use Rattle.parity.specs.Division.{Remainder}
use Rattle.parity.specs.Part.{generator, remainder, at_one, outer, parity_of, message_at, part_of}
use Rattle.parity.proofs.Laws.{remainder_is, at_one_lt, parts_at}
use Rattle.parts.specs.contracts.part as part
use Rattle.parts.proofs.part.Kinds as part_kinds
use Rattle.parts.proofs.part.Reads as part_reads
use Rattle.parts.specs.contracts.parts as parts
use Rattle.parts.proofs.parts.Kinds as parts_kinds
use Rattle.parts.proofs.parts.Reads as parts_reads

-- a part is d(x) and p0 of the 3,008 bits there
module _ (w : List ℕ) (from v : ℕ) (is : v ≡ part_of w from) where
  abbrev message : List ℕ
  message = message_at w from

  high_is : v / 2 ≡ remainder message
  unfolding part_of parity_of
  high_is = ap (λ (x : ℕ). x / 2) is ∙ high (remainder message) 1 (at_one_lt (outer message))

  divides : Remainder 48 generator (num (message_at w from) * 2 ^ 48) (v / 2)
  divides = subst (λ (x : ℕ). Remainder 48 generator (num message * 2 ^ 48) x) (sym high_is) (remainder_is message (run_below w (8 * from) 3008))

  sums : v % 2 ≡ at_one (message_at w from ++ bits 48 (v / 2))
  unfolding part_of parity_of outer
  sums =
      ap (λ (x : ℕ). x % 2) is ∙ low (remainder message) 1 (at_one_lt (outer message)) ∙ ap (λ (x : ℕ). at_one (message ++ bits 48 x)) (sym high_is)

-- after a call part(word, from)
module _ (κs : Lfts 1) (a : ArgsD part.signature κs) (r : ResD part.signature κs) (s : AtExit (ended_of 1 part_kinds.ps part_kinds.r) κs)
    (did : part_reads.Post κs a r s) where
  pub part_divides : Remainder 48 generator (num (message_at a.0.now a.1.0) * 2 ^ 48) (r / 2)
  part_divides = divides a.0.now a.1.0 r did

  pub part_sums : r % 2 ≡ at_one (message_at a.0.now a.1.0 ++ bits 48 (r / 2))
  part_sums = sums a.0.now a.1.0 r did

-- after a call parts(word)
module _ (κs : Lfts 1) (a : ArgsD parts.signature κs) (r : ResD parts.signature κs) (s : AtExit (ended_of 1 parts_kinds.ps parts_kinds.r) κs)
    (did : parts_reads.Post κs a r s) (k : ℕ) (one : k < 4) where
  pub parts_divide : Remainder 48 generator (num (message_at a.0.now (376 * k)) * 2 ^ 48) (get_or r k 0 / 2)
  parts_divide = divides a.0.now (376 * k) (get_or r k 0) (parts_at a.0.now r k did one)

  pub parts_sum : get_or r k 0 % 2 ≡ at_one (message_at a.0.now (376 * k) ++ bits 48 (get_or r k 0 / 2))
  parts_sum = sums a.0.now (376 * k) (get_or r k 0) (parts_at a.0.now r k did one)
