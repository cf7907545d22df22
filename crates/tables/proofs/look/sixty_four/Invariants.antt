-- `tables::look::sixty_four` meets its contract: the table of b of the bits is there. Assumes nothing.
use Prim.Native.Nat.{◌^◌}
use mathlib.Core.Path.{◌≡◌}
use lib.ListN.{get_or, take}
use Rattle.patterns.specs.Sent.{total}
use Rattle.tables.specs.Tables.{weighed, sums}
use Rattle.tables.proofs.look.sixty_four.Given as goal

abbrev pub invariant-loop-b : goal.invariant-loop-b
invariant-loop-b l = take (2 ^ l.b) l.t ≡ sums (λ b. total (weighed l.w (get_or l.alone b 0)) 36) l.b
