-- `patterns::units` meets its contract: the table is that of the rule. Assumes nothing.
use Prim.Native.Nat.{ℕ}
use mathlib.Core.Path.{◌≡◌, sym, ap, ◌∙◌}
use native.Mathlib.Nat.{zero-add}
use native.Mathlib.Decide.{dec_lt}
use native.Mathlib.Omega.{arith}
use borrow.Author.Rules.{rules}
use lib.ListN.{get_or, get_or-eq_default}
use Rattle.ground.specs.Table.{tab}
use Rattle.ground.proofs.Table.{length_tab, get_or_tab}
use Rattle.patterns.specs.Rates.{rates, rate_of, units_of}
use Rattle.patterns.proofs.Rates.{units_none}
use Rattle.patterns.proofs.units.Goals as goal

-- the table's entry, and 0 behind its end
entry : (p : ℕ) → get_or (tab units_of 0 28) p 0 ≡ units_of p
entry p =
    elim (dec_lt p 28) [
      | yes h ↦ get_or_tab units_of 0 0 28 p h ∙ ap units_of (zero-add p)
      | no h ↦ get_or-eq_default (tab units_of 0 28) 0 (omega (arith, length_tab units_of 0 28)) ∙ sym (units_none p (omega arith))
    ]

pub returns : goal.returns
unfolding tab units_of rate_of rates
returns c =
    let read : c.unwrap_or.result ≡ get_or (tab units_of 0 28) c.args.pattern 0 = search rules in
    read ∙ entry c.args.pattern
