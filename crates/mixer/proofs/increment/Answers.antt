-- `mixer::increment` meets its contract: the table is that of the rule. Assumes nothing.
use Prim.Native.Nat.{ℕ, ◌<◌}
use mathlib.Core.Path.{◌≡◌, sym, ap, ◌∙◌, subst}
use native.Mathlib.Nat.{zero-add}
use native.Mathlib.Omega.{arith}
use borrow.Author.Tests.{eq-eqb, ne_eqb}
use lib.Dec.{T, ltb, ltb→lt}
use Rattle.ground.specs.Table.{tab, all_below}
use Rattle.ground.proofs.Choice.{choose_true, choose_false}
use Rattle.ground.proofs.Table.{get_or_tab, at_all}
use Rattle.patterns.specs.Rates.{rates, rate_of}
use Rattle.mixer.specs.Mixer.{table12, column_of, increment}
use Rattle.mixer.proofs.increment.Goals as goal

by_table : ℕ → ℕ
by_table p = (column_of table12 (rate_of p)).inc

other : (p n : ℕ) → (n ≡ 762 → ⊥) → increment p n ≡ by_table p
unfolding increment by_table
other p n h = choose_false _ _ (ne_eqb n 762 h)

small : T (all_below (λ p. ltb (by_table p) 256) 28)
unfolding by_table column_of table12 rate_of rates
small = tt

pub returns-then-n-eq-SIGNALLING_BLOCK : goal.returns-then-n-eq-SIGNALLING_BLOCK
unfolding increment
returns-then-n-eq-SIGNALLING_BLOCK c = (sym (choose_true _ _ (eq-eqb c.args.n 762 c.if-n-eq-SIGNALLING_BLOCK.true)), omega arith)

pub returns-else-n-eq-SIGNALLING_BLOCK : goal.returns-else-n-eq-SIGNALLING_BLOCK
unfolding tab by_table column_of table12 rate_of rates
returns-else-n-eq-SIGNALLING_BLOCK c =
    let p : ℕ = c.args.pattern in
    let e = get_or_tab by_table 0 0 28 p c.requires ∙ ap by_table (zero-add p) in
    (e ∙ sym (other p c.args.n c.if-n-eq-SIGNALLING_BLOCK.false), subst (λ (x : ℕ). x < 256) (sym e) (ltb→lt (by_table p) 256 (at_all (λ p. ltb (by_table p) 256) 28 small p c.requires)))
