-- `puncturing::entries` meets its contract. Assumes nothing.
use Prim.Native.Nat.{ℕ, ◌≤◌, ◌<◌}
use mathlib.Core.Path.{◌≡◌, sym, ap, ap₂, ◌∙◌}
use mathlib.Core.Bool.{Bool}
use native.Mathlib.Nat.{zero-add}
use native.Mathlib.Decide.{dec_lt}
use native.Mathlib.Omega.{arith}
use borrow.Author.Rules.{rules}
use lib.Dec.{T, eqb, eqb→eq}
use lib.ListN.{get_or, get_or-eq_default}
use Rattle.ground.specs.Table.{tab, all_below}
use Rattle.ground.proofs.Table.{length_tab, get_or_tab, tab_ext, at_all}
use Rattle.patterns.specs.Rows.{data_rows, tail_rows, data_group, group_at, digit}
use Rattle.puncturing.specs.Entries.{entries}
use Rattle.puncturing.specs.Inside.{spaced, entry_from}
use Rattle.puncturing.proofs.Packed.{digits, data_number, tail_number, entry_is, group_none}
use Rattle.puncturing.proofs.Made.{made_at}
use Rattle.puncturing.proofs.entries.Goals as goal

-- rows of zeros send nothing
nothing : ℕ → Bool
nothing j = eqb (entry_from 0 0 j) 0

all_nothing : T (all_below nothing 18)
unfolding nothing entry_from spaced
all_nothing = tt

-- the entry of a pattern by its two rows, as they stand in the tables, and by zeros behind their ends
stored : (p j : ℕ) → j < 18 → entry_from (get_or (tab data_number 0 28) p 0) (get_or (tab tail_number 0 28) p 0) j ≡ group_at p 12 j
unfolding nothing
stored p j l =
    elim (dec_lt p 28) [
      | yes h ↦ ap₂ (λ (x y : ℕ). entry_from x y j) (get_or_tab data_number 0 0 28 p h ∙ ap data_number (zero-add p)) (get_or_tab tail_number 0 0 28 p h ∙ ap tail_number (zero-add p))
          ∙ entry_is p j h l
      | no h ↦ ap₂ (λ (x y : ℕ). entry_from x y j) (past data_number (omega arith)) (past tail_number (omega arith))
          ∙ eqb→eq _ _ (at_all nothing 18 all_nothing j l) ∙ sym (group_none p 12 j (omega arith))
    ]
  where
    past : (f : ℕ → ℕ) → 28 ≤ p → get_or (tab f 0 28) p 0 ≡ 0
    past f h = get_or-eq_default (tab f 0 28) 0 (omega (arith, length_tab f 0 28))

pub returns : goal.returns
unfolding entries tab data_number tail_number digits digit data_group data_rows tail_rows
returns c =
    let p : ℕ = c.args.pattern in
    let row : c.unwrap_or-row.result ≡ get_or (tab data_number 0 28) p 0 = search rules in
    let tail : c.unwrap_or-tail.result ≡ get_or (tab tail_number 0 28) p 0 = search rules in
    let made = c.from_fn.ensures.items in
    let at = made_at _ _ (entry_from c.unwrap_or-row.result c.unwrap_or-tail.result) 0 (λ i y q k. search rules) c.from_fn.result 0 18 made.each in
    tab_ext (group_at p 12) 0 18 c.from_fn.result made.long (λ k l. at k (omega arith) l ∙ ap₂ (λ (x y : ℕ). entry_from x y k) row tail ∙ stored p k l)
