-- What stands in the entries, for the groups of a lane.
-- Assumes nothing.
use Prim.Native.Nat.{ℕ, ◌+◌, ◌*◌, ◌/◌, ◌%◌, ◌<◌}
use mathlib.Core.Path.{◌≡◌, sym, ap, ◌∙◌}
use native.Mathlib.Nat.{zero-add}
use native.Mathlib.Omega.{arith}
use lib.ListN.{get_or}
use Rattle.ground.proofs.Table.{get_or_tab}
use Rattle.patterns.specs.Rows.{group_at, digit, copies}
use Rattle.patterns.proofs.Groups.{entry_of, entry_data, entry_tail, entry_lt, entry_group, copies_symbol}
use Rattle.puncturing.specs.Entries.{entries}

-- what stands at a group's entry says how often its symbols are sent
entry_digit : (p n i s : ℕ) → p < 28 → i < n + 6 → s < 5 → digit (get_or (entries p) (entry_of n i) 0) s ≡ copies p n (5 * i + s)
unfolding entries
entry_digit p n i s hp hi hs =
    ap (λ (x : ℕ). digit x s) (get_or_tab (group_at p 12) 0 0 18 (entry_of n i) (entry_lt n i hi) ∙ ap (group_at p 12) (zero-add (entry_of n i)) ∙ entry_group n i p hp)
    ∙ sym (copies_symbol p n i s hs)

-- of a data group
pub data_digit : (p n i s : ℕ) → p < 28 → i < n → s < 5 → digit (get_or (entries p) (i % 12) 0) s ≡ copies p n (5 * i + s)
data_digit p n i s hp hi hs = ap (λ (x : ℕ). digit (get_or (entries p) x 0) s) (sym (entry_data n i hi)) ∙ entry_digit p n i s hp (omega arith) hs

-- of the place k of the tail
pub tail_digit : (p n k : ℕ) → p < 28 → k < 30 → digit (get_or (entries p) (12 + k / 5) 0) (k % 5) ≡ copies p n (5 * n + k)
tail_digit p n k hp hk =
    let e : entry_of n (n + k / 5) ≡ 12 + k / 5 = entry_tail n (n + k / 5) (omega arith) ∙ omega arith in
    let f : 5 * (n + k / 5) + k % 5 ≡ 5 * n + k = omega arith in
    ap (λ (x : ℕ). digit (get_or (entries p) x 0) (k % 5)) (sym e) ∙ entry_digit p n (n + k / 5) (k % 5) hp (omega arith) (omega arith) ∙ ap (copies p n) f
