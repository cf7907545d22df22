-- `tables::plan_into` meets its contract. Assumes nothing.
use Prim.Native.Nat.{ℕ, ◌*◌}
use mathlib.Core.Path.{◌≡◌, sym, ap, ap₂, ◌∙◌}
use mathlib.Core.List.{List, [], ◌++◌, append-nil}
use native.Mathlib.Omega.{arith}
use borrow.Rule.Slice.PartMut.{put_mid}
use lib.ListN.{length, take, drop, length-drop, drop_of_length-le}
use lib.Pointwise.{bytes_decides}
use lib.Seq.{take_at, drop_at}
use Rattle.ground.proofs.Table.{length_tab}
use Rattle.tables.specs.Plan.{look_at}
use Rattle.tables.specs.Tables.{half_look}
use Rattle.tables.proofs.Looking.{planned, look_same, total_same}
use Rattle.tables.proofs.plan_into.Goals as goal

half_size : (rows : List ℕ) (h : ℕ) → length (half_look rows h) ≡ 192
unfolding half_look
half_size rows h = length_tab (look_at rows) (192 * h) 192

-- the first half as it was made, and the second behind it, where the tables hold no more
both : (a b post : List ℕ) → length a ≡ 192 → length b ≡ 192 → length post ≡ 192 → put_mid 192 192 (a ++ post) b ≡ a ++ b
both a b post ea eb ep =
    let end : drop 192 (drop 192 (a ++ post)) ≡ [] = ap (drop 192) (drop_at a post 192 ea) ∙ drop_of_length-le post {i = 192} (omega arith) in
    ap₂ (λ (x y : List ℕ). x ++ (b ++ y)) (take_at a post 192 ea) end ∙ ap (λ (x : List ℕ). a ++ x) (append-nil b)

pub returns-then-eq : goal.returns-then-eq
returns-then-eq c =
    let rows : List ℕ = c.args.rows.now in
    let first = c.half_of-plan.ensures in
    let size : length c.half_of-plan.new.t ≡ 192 = ap length first.0 ∙ half_size rows 0 in
    let R : take 6 (drop 6 rows) ≡ take 6 rows = (bytes_decides (take 6 (drop 6 rows)) (take 6 rows)).0 (sym c.eq.ensures ∙ c.if-eq.true) in
    planned rows _
    (c.copy_half.ensures ∙ ap (λ (l : List ℕ). l ++ l) (take_at c.half_of-plan.new.t _ 192 size ∙ first.0) ∙ ap (λ (l : List ℕ). half_look rows 0 ++ l) (sym (look_same rows R)))
    first.1 (first.1 ∙ total_same rows R)

pub returns-else-eq : goal.returns-else-eq
returns-else-eq c =
    let rows : List ℕ = c.args.rows.now in
    let first = c.half_of-plan.ensures in
    let second = c.half_of-plan-else-eq.ensures in
    planned rows _
    (both _ _ _ (ap length first.0 ∙ half_size rows 0) (ap length second.0 ∙ half_size rows 1) (length-drop 192 c.args.plan.now.look ∙ omega arith) ∙ ap₂ (λ (x y : List ℕ). x ++ y) first.0 second.0)
    first.1 second.1
