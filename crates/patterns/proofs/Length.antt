-- The length rule: under each pattern the code bits are the block with its six tail periods, divided by the rate.
-- Assumes nothing.
use Prim.Native.Nat.{ℕ, ◌+◌, ◌*◌, ◌/◌, ◌%◌}
use mathlib.Core.Path.{◌≡◌, sym, ap, ap₂, ◌∙◌, subst}
use mathlib.Core.Bool.{Bool}
use mathlib.Core.Logic.{⊎_elim}
use mathlib.Core.List.{List, []}
use native.Mathlib.Nat.{add-mod_left, div-add-mod'}
use native.Mathlib.Omega.{arith}
use lib.Dec.{T, eqb, eqb→eq}
use lib.ListN.{length, get_or}
use Rattle.ground.specs.Choice.{both}
use Rattle.ground.specs.Table.{all_below}
use Rattle.ground.proofs.Choice.{both_left, both_right}
use Rattle.ground.proofs.Table.{at_all}
use Rattle.patterns.specs.Rates.{rates, rate_of}
use Rattle.patterns.specs.Rows.{data_rows, tail_rows, data_group, tail_group, digit, copies}
use Rattle.patterns.specs.Blocks.{Coded}
use Rattle.patterns.specs.Sent.{places, total, sent, code_length}
use Rattle.patterns.specs.Length.{Length}
use Rattle.patterns.proofs.Totals.{total_cong, total_add, total_period}
use Rattle.patterns.proofs.Groups.{copies_data, copies_tail}
use Rattle.patterns.proofs.Spread.{length_spread}

-- how often the place k of the data is sent, and of the tail
data_times : ℕ → ℕ → ℕ
data_times p k = digit (data_group p (k / 5)) (k % 5)

tail_times : ℕ → ℕ → ℕ
tail_times p k = digit (tail_group p (k / 5)) (k % 5)

-- the places of a period
period : ℕ → ℕ
period p = 5 * length (get_or data_rows p [])

repeats : (p k : ℕ) → data_times p (period p + k) ≡ data_times p k
unfolding data_times period data_group
repeats p k =
    let row : List ℕ = get_or data_rows p [] in
    let L : ℕ = length row in
    let e1 : (5 * L + k) / 5 ≡ L + k / 5 = omega arith in
    let e2 : (5 * L + k) % 5 ≡ k % 5 = omega arith in
    ap₂ (λ (x y : ℕ). digit (get_or row (x % L) 0) y) e1 e2 ∙ ap (λ (x : ℕ). digit (get_or row x 0) (k % 5)) (add-mod_left L (k / 5))

-- the code bits counted by whole periods, the period cut short and the tail
counted : ℕ → ℕ → ℕ
counted p n = 5 * n / period p * total (data_times p) (period p) + total (data_times p) (5 * n % period p) + total (tail_times p) 30

count_is : (p n : ℕ) → total (copies p n) (places n) ≡ counted p n
unfolding counted data_times tail_times
count_is p n =
    let e : places n ≡ 5 * n + 30 = omega arith in
    ap (total (copies p n)) e
    ∙ total_add (copies p n) (5 * n) 30
    ∙ ap₂ ◌+◌
    (total_cong (copies p n) (data_times p) (5 * n) (copies_data p n)
    ∙ ap (total (data_times p)) (sym (div-add-mod' (5 * n) (period p))) ∙ total_period (data_times p) (period p) (repeats p) (5 * n / period p) (5 * n % period p))
    (total_cong (λ k. copies p n (5 * n + k)) (tail_times p) 30 (λ k l. copies_tail p n k))

rule : ℕ → ℕ → Bool
rule n p =
    both (eqb (counted p n) (code_length p n)) (both (eqb (code_length p n * (rate_of p).num) ((n + 6) * (rate_of p).den)) (eqb (code_length p n % 8) 0))

payload_rule : T (all_below (rule 12282) 28)
unfolding rule counted period data_times tail_times data_group tail_group digit total data_rows tail_rows code_length rate_of rates
payload_rule = tt

signalling_rule : T (rule 762 0)
unfolding rule counted period data_times tail_times data_group tail_group digit total data_rows tail_rows code_length rate_of rates
signalling_rule = tt

kept : (p n : ℕ) → T (rule n p) → Length p n
unfolding rule sent
kept p n t =
    let l : ℕ = code_length p n in
    let a : Bool = eqb (counted p n) l in
    let b : Bool = eqb (l * (rate_of p).num) ((n + 6) * (rate_of p).den) in
    let c : Bool = eqb (l % 8) 0 in
    record {
      all = length_spread (copies p n) (λ k. k) (places n) ∙ count_is p n ∙ eqb→eq (counted p n) l (both_left a (both b c) t);
      exact = eqb→eq (l * (rate_of p).num) ((n + 6) * (rate_of p).den) (both_left b c (both_right a (both b c) t));
      bytes = eqb→eq (l % 8) 0 (both_right b c (both_right a (both b c) t));
    }

-- every pattern keeps the rule for each block that is coded under it
pub length_rule : (p n : ℕ) → Coded p n → Length p n
length_rule p n =
    ⊎_elim
    (λ w. subst (λ (m : ℕ). Length p m) (sym w.1) (kept p 12282 (at_all (rule 12282) 28 payload_rule p w.0)))
    (λ w. subst (λ (m : ℕ). Length p m) (sym w.1) (subst (λ (q : ℕ). Length q 762) (sym w.0) (kept 0 762 signalling_rule)))

-- the bits sent, counted place by place
pub total_rule : (p n : ℕ) → Coded p n → total (copies p n) (places n) ≡ code_length p n
unfolding sent
total_rule p n h = sym (length_spread (copies p n) (λ k. k) (places n)) ∙ (length_rule p n h).all
