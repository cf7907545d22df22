-- `tail::run_of` meets its contract. Assumes nothing.
use Prim.Native.Nat.{ℕ, ◌+◌, ◌*◌, ◌/◌, ◌%◌, ◌<◌}
use mathlib.Core.Path.{◌≡◌, sym, ap, ap₂, ◌∙◌, subst}
use mathlib.Core.List.{List}
use native.Mathlib.Omega.{arith}
use lib.ListN.{get_or}
use Rattle.bits.specs.Places.{number}
use Rattle.patterns.specs.Rows.{digit}
use Rattle.patterns.proofs.Groups.{digit_lt}
use Rattle.constituent.specs.Six.{state_of}
use Rattle.constituent.specs.Segment.{digit_at}
use Rattle.constituent.specs.declared.State.{State}
use Rattle.tail.specs.Tail.{tail_symbol}
use Rattle.tail.proofs.Laws.{tail_number_lem, tail_symbol_lem, running_none, running_more, running_all}
use Rattle.tail.proofs.run_of.Goals as goal

same : {a b c a' b' c' : ℕ} → a ≡ a' → b ≡ b' → c ≡ c' → ◌≡◌ {A = State} (record { a1 = a; a2 = b; a3 = c }) (record { a1 = a'; a2 = b'; a3 = c' })
same p q r = cc

low : (y : ℕ) → state_of (y % 8) ≡ state_of y
low y = same (omega arith) (omega arith) (omega arith)

high : (y : ℕ) → state_of (8 + y % 8) ≡ state_of y
high y = same (omega arith) (omega arith) (omega arith)

pub loop-k-init : goal.loop-k-init
loop-k-init c = let a = c.args in running_none a.rows.now (state_of (a.both / 8)) (state_of a.both)

pub more-r-requires : goal.more-r-requires
more-r-requires c =
    let l = c.loop-k in
    (omega arith, subst (λ (x : ℕ). x < 8) (sym c.digit-times.ensures) (digit_lt _ _), omega (arith, l.invariant.few))

pub loop-k-preserved : goal.loop-k-preserved
unfolding digit_at
loop-k-preserved c =
    let symbols_are : get_or c.tails-table.result (c.args.both / 8 % 8) 0 * 32768 + get_or c.tails-table.result (8 + c.args.both % 8) 0 ≡ number (tail_symbol (state_of (c.args.both / 8)) (state_of c.args.both)) 0 30 = let x : ℕ = c.args.both in
    let e = c.tails-table.ensures in
    ap₂ (λ (a b : ℕ). a * 32768 + b) (ap (λ (m : List ℕ). get_or m (x / 8 % 8) 0) e) (ap (λ (m : List ℕ). get_or m (8 + x % 8) 0) e)
    ∙ tail_number_lem (state_of (x / 8)) (state_of x) (x / 8 % 8) (x % 8) (omega arith) (omega arith) (low (x / 8)) (high x) in
    let digit_is : c.digit-times.result ≡ digit_at c.args.rows.now (60 + c.loop-k.k) = let k : ℕ = c.loop-k.k in
    let e1 : 12 + k / 5 ≡ (60 + k) / 5 = omega arith in
    let e2 : k % 5 ≡ (60 + k) % 5 = omega arith in
    c.digit-times.ensures ∙ ap₂ (λ (x y : ℕ). digit (get_or c.args.rows.now x 0) y) e1 e2 in
    let l = c.loop-k in
    let a = c.args in
    let s : State = state_of (a.both / 8) in
    let t : State = state_of a.both in
    let k : l.k < 30 = omega arith in
    running_more a.rows.now s t l.r c.more-r.result l.k _ c.digit-times.result l.invariant k
    (tail_symbol_lem s t _ symbols_are l.k k) digit_is c.more-r.ensures.0 c.more-r.ensures.1 (subst (λ (x : ℕ). x < 8) (sym c.digit-times.ensures) (digit_lt _ _))

pub returns : goal.returns
returns c =
    let l = c.loop-k in
    let a = c.args in
    running_all a.rows.now a.both l.r l.k l.invariant (omega arith)
