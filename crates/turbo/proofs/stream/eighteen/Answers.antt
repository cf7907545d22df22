-- `turbo::stream::eighteen` meets its contract. Assumes nothing.
use Prim.Native.Nat.{ℕ, ◌/◌, ◌%◌}
use mathlib.Core.List.{List}
use native.Mathlib.Omega.{arith}
use Rattle.ground.specs.Outcome.{Outcome}
use Rattle.turbo.specs.Stream.{chunked, thrice}
use Rattle.turbo.specs.declared.stream.Coder.{Coder}
use Rattle.turbo.proofs.Streaming.{chunked_both, then}
use Rattle.turbo.proofs.stream.eighteen.Goals as goal

pub chunk-c2-requires : goal.chunk-c2-requires
chunk-c2-requires c = (omega arith, omega arith, omega arith, chunked_both _ _ _ _ _ _ _ _ c.chunk-c1.ensures)

pub chunk-requires : goal.chunk-requires
chunk-requires c = (omega arith, omega arith, omega arith, chunked_both _ _ _ _ _ _ _ _ c.chunk-c2.ensures)

pub returns : goal.returns
unfolding thrice
returns c =
    let a = c.args in
    let first : Outcome Coder (List ℕ) = chunked a.out.now a.plan.now 0 a.c (a.x / 262144 % 64) (a.y / 262144 % 64) in
    let second : List ℕ → Coder → Outcome Coder (List ℕ) = λ m d. chunked m a.plan.now 1 d (a.x / 4096 % 64) (a.y / 4096 % 64) in
    let third : List ℕ → Coder → Outcome Coder (List ℕ) = λ m d. chunked m a.plan.now 0 d (a.x / 64 % 64) (a.y / 64 % 64) in
    let f = c.chunk-c1 in
    let s = c.chunk-c2 in
    let t = c.chunk in
    then first (λ m d. third (second m d).memory (second m d).answer) f.result f.new.out t.result t.new.out f.ensures
    (then (second f.new.out f.result) third s.result s.new.out t.result t.new.out s.ensures t.ensures)
