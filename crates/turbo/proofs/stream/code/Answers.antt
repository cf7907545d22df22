-- `turbo::stream::code` meets its contract. Assumes nothing.
use Prim.Native.Nat.{ℕ}
use mathlib.Core.Path.{ap, ◌∙◌}
use mathlib.Core.List.{List}
use Rattle.bits.specs.Places.{packed}
use Rattle.tail.specs.Tail.{run_of}
use Rattle.turbo.specs.Stream.{code_bit}
use Rattle.turbo.proofs.Ending.{ended}
use Rattle.turbo.proofs.stream.code.Goals as goal

pub returns : goal.returns
returns c =
    let a = c.args in
    let s = c.send-c in
    let e = c.run_of-tail.ensures ∙ ap (λ (l : List ℕ). run_of l s.result.both) c.entries-rows.ensures in
    ended a.pattern a.n a.word.now s.new.out s.result c.run_of-tail.result c.put.result c.put.new.out c.requires.0 s.ensures.0 e c.put.ensures
    ∙ ap (packed (code_bit a.pattern a.n a.word.now)) s.ensures.1
