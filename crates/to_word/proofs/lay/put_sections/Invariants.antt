-- `to_word::lay::put_sections` meets its contract: after k turns k sections are in the sink. Assumes nothing.
use Rattle.to_word.proofs.Sinks.{Puts}
use Rattle.to_word.proofs.lay.put_sections.Given as goal

abbrev pub invariant-loop-k : goal.invariant-loop-k
invariant-loop-k l = Puts l.sheet l.from.sections l.from.apart l.k l.initial.word l.initial.sink l.word l.sink
