-- `encapsulation::transport::carry` meets its contract. Assumes nothing.
use mathlib.Core.Path.{◌≡◌, sym, ap, ◌∙◌}
use borrow.Author.Rules.{rules}
use Rattle.infoword.specs.Steps.{parted}
use Rattle.infoword.specs.declared.StreamType.{StreamType}
use Rattle.infoword.specs.declared.StreamType.TheVariants.{TransportStream}
use Rattle.encapsulation.specs.Steps.{carried}
use Rattle.encapsulation.proofs.Laid.{carried_other}
use Rattle.encapsulation.proofs.transport.carry.Goals as goal

pub returns-then-eq : goal.returns-then-eq
returns-then-eq c =
    let a = c.args in
    let same : a.stream ≡ TransportStream = search rules in
    c.put_parts.ensures ∙ ap parted c.fill_up.ensures ∙ ap (λ (t : StreamType). carried t a.count a.null.now a.word.now) (sym same)

pub returns-else-eq : goal.returns-else-eq
returns-else-eq c =
    let a = c.args in
    let other : a.stream ≡ TransportStream → ⊥ = search rules in
    sym (carried_other a.stream a.count a.null.now a.word.now other)
