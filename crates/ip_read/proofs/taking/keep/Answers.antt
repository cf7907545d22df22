-- `ip_read::taking::keep` meets its contract. Assumes nothing.
use mathlib.Core.Path.{sym, ◌∙◌}
use native.Mathlib.Omega.{arith}
use borrow.Author.Tests.{lt-ltb}
use Rattle.ip_open.proofs.Drops.{zeros}
use Rattle.ip_look.proofs.Walks.{never}
use Rattle.ip_read.proofs.Hands.{keep_end, keep_padding, keep_begun}
use Rattle.ip_read.proofs.taking.keep.Goals as goal
use Rattle.ip_read.proofs.taking.keep.Goals.{then-at-gt-LAST_HEADER, else-at-gt-LAST_HEADER}

pub returns-then-is_padding : goal.returns-then-is_padding
returns-then-is_padding c =
    let emptied = c.fill.ensures.after (λ y e. e) ∙ zeros c.args.memory.now c.told-memory in
    elim c.if-at-gt-LAST_HEADER.branch [
      | then-at-gt-LAST_HEADER w ↦ keep_end c.args.payload.now c.args.at _ (omega (arith, w.if-at-gt-LAST_HEADER.true, c.told-payload)) emptied
      | else-at-gt-LAST_HEADER w ↦
          keep_padding c.args.payload.now c.args.at (omega (arith, w.if-at-gt-LAST_HEADER.false, c.told-payload)) _
          (sym w.is_padding.ensures ∙ sym w.value-is ∙ c.if-is_padding.true) emptied
    ]

pub returns-else-is_padding : goal.returns-else-is_padding
returns-else-is_padding c =
    elim c.if-at-gt-LAST_HEADER.branch [
      | then-at-gt-LAST_HEADER w ↦ never (w.value-is ∙ lt-ltb 1502 c.args.at w.if-at-gt-LAST_HEADER.true) c.if-is_padding.false
      | else-at-gt-LAST_HEADER w ↦
          keep_begun c.args.payload.now c.args.at (omega (arith, w.if-at-gt-LAST_HEADER.false, c.told-payload)) _ c.requires
          (sym w.is_padding.ensures ∙ sym w.value-is ∙ c.if-is_padding.false) c.begin.ensures
    ]
