-- `ip_look::looking::heads_refused` meets its contract: the headers that are left answer for all of them. Assumes nothing.
use mathlib.Core.Path.{sym, ◌∙◌}
use native.Mathlib.Omega.{arith}
use Rattle.ip_look.proofs.Looks.{look_end, look_padding, look_fault, look_more}
use Rattle.ip_look.proofs.looking.heads_refused.Goals as goal

pub returns-then-is_padding : goal.returns-then-is_padding
returns-then-is_padding c =
    look_padding c.loop-left.left.now _ c.loop-left.invariant c.in-len2-up.len_at_least _ (sym c.is_padding.ensures ∙ c.if-is_padding.true) c.has_stray.ensures

pub returns-then-unfit : goal.returns-then-unfit
returns-then-unfit c =
    look_fault c.loop-left.left.now _ c.loop-left.invariant c.in-len2-up.len_at_least (sym c.is_padding.ensures ∙ c.if-is_padding.false)
    c.head_of-h.result c.head_of-h.ensures.0 (sym c.unfit.ensures ∙ c.if-unfit.true)

pub loop-left-preserved : goal.loop-left-preserved
loop-left-preserved c =
    look_more c.loop-left.left.now _ c.loop-left.invariant c.in-len2-up.len_at_least (sym c.is_padding.ensures ∙ c.if-is_padding.false)
    c.head_of-h.result c.head_of-h.ensures.0 (sym c.unfit.ensures ∙ c.if-unfit.false) _ c.from-left.ensures

pub returns : goal.returns
returns c = look_end c.loop-left.left.now _ c.loop-left.invariant _ (omega (arith, c.in_default.len_below)) c.has_stray-2.ensures
