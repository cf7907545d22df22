-- `preamble_form::tell_into` meets its contract. Assumes nothing.
use Prim.Native.Nat.{◌+◌}
use mathlib.Core.List.{[], ◌∷◌}
use mathlib.Core.Path.{◌≡◌, refl, sym, ap, ◌∙◌}
use native.Mathlib.Omega.{arith}
use Rattle.std.proofs.lemmas.Result.{err_from_is_err_and}
use Rattle.std.specs.Prelude.{Option, Some, Ok}
use denote.Enum.Declared.{tag_of}
use lib.ListN.{length, set}
use Rattle.ground.proofs.Answers.{accepted_with}
use Rattle.preamble_form.specs.contracts.Form.{the_type}
use Rattle.preamble_form.specs.declared.Form.{Form}
use Rattle.preamble_form.specs.declared.Form.TheVariants.{Upright, Inverted}
use Rattle.preamble_form.specs.Forms.{told}
use Rattle.preamble_form.proofs.Telling.{into_room, into_refused, into_done, only}
use Rattle.preamble_form.proofs.tell_into.Goals.{in-None, in-Some}
use Rattle.preamble_form.proofs.tell_into.Goals as goal

pub returns-then-out-ne-FORM : goal.returns-then-out-ne-FORM
returns-then-out-ne-FORM c =
    let a = c.args in
    into_room a.bytes.now a.out.now (λ e. omega (arith, c.if-out-ne-FORM.true))

pub returns-in_err-tell : goal.returns-in_err-tell
returns-in_err-tell c =
    let p = err_from_is_err_and c.from_residual.result c.from_residual.ensures.1 in
    rw (p.1, p.2) (into_refused c.args.bytes.now c.args.out.now (omega (arith, c.if-out-ne-FORM.false)) c.in_err-tell.ensures)

-- the number of a form is the one that is told of it
told_form : (f : Form) → told (Ok (Some f)) ≡ accepted_with ((tag_of the_type f + 1) ∷ [])
told_form Upright = refl
told_form Inverted = refl

pub returns : goal.returns
returns c =
    let a = c.args in
    let n : length a.out.now ≡ 1 = omega (arith, c.if-out-ne-FORM.false) in
    let told_is = c.in_ok-tell.ensures in
    elim c.match-branch-2.branch [
      | in-None w ↦
          into_done a.bytes.now a.out.now _ n (ap (λ (f : Option Form). told (Ok f)) (sym w.in-None.is) ∙ told_is) (ap (set a.out.now 0) w.out-is ∙ only a.out.now 0 n)
      | in-Some w ↦
          into_done a.bytes.now a.out.now _ n (sym (told_form w.in-Some.form) ∙ ap (λ (f : Option Form). told (Ok f)) (sym w.in-Some.is) ∙ told_is)
          (ap (set a.out.now 0) w.out-is ∙ only a.out.now _ n)
    ]
