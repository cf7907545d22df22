-- `encapsulation::write` meets its contract. Assumes nothing.
use Prim.Native.Nat.{ℕ}
use mathlib.Core.Path.{◌≡◌, sym, ap, ◌∙◌}
use mathlib.Core.List.{List, ◌++◌}
use native.Mathlib.Omega.{arith}
use lib.ListN.{drop}
use Rattle.std.proofs.lemmas.Option.{MatchOption-at_some}
use Rattle.std.proofs.lemmas.Result.{err_from_is_err_and}
use Rattle.ground.proofs.Refusals.{number_not_0}
use Rattle.ground.proofs.Refusing.{refusal_leaves, acceptance_leaves}
use Rattle.infoword.specs.declared.StreamType.{StreamType}
use Rattle.infoword.specs.declared.StreamType.TheVariants.{TransportStream}
use Rattle.infoword.specs.Word.{filled}
use Rattle.infoword.proofs.Types.{number_of}
use Rattle.encapsulation.specs.Steps.{carried}
use Rattle.encapsulation.specs.Writing.{written}
use Rattle.write_faults.proofs.Faults.{allowed}
use Rattle.encapsulation.proofs.Laid.{lent_most, laid}
use Rattle.encapsulation.proofs.write.Goals as goal

pub returns-in_err-refusal : goal.returns-in_err-refusal
unfolding written
returns-in_err-refusal c =
    let p = err_from_is_err_and c.from_residual.result c.from_residual.ensures.1 in
    let left = refusal_leaves _ _ _ c.in_err-refusal.ensures (number_not_0 c.in_err-refusal.field-0.0) in
    (rw (p.1, p.2) left, omega (arith, c.ranges.id))

pub unwrap-word-requires : goal.unwrap-word-requires
unwrap-word-requires c = c.as_mut_array.ensures.variant.1 (allowed c.in_ok-refusal.ensures).word_is

pub fill-requires : goal.fill-requires
fill-requires c =
    let a = c.args in
    let f = allowed c.in_ok-refusal.ensures in
    omega (arith, f.payload_is, lent_most a.kind a.count f.count_is)

pub carry-requires : goal.carry-requires
carry-requires c =
    let f = allowed c.in_ok-refusal.ensures in
    λ e.
    let two : c.args.kind ≡ 2 = omega (arith, number_of c.args.kind c.from.result TransportStream c.from.ensures e) in
    (f.count_is two, f.null_is two)

pub overflow_mul-kind : goal.overflow_mul-kind
overflow_mul-kind c = omega (arith, (allowed c.in_ok-refusal.ensures).kind_is)

pub overflow_add-from : goal.overflow_add-from
overflow_add-from c = omega (arith, (allowed c.in_ok-refusal.ensures).kind_is)

pub returns : goal.returns
unfolding written
returns c =
    let a = c.args in
    let f = allowed c.in_ok-refusal.ensures in
    let same = (MatchOption-at_some _ _ _ c.unwrap-word.ensures c.as_mut_array.ensures.cases).same in
    let id : c.from-2.result ≡ a.id = c.from-2.ensures in
    let closed = rw id at c.close.ensures in (
      acceptance_leaves _ _ _ (sym c.in_ok-refusal.ensures)
          (laid a.kind a.id a.count a.payload.now a.null.now a.word.now c.fill.new.word c.carry.new.word c.close.new.word
          f (omega (arith, c.ranges.id))
          (c.fill.ensures ∙ ap (λ (w : List ℕ). filled 1532 a.payload.now ++ drop 1532 w) same)
          (c.carry.ensures ∙ ap (λ (t : StreamType). carried t a.count a.null.now c.fill.new.word) c.from.ensures)
          closed),
      omega (arith, c.ranges.id),
    )
