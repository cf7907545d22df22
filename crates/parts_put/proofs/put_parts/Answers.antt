-- `parts_put::put_parts` meets its contract. Assumes nothing.
use Prim.Native.Nat.{ℕ, ◌^◌}
use mathlib.Core.Path.{sym, ap, ◌∙◌, subst}
use mathlib.Core.List.{List, ◌++◌}
use native.Mathlib.Omega.{arith}
use lib.ListN.{length-take, length-drop}
use Rattle.bits.specs.Lists.{bits, pack, Below}
use Rattle.infoword.specs.Word.{fields49}
use Rattle.infoword.proofs.Fields49.{parts_are}
use Rattle.parts_put.proofs.Puts.{parted_by, parted_none}
use Rattle.parts_put.proofs.put_parts.Goals as goal

pub returns-then-word-ne-PAYLOAD_WORD : goal.returns-then-word-ne-PAYLOAD_WORD
returns-then-word-ne-PAYLOAD_WORD c =
    parted_none c.args.word.now (λ e. omega (arith, c.if-word-ne-PAYLOAD_WORD.true))

pub put-requires : goal.put-requires
put-requires c =
    let w = c.args.word.now in
    let e = c.parts-v.ensures in
    let a = parts_are w in (
      rw (length-take, length-drop) (omega (arith, c.if-word-ne-PAYLOAD_WORD.false)),
      subst (λ (l : List ℕ). Below (2 ^ 49) l) (sym e) a.1,
    )

pub returns : goal.returns
returns c =
    let w = c.args.word.now in
    parted_by w c.put.new.out (omega (arith, c.if-word-ne-PAYLOAD_WORD.false)) (c.put.ensures ∙ ap (λ (l : List ℕ). pack 28 (fields49 l ++ bits 28 0)) c.parts-v.ensures)
