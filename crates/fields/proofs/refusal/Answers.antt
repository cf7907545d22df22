-- `fields::refusal` meets its contract. Assumes nothing.
use Prim.Native.Nat.{ℕ, ◌≤◌}
use mathlib.Core.Path.{◌≡◌, sym, ap, ◌∙◌}
use native.Mathlib.Omega.{arith}
use mathlib.Core.Bool.{Bool}
use mathlib.Core.List.{List}
use borrow.Author.Rules.{rules}
use lib.Dec.{eqb}
use Rattle.ground.specs.Choice.{choose, both}
use Rattle.infoword.specs.declared.StreamType.TheVariants.{Other}
use Rattle.infoword.specs.Suffix.{kind_of, address_of}
use Rattle.infoword.proofs.Types.{number_of, known}
use Rattle.fields.specs.Report.{no_header_at}
use Rattle.fields.proofs.Faults.{read_1, read_2, read_5, read_16, read_15, read_18, read_0, address_looked_at}
use Rattle.fields.proofs.refusal.Goals as goal

-- what was found of the address
found : {b : Bool} (k : ℕ) (w : List ℕ) → k ≡ kind_of w → b ≡ no_header_at (choose (eqb k 3) (address_of w) 0) → b ≡ both (eqb (kind_of w) 3) (no_header_at (address_of w))
found k w e h = h ∙ ap (λ (x : ℕ). no_header_at (choose (eqb x 3) (address_of w) 0)) e ∙ address_looked_at (eqb (kind_of w) 3) (address_of w)

pub returns-then-word-ne-PAYLOAD_WORD : goal.returns-then-word-ne-PAYLOAD_WORD
returns-then-word-ne-PAYLOAD_WORD c = read_1 c.args.word.now c.if-word-ne-PAYLOAD_WORD.true

pub returns-then-field-ne0 : goal.returns-then-field-ne0
returns-then-field-ne0 c = read_2 c.args.word.now (cc) (λ e. c.if-field-ne0.true (c.field.ensures ∙ e))

pub returns-then-field-from : goal.returns-then-field-from
returns-then-field-from c = read_5 c.args.word.now (cc) (cc) (λ e. c.if-field-from.true (cc))

pub returns-then-field-ne0-2 : goal.returns-then-field-ne0-2
returns-then-field-ne0-2 c = read_16 c.args.word.now (cc) (cc) (cc) (omega (arith, c.field-3.ensures))

pub returns-then-eq : goal.returns-then-eq
returns-then-eq c =
    let other : c.from-2.result ≡ Other = search rules in
    read_15 c.args.word.now (cc) (cc) (cc) (cc) (omega (arith, number_of c.field-kind.result c.from-2.result Other c.from-2.ensures other, c.field-kind.ensures))

pub returns-then-no_header_at : goal.returns-then-no_header_at
returns-then-no_header_at c =
    let w = c.args.word.now in
    let other : c.from-2.result ≡ Other → ⊥ = search rules in
    let kind : kind_of w ≤ 3 = omega (arith, known c.field-kind.result c.from-2.result c.from-2.ensures other, c.field-kind.ensures) in
    read_18 w (cc) (cc) (cc) (cc) kind (sym (found c.field-kind.result w c.field-kind.ensures (c.no_header_at.ensures ∙ ap no_header_at c.address_of.ensures.0)) ∙ c.if-no_header_at.true)

pub returns : goal.returns
returns c =
    let w = c.args.word.now in
    let other : c.from-2.result ≡ Other → ⊥ = search rules in
    read_0 w (record {
      word_is = (cc);
      spare_is = (cc);
      crc_is = (cc);
      version_is = (cc);
      kind_is = omega (arith, known c.field-kind.result c.from-2.result c.from-2.ensures other, c.field-kind.ensures);
      address_is = sym (found c.field-kind.result w c.field-kind.ensures (c.no_header_at.ensures ∙ ap no_header_at c.address_of.ensures.0)) ∙ c.if-no_header_at.false;
    })
