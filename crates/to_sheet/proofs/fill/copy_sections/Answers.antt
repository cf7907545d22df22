-- `to_sheet::fill::copy_sections` meets its contract: after k turns the two bytes of each of k sections are copied. Assumes nothing.
use Rattle.std.proofs.Common.{ℕ, List, ◌≡◌, ◌+◌, ◌-◌, ◌*◌, ◌/◌, drop, ap, ◌∙◌, rules, arith}
use borrow.Rule.Slice.PartMut.{put_mid}
use lib.Seq.{paste, paste-zero}
use Rattle.bits.specs.Lists.{unpack}
use Rattle.records.proofs.Fields.{read_lt}
use Rattle.to_sheet.proofs.Copies.{sheet_sections, section_more}
use Rattle.to_sheet.proofs.fill.copy_sections.Goals as goal

pub loop-k-init : goal.loop-k-init
loop-k-init c = let a = c.args in paste-zero a.out.now (a.to / 8) (sheet_sections a.d (drop a.at (unpack a.w.now)))

pub overflow_cast-section : goal.overflow_cast-section
overflow_cast-section c = let h = read_lt _ _ 12 (omega arith) c.field-section.ensures in search (rules, h)

pub loop-k-preserved : goal.loop-k-preserved
loop-k-preserved c =
    let a = c.args in
    let k = c.loop-k.k in
    let to : ℕ = a.to / 8 in
    ap (λ (l : List ℕ). put_mid (to + 2 * k) (to + 2 * k + 2 - (to + 2 * k)) l c.copy_from_slice.new.self) c.loop-k.invariant
    ∙ section_more a.out.now a.w.now a.at to a.d k c.field-section.result (search rules) (search rules) (search rules) (search rules)
    (c.copy_from_slice.ensures.after ∙ c.to_be_bytes.ensures) (omega arith)

pub returns : goal.returns
returns c =
    let a = c.args in
    let e : 2 * c.loop-k.k ≡ 2 * a.d = search rules in
    c.loop-k.invariant ∙ ap (paste a.out.now (a.to / 8) (sheet_sections a.d (drop a.at (unpack a.w.now)))) e
