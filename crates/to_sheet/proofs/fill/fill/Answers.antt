-- `to_sheet::fill::fill` meets its contract. Assumes nothing.
use Rattle.std.proofs.Common.{ℕ, List, ◌≡◌, ◌*◌, ◌++◌, ap, ◌∙◌, length, drop, arith}
use Rattle.bits.specs.Lists.{unpack}
use Rattle.bits.proofs.Lists.{unpack_below, unpack_length}
use Rattle.description.specs.Sheet.{form1}
use Rattle.views.proofs.Views.{word_places, sheet_places}
use Rattle.sheets.proofs.Bytes.{bytes_below}
use Rattle.to_sheet.proofs.Copies.{pasted}
use Rattle.to_sheet.proofs.Fills.{filled}
use Rattle.to_sheet.proofs.fill.fill.Goals as goal

pub copy_sections-requires : goal.copy_sections-requires
copy_sections-requires c =
    let n = c.args.counts in
    let u = word_places n.p n.s _ c.of_word-from.ensures in
    let v = sheet_places form1 n.p n.s _ c.of_sheet-to.ensures in
    (omega arith, omega arith)

pub returns : goal.returns
returns c =
    let a = c.args in
    let n = a.counts in
    let w : List ℕ = a.word.now in
    let l : length (unpack w) ≡ 8 * length w = unpack_length w in
    let b = bytes_below w c.type_inv.word in
    let r = c.requires in
    let u = word_places n.p n.s _ c.of_word-from.ensures in
    let v = sheet_places form1 n.p n.s _ c.of_sheet-to.ensures in
    filled (unpack w) n.p n.s n.d (unpack_below w) r.pipes r.streams r.sections (omega arith) _ _ u v a.out.now
    (ap (λ (x : List ℕ). x ++ drop 12 a.out.now) (c.copy_from_slice.ensures.after ∙ c.header_of-head.ensures))
    (pasted w _ _ _ _ 7 b (omega arith) (omega arith) (omega arith) (omega arith) c.copy_between.ensures)
    (pasted w _ _ _ _ 2 b (omega arith) (omega arith) (omega arith) (omega arith) c.copy_between-2.ensures)
    (pasted w _ _ _ _ (6 * n.p) b (omega arith) (omega arith) (omega arith) (omega arith) c.copy_between-3.ensures)
    (pasted w _ _ _ _ (2 * n.s) b (omega arith) (omega arith) (omega arith) (omega arith) c.copy_between-4.ensures)
    c.copy_sections.ensures
