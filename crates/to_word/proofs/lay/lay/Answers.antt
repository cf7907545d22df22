-- `to_word::lay::lay` meets its contract. Assumes nothing.
use native.Mathlib.Omega.{arith}
use Rattle.description.specs.Sheet.{form1}
use Rattle.views.proofs.Views.{word_places, sheet_places}
use Rattle.to_word.proofs.Parts.{laid, word_laid}
use Rattle.to_word.proofs.lay.lay.Goals as goal

pub put_sections-requires : goal.put_sections-requires
put_sections-requires c =
    let n = c.args.counts in
    let v = sheet_places form1 n.p n.s _ c.of_sheet-from.ensures in
    let u = word_places n.p n.s _ c.of_word-to.ensures in
    (omega (arith, v.apart), omega (arith, u.sections, c.requires.fits))

pub returns : goal.returns
returns c =
    let n = c.args.counts in
    let q = c.requires in
    let l = laid c.args.sheet.now n.p n.s n.d q.sheet q.fits _ _ (sheet_places form1 n.p n.s _ c.of_sheet-from.ensures) (word_places n.p n.s _ c.of_word-to.ensures) c.args.word.now c.told-word
    c.copy_between.ensures c.copy_between-2.ensures c.copy_between-3.ensures c.copy_between-4.ensures c.put_sections.ensures in
    word_laid c.args.sheet.now n.p n.s n.d q.sheet q.fits l c.seal.ensures
