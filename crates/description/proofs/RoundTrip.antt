-- Round trips over the definitions: a word that is read, and its sheet written, comes back; a sheet that is written, and its word read, comes back; two sheets with one word are one sheet.
-- Assumes nothing.
use Prim.Native.Nat.{ℕ, ◌≤◌}
use mathlib.Core.Path.{◌≡◌, refl, sym, ap, ◌∙◌}
use mathlib.Core.Bool.{not}
use mathlib.Core.List.{List}
use native.Mathlib.Nat.{div-add-mod'}
use native.Mathlib.Omega.{arith}
use lib.Dec.{eqb}
use lib.ListN.{length, take, drop}
use lib.Seq.{take_at}
use Rattle.ground.specs.Outcome.{Outcome, Is, number_of}
use Rattle.ground.specs.Choice.{refuse, first_of}
use Rattle.ground.proofs.Choice.{first_past}
use Rattle.bits.specs.Lists.{Below, unpack}
use Rattle.bits.proofs.Lists.{pack_length}
use Rattle.description.specs.Description.{Description, lists_of}
use Rattle.description.specs.Rules.{Keeps}
use Rattle.description.specs.Layout.{word_of, layout}
use Rattle.description.specs.Sheet.{form1, sheet_end, header, sheet_of, sheet}
use Rattle.description.specs.Word.{word_faults, front, reading}
use Rattle.description.specs.Demand.{sheet_in, WordBack, SheetBack, OneSheet}
use Rattle.description.specs.Form1.{sheet_faults, write_refusal, writing}
use Rattle.description.proofs.Demand.{described, keeps_described, layout_described, accepted_layout, the_sheet, only_one, lengths_right, lengths_known, accepted_outcome, number_zero}
use Rattle.description.proofs.Form1.{sheet_length}
use Rattle.description.proofs.DemandWrite.{stated, keeps_stated, sheet_of_stated, clear_sheet, word_of_sheet, the_word, length_right, accepted_writing, writing_number}

-- what the writer gives for an accepted sheet
abbrev pub wrote : List ℕ → Outcome ℕ (List ℕ)
wrote w = record { answer = 0; memory = w }

sheet_in_lem : (d : Description) (out : List ℕ) → sheet_in (front (sheet d) out) ≡ sheet d
unfolding sheet sheet_of header
sheet_in_lem d out =
    let l = lists_of d in
    let n : ℕ = sheet_end form1 (length l.pipes) (length l.streams) (length l.sections) in
    let room : List ℕ = front (sheet d) out in
    ap (λ (k : ℕ). take k room) (div-add-mod' n 256) ∙ take_at (sheet d) (drop (length (sheet d)) out) n (sheet_length l)

-- ---- a description that keeps the rules, both ways
module _ (d : Description) (k : Keeps d) where
  pub sheet_written : (word : List ℕ) → length word ≡ 96 → writing (sheet d) word ≡ wrote (layout d)
  sheet_written word n = accepted_writing (sheet d) word (length_right (sheet d) word n ∙ clear_sheet d k) ∙ ap wrote (word_of_sheet d k)

  pub layout_read : (out : List ℕ) → 128 ≤ length out → ((reading (layout d) out).answer.number ≡ 0) × ((reading (layout d) out).memory ≡ front (sheet d) out)
  unfolding layout word_of
  layout_read out room =
      let a = accepted_outcome (layout d) out (lengths_right (layout d) out (pack_length 96 _) room ∙ accepted_layout d k) in
      (a.0, a.1 ∙ ap (λ (x : List ℕ). front x out) (the_sheet (layout d) d k refl))

-- ---- what is accepted is a description's that keeps the rules
module _ (w out : List ℕ) (bytes : Below 256 w) (z : (reading w out).answer.number ≡ 0) where
  known : (length w ≡ 96) × (128 ≤ length out) × (first_of (word_faults (unpack w)) ≡ 0)
  known = lengths_known w out (number_zero w out z)

  kept : Keeps (described w)
  kept = keeps_described w bytes known.0 known.2

  laid : layout (described w) ≡ w
  laid = layout_described w bytes known.0 known.2

  -- write after read: the word is back
  pub write_after_read : (word : List ℕ) → length word ≡ 96 → writing (sheet_in (reading w out).memory) word ≡ wrote w
  write_after_read word n =
      let d : Description = described w in
      let m : (reading w out).memory ≡ front (sheet d) out = ap (λ (x : List ℕ). (reading x out).memory) (sym laid) ∙ (layout_read d kept out known.1).1 in
      ap (λ (x : List ℕ). writing (sheet_in x) word) m ∙ ap (λ (x : List ℕ). writing x word) (sheet_in_lem d out) ∙ sheet_written d kept word n ∙ ap wrote laid

module _ (sh word : List ℕ) (bytes : Below 256 sh) (z : (writing sh word).answer ≡ 0) where
  clear : first_of (sheet_faults sh) ≡ 0
  unfolding write_refusal
  clear = (first_past (refuse 1 (not (eqb (length word) 96))) (sheet_faults sh) (omega arith) (sym (writing_number sh word) ∙ z)).1

  pub word_written : ((writing sh word).memory ≡ layout (stated sh)) × Keeps (stated sh) × (sheet (stated sh) ≡ sh)
  word_written =
      let e : sheet (stated sh) ≡ sh = sheet_of_stated sh clear bytes in
      (ap (λ o. o.memory) (accepted_writing sh word (sym (writing_number sh word) ∙ z)) ∙ the_word sh (stated sh) (keeps_stated sh clear) e, keeps_stated sh clear, e)

  -- read after write: the sheet is back, at the front of the room
  pub read_after_write : (out : List ℕ) → 128 ≤ length out
      → ((reading (writing sh word).memory out).answer.number ≡ 0) × ((reading (writing sh word).memory out).memory ≡ front sh out)
  read_after_write out room =
      let r = layout_read (stated sh) word_written.1 out room in (
        ap (λ (x : List ℕ). (reading x out).answer.number) word_written.0 ∙ r.0,
        ap (λ (x : List ℕ). (reading x out).memory) word_written.0 ∙ r.1 ∙ ap (λ (x : List ℕ). front x out) word_written.2,
      )

-- two accepted sheets with one word are one sheet
pub one_sheet : (sh sh' word word' : List ℕ) → Below 256 sh → Below 256 sh' → (writing sh word).answer ≡ 0 → (writing sh' word').answer ≡ 0
    → (writing sh word).memory ≡ (writing sh' word').memory → sh ≡ sh'
one_sheet sh sh' word word' b b' z z' e =
    let a = word_written sh word b z in
    let a' = word_written sh' word' b' z' in
    sym a.2 ∙ ap sheet (only_one (layout (stated sh)) (stated sh) (stated sh') a.1 a'.1 refl (sym a'.0 ∙ sym e ∙ a.0)) ∙ a'.2

-- ---- the same of any numbers and memory that these outcomes allow
pub word_back : (w out room sh word after : List ℕ) (n m : ℕ) → Is (number_of (reading w out)) n room → Is (writing sh word) m after
    → Below 256 w → length word ≡ 96 → WordBack w n room sh m after
word_back w out room sh word after n m p q bytes k z e =
    let f : writing sh word ≡ wrote w =
    ap (λ (x : List ℕ). writing x word) (e ∙ ap sheet_in p.memory) ∙ write_after_read w out bytes (sym p.answer ∙ z) word k in
    (q.answer ∙ ap (λ o. o.answer) f, q.memory ∙ ap (λ o. o.memory) f)

pub sheet_back : (sh word after w out room : List ℕ) (n m : ℕ) → Is (writing sh word) n after → Is (number_of (reading w out)) m room
    → Below 256 sh → 128 ≤ length out → SheetBack sh n after w out m room
sheet_back sh word after w out room n m p q bytes k z e =
    let f : w ≡ (writing sh word).memory = e ∙ p.memory in
    let r = read_after_write sh word bytes (sym p.answer ∙ z) out k in
    (q.answer ∙ ap (λ (x : List ℕ). (reading x out).answer.number) f ∙ r.0, q.memory ∙ ap (λ (x : List ℕ). (reading x out).memory) f ∙ r.1)

pub same_sheet : (sh sh' word word' after after' : List ℕ) (n n' : ℕ) → Is (writing sh word) n after → Is (writing sh' word') n' after'
    → Below 256 sh → Below 256 sh' → OneSheet sh n after sh' n' after'
same_sheet sh sh' word word' after after' n n' p q b b' z z' e =
    one_sheet sh sh' word word' b b' (sym p.answer ∙ z) (sym q.answer ∙ z') (sym p.memory ∙ e ∙ q.memory)
