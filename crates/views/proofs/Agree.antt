-- Of every public function of this crate: any two outcomes that its promise allows agree.
-- Assumes nothing.
use mathlib.Core.Path.{◌≡◌}
use contract.Lifetimes.{Lfts}
use borrow.Fn.World.{ArgsD, ResD}
use borrow.Fn.Kinds.{ended_of}
use denote.Triple.Clauses.{AtExit}
use Rattle.ground.proofs.Outcome.{same}
use Rattle.views.specs.contracts.of_word as of_word
use Rattle.views.proofs.of_word.Kinds as of_word_kinds
use Rattle.views.proofs.of_word.Reads as of_word_reads
use Rattle.views.specs.contracts.of_sheet as of_sheet
use Rattle.views.proofs.of_sheet.Kinds as of_sheet_kinds
use Rattle.views.proofs.of_sheet.Reads as of_sheet_reads
use Rattle.views.specs.contracts.lists_end as lists_end
use Rattle.views.proofs.lists_end.Kinds as lists_end_kinds
use Rattle.views.proofs.lists_end.Reads as lists_end_reads

module _ (κs : Lfts 0) (a : ArgsD of_word.signature κs) where
  pub of_word_agrees : (r r' : ResD of_word.signature κs) (s s' : AtExit (ended_of 0 of_word_kinds.ps of_word_kinds.r) κs) →
      of_word_reads.Post κs a r s → of_word_reads.Post κs a r' s' → r ≡ r'
  of_word_agrees r r' s s' p q = same p q

module _ (κs : Lfts 0) (a : ArgsD of_sheet.signature κs) where
  pub of_sheet_agrees : (r r' : ResD of_sheet.signature κs) (s s' : AtExit (ended_of 0 of_sheet_kinds.ps of_sheet_kinds.r) κs) →
      of_sheet_reads.Post κs a r s → of_sheet_reads.Post κs a r' s' → r ≡ r'
  of_sheet_agrees r r' s s' p q = same p q

module _ (κs : Lfts 0) (a : ArgsD lists_end.signature κs) where
  pub lists_end_agrees : (r r' : ResD lists_end.signature κs) (s s' : AtExit (ended_of 0 lists_end_kinds.ps lists_end_kinds.r) κs) →
      lists_end_reads.Post κs a r s → lists_end_reads.Post κs a r' s' → r ≡ r'
  lists_end_agrees r r' s s' p q = same p q
