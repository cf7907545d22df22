-- `ip_look::looking::has_stray` meets its contract. Assumes nothing.
use Prim.Native.Nat.{ℕ}
use mathlib.Core.Path.{◌∙◌}
use mathlib.Core.Bool.{not}
use lib.Dec.{eqb}
use borrow.Author.Rules.{rules}
use Rattle.std.proofs.Common.{tests}
use Rattle.std.proofs.lemmas.Iterator.{YieldsList-from_slice}
use Rattle.std.proofs.lemmas.Iterator.Search.{any_from_yields_List}
use Rattle.ip_look.proofs.Looks.{look_stray}
use Rattle.ip_look.proofs.looking.has_stray.Goals as goal

pub returns : goal.returns
returns c =
    any_from_yields_List (λ (b : ℕ). not (eqb b 255)) _ _ _ c.any.ensures.ran (YieldsList-from_slice c.args.bytes.now cc) (λ x b q k. search (rules, tests))
    ∙ look_stray c.args.bytes.now
