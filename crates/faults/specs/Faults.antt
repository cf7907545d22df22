-- The tests 9, 10 and 11 of the lists that stand where a view says, with as many sections as the pipes own.
-- Assumes nothing.
use Rattle.std.specs.Prelude.{ℕ, List}
use Rattle.ground.specs.Choice.{first_of}
use Rattle.description.specs.Description.{Lists}
use Rattle.description.specs.Tests.{list_faults}
use Rattle.views.specs.View.{lists_at}
use Rattle.views.specs.declared.View.{View}
use Rattle.sheets.specs.Owned.{owned_at}

unfoldable pub own_lists : View → ℕ → ℕ → List ℕ → Lists
own_lists v p s w = lists_at v p s (owned_at w v.pipes p).d w

-- the number of the first that finds something, and 0 where none does
unfoldable pub list_fault : View → ℕ → ℕ → List ℕ → ℕ
list_fault v p s w = first_of (list_faults (own_lists v p s w))
