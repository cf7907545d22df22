-- Lists whose rows fit their tables.
-- Assumes nothing.
use Rattle.description.specs.Rows.{Each, Row}
use Rattle.description.specs.Fields.{table15, table16, table16b, table18, table19}
use Rattle.description.specs.Description.{Lists}

pub record Sound (l : Lists) : Type 0 where
  pub multiplex : Row table15 l.multiplex
  pub pipes : Each (Row table16) l.pipes
  pub tail : Row table16b l.tail
  pub streams : Each (Row table18) l.streams
  pub sections : Each (Row table19) l.sections
