-- What is read of the memory of an open packet, and what is left of it where a word is lost.
-- Assumes nothing.
use Rattle.std.specs.Prelude.{ℕ, Bool, true, false, not, List, [], ◌∷◌, eqb, length, get_or, Result, Ok, Err}
use Rattle.ground.specs.Outcome.{Outcome}
use Rattle.ground.specs.Choice.{refuse, first_of, refusing}
use Rattle.ip.specs.Read.{none}
use Rattle.ip.specs.Memory.{open_bytes, two_at, is_open}
use Rattle.ip_open.specs.declared.Opened.{Opened}

-- the numbers in front of an open packet's bytes, and whether they are such
pub record Front : Type 0 where
  pub begun : Bool
  pub kind : ℕ
  pub error : ℕ
  pub length : ℕ
  pub sofar : ℕ

unfoldable pub opened_in : List ℕ → Front
opened_in m = record { begun = is_open m; kind = get_or m 1 0; error = get_or m 2 0; length = two_at m 4; sofar = two_at m 6 }

-- what an answer says of them: all of it, whether a packet is open or not
abbrev pub told : Result Opened Opened → Front
told (Ok o) = record { begun = true; kind = o.kind; error = o.error; length = o.length; sofar = o.sofar }
told (Err o) = record { begun = false; kind = o.kind; error = o.error; length = o.length; sofar = o.sofar }

-- a word is lost: none is open afterwards
unfoldable pub dropping : List ℕ → Outcome ℕ (List ℕ)
dropping m = refusing (first_of (refuse 1 (not (eqb (length m) 4104)) ∷ [])) (open_bytes none) m
