-- What the private steps of the reader find and leave. No public promise cites it.
-- Assumes nothing.
use Rattle.std.specs.Prelude.{ℕ, ◌+◌, ◌≤◌, ◌/◌, ◌%◌, ◌≡◌, List, [], ◌∷◌, ◌++◌, length, get_or, drop}
use Rattle.byte_runs.specs.Runs.{copied}
use Rattle.ip.specs.Packet.{kind_in, error_in, length_in}
use Rattle.ip.specs.Read.{Open, begun, Got, gives}
use Rattle.ip.specs.Memory.{queue, open_bytes}
use Rattle.ip_look.specs.Steps.{walk_from}
use Rattle.ip_read.specs.declared.taking.Place.{Place}

-- the four bytes before a packet that is handed out
abbrev pub four_of : ℕ → ℕ → ℕ → List ℕ
four_of t e n = t ∷ e ∷ n / 256 ∷ n % 256 ∷ []

-- the packet whose header stands at a place, open with all that follows
abbrev pub begun_at : ℕ → List ℕ → Open
begun_at at l =
    let a = get_or l at 0 in
    let b = get_or l (at + 1) 0 in
    begun (kind_in a b) (error_in a b) (length_in a b) (drop (at + 2) l)

-- the walk ends at a place: from there on nothing is refused, and no packet is whole
abbrev pub Ends : ℕ → List ℕ → Type 0
Ends at payload = walk_from at payload ≡ gives [] (walk_from at payload).after

-- the whole packets from a header on are handed out behind `start` bytes; none is left where the walk ends
pub record HandedOut (payload : List ℕ) (from start : ℕ) (before after : List ℕ) (r : Place) : Type 0 where
  pub memory : after ≡ copied (queue (walk_from from payload).packets) before start
  pub out : r.out ≡ start + length (queue (walk_from from payload).packets)
  pub ended : walk_from r.at payload ≡ gives [] (walk_from from payload).after

-- what a walk gives is handed out behind `start` bytes, and what is open afterwards is kept
pub record Followed (g : Got) (start : ℕ) (memory before after : List ℕ) (r : ℕ) : Type 0 where
  pub kept : memory ≡ open_bytes g.after
  pub packets : after ≡ copied (queue g.packets) before start
  pub out : r ≡ start + length (queue g.packets)

-- what a word gives is handed out, and what is open afterwards is kept
pub record TakenIn (g : Got) (memory before after : List ℕ) (r : ℕ) : Type 0 where
  pub kept : memory ≡ open_bytes g.after
  pub packets : after ≡ queue g.packets ++ drop (length (queue g.packets)) before
  pub out : r ≡ length (queue g.packets)
  pub most : r ≤ 6604
