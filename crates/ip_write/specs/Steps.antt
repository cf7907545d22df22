-- What the writer's functions promise each other: a payload is laid up to a place, from the queue up to a place.
-- Assumes nothing.
use Rattle.std.specs.Prelude.{ℕ, ◌+◌, ◌-◌, ◌*◌, ◌≤◌, ◌<◌, ◌≡◌, List, ◌++◌, length, take}
use Rattle.ip.specs.Packet.{Packet, header}
use Rattle.ip.specs.Write.{Filled, fill, word_fill}
use Rattle.ip.specs.Memory.{queue}
use Rattle.ip_queue.specs.Places.{queue_at, length_at}

-- a packet's header as one number: IP_Packet_Type, IP_Packet_Error, IP_Packet_Length, RFU 0 (table 6)
abbrev pub header_number : ℕ → ℕ → ℕ → ℕ
header_number kind error n = kind * 16384 + error * 8192 + n * 2

-- a packet in the stream with the first n bytes of its data
abbrev pub begun_with : ℕ → Packet → List ℕ
begun_with n p = header p ++ take n p.bytes

-- the packet at a place is there, and so are all that follow
abbrev pub Waits : List ℕ → ℕ → Type 0
Waits q from = ((queue_at q from).number ≡ 0) × (from < length q)

-- what goes into the payload from a place on, where the queue is done with up to a place
abbrev pub fill_at : List ℕ → ℕ → ℕ → Filled
fill_at q at from = fill (1504 - at) 0 (queue_at q from).packets

-- up to where the queue is then done with
abbrev pub done_at : List ℕ → ℕ → ℕ → ℕ
done_at q at from = from + length (queue (take (fill_at q at from).done (queue_at q from).packets))

-- the payload m is laid up to at, from the queue q up to from
pub record Laid (q m : List ℕ) (at from : ℕ) : Type 0 where
  pub size : length m ≡ 1504
  pub at_most : at ≤ 1504
  pub from_most : from ≤ length q
  pub small : from ≤ 4099 + 2 * at
  pub clean : (queue_at q from).number ≡ 0

-- from one such place to another: what the whole payload holds in the end, and what is then done with, is the same
pub record Same (q m : List ℕ) (at from : ℕ) (m' : List ℕ) (at' from' : ℕ) : Type 0 where
  pub bytes : take at' m' ++ (fill_at q at' from').bytes ≡ take at m ++ (fill_at q at from).bytes
  pub done : done_at q at' from' ≡ done_at q at from
  pub sent : (fill_at q at' from').sent ≡ (fill_at q at from).sent

-- no packet waits that would fit as a whole
abbrev pub NoneFits : List ℕ → ℕ → ℕ → Type 0
NoneFits q at from = from < length q → 1504 - at < length_at q from + 2

-- the payload is filled from there to its end, with the queue done with up to d, and s of the packet that is then first sent
pub record Ended (q m : List ℕ) (at from : ℕ) (m' : List ℕ) (d s : ℕ) : Type 0 where
  pub bytes : m' ≡ take at m ++ (fill_at q at from).bytes
  pub done : d ≡ done_at q at from
  pub sent : s ≡ (fill_at q at from).sent

-- a word's payload m from these packets, and how many bytes of the queue (d) and how much of the packet that is then first (s) are sent with it
pub record Carries (sent : ℕ) (q : List Packet) (m : List ℕ) (d s : ℕ) : Type 0 where
  pub bytes : m ≡ (word_fill sent q).bytes
  pub done : d ≡ length (queue (take (word_fill sent q).done q))
  pub rest : s ≡ (word_fill sent q).sent
