-- Words that differ from another in their header, or within one part: what the theorems about damage speak of.
-- Assumes nothing.
use Rattle.std.specs.Prelude.{ℕ, ◌+◌, ◌-◌, ◌*◌, ◌%◌, ◌^◌, ◌≤◌, ◌<◌, ◌≡◌, List, length, get_or, take, drop, Result, Ok}
use Rattle.bits.specs.Places.{bit_at}
use Rattle.parity.specs.Part.{received}
use Rattle.parity.specs.Claims.{distance}
use Rattle.infoword.specs.Suffix.{kind_of, covered}
use Rattle.fields.specs.declared.Header.{Header}
use Rattle.ground.specs.declared.refusal.Refusal.{Refusal}

-- v is w with another bit i of those that the CRC covers in w, from RFU to Encap_Ver
pub record OneBit (w v : List ℕ) (i : ℕ) : Type 0 where
  pub room : i < covered (kind_of w)
  pub long : length v ≡ 1536
  pub same : (k : ℕ) → (k ≡ 12274 - covered (kind_of w) + i → ⊥) → bit_at v k ≡ bit_at w k
  pub other : bit_at v (12274 - covered (kind_of w) + i) ≡ bit_at w (12274 - covered (kind_of w) + i) → ⊥

-- the bit i is not of the 3,057 bits of part k: its 376 bytes, and its 49 bits of Parity_Parts
pub record Outside (k i : ℕ) : Type 0 where
  pub packets : 3008 * k ≤ i → i < 3008 * k + 3008 → ⊥
  pub parity : 12032 + 49 * k ≤ i → i < 12032 + 49 * k + 49 → ⊥

-- v is w with an odd number of other bits, all of part k
pub record OddIn (w v : List ℕ) (k : ℕ) : Type 0 where
  pub part : k < 4
  pub long : length v ≡ 1536
  pub same : (i : ℕ) → Outside k i → bit_at v i ≡ bit_at w i
  pub odd : distance (received w k) (received v k) % 2 ≡ 1

-- the answer is a header with the fields of h, and the parity of h less the bit of part k
pub record PartSeen (h : Header) (r : Result Header Refusal) (k : ℕ) : Type 0 where
  pub now : Header
  pub read : r ≡ Ok now
  pub rfu : now.rfu ≡ h.rfu
  pub id : now.id ≡ h.id
  pub kind : now.kind ≡ h.kind
  pub version : now.version ≡ h.version
  pub parity : now.parity + 2 ^ k ≡ h.parity
  pub address : now.address ≡ h.address

-- the same in 16 bytes: the answer is 0, and the bytes m' are those of m, with byte 7 less the bit of part k
pub record PartSeenIn (m : List ℕ) (r : ℕ) (m' : List ℕ) (k : ℕ) : Type 0 where
  pub answer : r ≡ 0
  pub before : take 7 m' ≡ take 7 m
  pub parity : get_or m' 7 0 + 2 ^ k ≡ get_or m 7 0
  pub behind : drop 8 m' ≡ drop 8 m
