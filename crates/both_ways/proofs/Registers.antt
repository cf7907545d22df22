-- The register of HeaderCRC over a header whose Encap_Ver is zero, and sums of such registers.
-- Assumes nothing.
use Prim.Native.Nat.{ℕ, ◌-◌, ◌<◌}
use mathlib.Core.Path.{◌≡◌, refl, sym, ap, ap₂, ◌∙◌}
use mathlib.Core.List.{List, ◌++◌}
use native.Mathlib.Omega.{arith}
use lib.ListN.{length}
use lib.Bits.{bit_xor}
use Rattle.bits.specs.Lists.{bits}
use Rattle.bits.specs.Places.{field_at}
use Rattle.bits.proofs.Lists.{bits_length}
use Rattle.bits.proofs.Sums.{bits_xor}
use Rattle.crc.specs.Crc.{clock, clocks, crc_of}
use Rattle.crc.proofs.Linear.{clocks_sum}
use Rattle.crc.proofs.Laws.{clocks_lt, clocks_append}
use Rattle.infoword.specs.Suffix.{id_of, kind_of, version_of, lead_bits, covered_of, header_crc, header}
use Rattle.infoword.proofs.Ending.{lead_of, covered_fields}

-- the register after STS_ID, and from there after the stream type and Encap_Ver
unfoldable pub before : ℕ → ℕ → ℕ
before r id = clocks 128 0x2F r (bits 8 id)

unfoldable pub behind : ℕ → ℕ → ℕ
behind r kind = clocks 128 0x2F (clocks 128 0x2F r (bits 3 kind)) (bits 3 0)

-- u stands before STS_ID, in n bits
pub register : (n u id kind : ℕ) → header_crc (header (bits n u) id kind 0) ≡ 255 - behind (before (clocks 128 0x2F 255 (bits n u)) id) kind
unfolding header_crc crc_of header before behind
register n u id kind =
    ap (λ (x : ℕ). 255 - x)
    (clocks_append 128 0x2F 255 ((bits n u ++ bits 8 id) ++ bits 3 kind) (bits 3 0)
    ∙ ap (λ (x : ℕ). clocks 128 0x2F x (bits 3 0))
    (clocks_append 128 0x2F 255 (bits n u ++ bits 8 id) (bits 3 kind)
    ∙ ap (λ (x : ℕ). clocks 128 0x2F x (bits 3 kind)) (clocks_append 128 0x2F 255 (bits n u) (bits 8 id))))

-- after what stands before STS_ID: 32 bits in types 2 and 3, 4 in any other
pub of_46 : clocks 128 0x2F 255 (bits 32 0) ≡ 0xED
unfolding clocks clock bits
of_46 = refl

pub of_18 : clocks 128 0x2F 255 (bits 4 0) ≡ 0x6A
unfolding clocks clock bits
of_18 = refl

pub behind_lt : (r id kind : ℕ) → r < 256 → behind (before r id) kind < 256
unfolding behind before
behind_lt r id kind h = run 3 0 (run 3 kind (run 8 id h))
  where
    run : {r : ℕ} (n v : ℕ) → r < 256 → clocks 128 0x2F r (bits n v) < 256
    run {r} n v h = clocks_lt 8 0x2F r (bits n v) (omega arith) (omega arith) h

-- the covered bits of a word in which u stands before STS_ID, in r bits, and whose Encap_Ver is zero
pub covered_of_lem : (x : List ℕ) (r u : ℕ) → length x ≡ 1536 → lead_bits (kind_of x) ≡ r → field_at x (12260 - r) r ≡ u → version_of x ≡ 0 → covered_of x ≡ header (bits r u) (id_of x) (kind_of x) 0
unfolding lead_of
covered_of_lem x r u n e f v =
    covered_fields x n
    ∙ ap₂ (λ (a b : ℕ). header (bits a (field_at x (12260 - a) a)) (id_of x) (kind_of x) b) e v
    ∙ ap (λ (a : ℕ). header (bits r a) (id_of x) (kind_of x) 0) f

-- sums of registers
pub run_sum : (n r s a b : ℕ) → clocks 128 0x2F (bit_xor r s) (bits n (bit_xor a b)) ≡ bit_xor (clocks 128 0x2F r (bits n a)) (clocks 128 0x2F s (bits n b))
run_sum n r s a b =
    ap (clocks 128 0x2F (bit_xor r s)) (bits_xor n a b)
    ∙ clocks_sum 8 0x2F (omega arith) r s (bits n a) (bits n b) (bits_length n a ∙ sym (bits_length n b))

pub header_sum : (r s i j k l : ℕ) → behind (before (bit_xor r s) (bit_xor i j)) (bit_xor k l) ≡ bit_xor (behind (before r i) k) (behind (before s j) l)
unfolding before behind
header_sum r s i j k l =
    ap (λ (x : ℕ). clocks 128 0x2F (clocks 128 0x2F x (bits 3 (bit_xor k l))) (bits 3 0)) (run_sum 8 r s i j)
    ∙ ap (λ (x : ℕ). clocks 128 0x2F x (bits 3 0)) (run_sum 3 (clocks 128 0x2F r (bits 8 i)) (clocks 128 0x2F s (bits 8 j)) k l)
    ∙ run_sum 3 (clocks 128 0x2F (clocks 128 0x2F r (bits 8 i)) (bits 3 k)) (clocks 128 0x2F (clocks 128 0x2F s (bits 8 j)) (bits 3 l)) 0 0
