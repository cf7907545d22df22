-- Laws of what the reader's stores leave: four runs of bytes in 16 zeros, and a header in them.
-- Assumes nothing.
use Prim.Native.Nat.{ℕ}
use mathlib.Core.Path.{◌≡◌, refl}
use mathlib.Core.List.{List, [], ◌∷◌, ◌++◌}
use borrow.Author.Tests.{eq-eqb}
use borrow.Rule.Slice.PartMut.{put_mid}
use lib.ListN.{length, drop, replicate}
use Rattle.std.specs.Int.{w16, w32, to_be_bytes}
use Rattle.ground.proofs.Choice.{choose_true}
use Rattle.bits.proofs.Numbers.{pack_16, pack_32}
use Rattle.header_bytes.specs.Bytes.{header_with, header_put}
use Rattle.fields.specs.declared.Header.{Header}

-- RFU, four bytes, the address and a number, and zeros behind them
pub sixteen : (h : Header) (n : ℕ) (l a b c d : List ℕ) → l ≡ replicate 16 0 → a ≡ to_be_bytes w32 h.rfu → b ≡ h.id ∷ h.kind ∷ h.version ∷ h.parity ∷ []
    → c ≡ to_be_bytes w16 h.address → d ≡ to_be_bytes w16 n
    → put_mid 10 2 (put_mid 8 2 (put_mid 4 4 (a ++ drop 4 l) b) c) d ≡ header_with h n
unfolding header_with
sixteen h n l a b c d e p q r s = rw (e, p, q, r, s) (rw (pack_32 h.rfu, pack_16 h.address, pack_16 n) refl)

-- a header that is put into 16 bytes
pub header_put_lem : (h : Header) (n : ℕ) (out : List ℕ) → length out ≡ 16 → header_put h n out ≡ header_with h n
unfolding header_put
header_put_lem h n out l = choose_true (header_with h n) out (eq-eqb (length out) 16 l)
