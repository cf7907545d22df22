-- Laws of which types have Parity_Parts, and of how far the CRC reaches.
-- Assumes nothing.
use Prim.Native.Nat.{ℕ, zero, suc, ◌-◌, ◌≤◌}
use mathlib.Core.Bool.{Bool, true, false}
use mathlib.Core.Path.{◌≡◌, refl, sym, ap}
use mathlib.Core.List.{List}
use native.Mathlib.Omega.{arith}
use borrow.Author.Tests.{ne_eqb}
use Rattle.ground.specs.Table.{tab}
use Rattle.ground.proofs.Choice.{choose_true, choose_false, skip}
use Rattle.bits.specs.Places.{bit_at}
use Rattle.crc.specs.Crc.{crc8_of}
use Rattle.infoword.specs.Suffix.{has_parity, kind_of, covered, covered_of, header_crc}

-- types 2 and 3 have Parity_Parts, and no other
pub has_2 : (kind : ℕ) → kind ≡ 2 → has_parity kind ≡ true
has_2 kind e = ap has_parity e

pub has_3 : (kind : ℕ) → kind ≡ 3 → has_parity kind ≡ true
has_3 kind e = ap has_parity e

pub has_from : (kind : ℕ) → 2 ≤ kind → kind ≤ 3 → has_parity kind ≡ true
has_from zero l h = absurd (omega arith)
has_from (suc zero) l h = absurd (omega arith)
has_from (suc (suc zero)) l h = refl
has_from (suc (suc (suc zero))) l h = refl
has_from (suc (suc (suc (suc k)))) l h = absurd (omega arith)

pub has_not : (kind : ℕ) → (kind ≡ 2 → ⊥) → (kind ≡ 3 → ⊥) → has_parity kind ≡ false
has_not kind m n = skip (ne_eqb kind 2 m) (ne_eqb kind 3 n)

pub by_parity : {A : Type 0} (kind : ℕ) → (has_parity kind ≡ true → A) → (has_parity kind ≡ false → A) → A
by_parity {A} kind f g = go (has_parity kind) refl
  where
    go : (b : Bool) → has_parity kind ≡ b → A
    go true e = f e
    go false e = g e

-- 46 bits where a type has them
pub covered_long : (kind : ℕ) → has_parity kind ≡ true → covered kind ≡ 46
unfolding covered
covered_long kind e = choose_true 46 18 e

-- and 18 where not
pub covered_short : (kind : ℕ) → has_parity kind ≡ false → covered kind ≡ 18
unfolding covered
covered_short kind e = choose_false 46 18 e

pub covered_run : (w : List ℕ) (n : ℕ) → covered (kind_of w) ≡ n → covered_of w ≡ tab (bit_at w) (12274 - n) n
unfolding covered_of
covered_run w n e = ap (λ (k : ℕ). tab (bit_at w) (12274 - k) k) e

-- the CRC over so many bits
pub crc_over : (w : List ℕ) (n : ℕ) → covered (kind_of w) ≡ n → crc8_of w (12274 - n) n ≡ header_crc (covered_of w)
unfolding header_crc crc8_of
crc_over w n e = ap header_crc (sym (covered_run w n e))
