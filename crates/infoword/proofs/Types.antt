-- What a stream type says of its number.
-- Assumes nothing.
use Prim.Native.Nat.{ℕ, zero, suc, min, ◌≤◌}
use mathlib.Core.Path.{◌≡◌, refl, sym, ap, ◌∙◌}
use native.Mathlib.Omega.{arith}
use Rattle.infoword.specs.declared.StreamType.{StreamType}
use Rattle.infoword.specs.declared.StreamType.TheVariants.{Empty, Transparent, TransportStream, IpStream, Other}
use Rattle.infoword.specs.Types.{stream_type}

-- the number of a stream type, and 4 for any number that names none
abbrev pub number : StreamType → ℕ
number Empty = 0
number Transparent = 1
number TransportStream = 2
number IpStream = 3
number Other = 4

capped : (k : ℕ) → number (stream_type k) ≡ min k 4
capped zero = refl
capped (suc zero) = refl
capped (suc (suc zero)) = refl
capped (suc (suc (suc zero))) = refl
capped (suc (suc (suc (suc k)))) = omega arith

-- which number it was, where it is of this type
pub number_of : (k : ℕ) (t v : StreamType) → t ≡ stream_type k → t ≡ v → number v ≡ min k 4
number_of k t v e h = ap number (sym h ∙ e) ∙ capped k

-- and that it is one of the four, where it is of any type but the last
pub known : (k : ℕ) (t : StreamType) → t ≡ stream_type k → (t ≡ Other → ⊥) → k ≤ 3
known zero t e n = omega arith
known (suc zero) t e n = omega arith
known (suc (suc zero)) t e n = omega arith
known (suc (suc (suc zero))) t e n = omega arith
known (suc (suc (suc (suc k)))) t e n = absurd (n e)
