-- Laws of lists whose entries are all below a bound.
-- Assumes nothing.
use Prim.Native.Nat.{ℕ, zero, suc, ◌<◌}
use mathlib.Core.List.{List, [], ◌∷◌, ◌++◌}
use lib.ListN.{get_or, take, drop, replicate}
use Rattle.ground.specs.Table.{tab}
use Rattle.bits.specs.Lists.{Below}

pub below_append : (m : ℕ) (a b : List ℕ) → Below m a → Below m b → Below m (a ++ b)
below_append m [] b p q = q
below_append m (x ∷ a) b p q = (p.0, below_append m a b p.1 q)

pub below_take : (m n : ℕ) (l : List ℕ) → Below m l → Below m (take n l)
below_take m zero l h = tt
below_take m (suc n) [] h = tt
below_take m (suc n) (x ∷ l) h = (h.0, below_take m n l h.1)

pub below_drop : (m n : ℕ) (l : List ℕ) → Below m l → Below m (drop n l)
below_drop m zero l h = h
below_drop m (suc n) [] h = tt
below_drop m (suc n) (x ∷ l) h = below_drop m n l h.1

pub below_get : (m : ℕ) (l : List ℕ) (i : ℕ) → 0 < m → Below m l → get_or l i 0 < m
below_get m [] i z h = z
below_get m (x ∷ l) zero z h = h.0
below_get m (x ∷ l) (suc i) z h = below_get m l i z h.1

pub below_of : (m : ℕ) (l : List ℕ) → ((i : ℕ) → get_or l i 0 < m) → Below m l
below_of m [] h = tt
below_of m (x ∷ l) h = (h 0, below_of m l (λ i. h (suc i)))

pub below_replicate : (m n x : ℕ) → x < m → Below m (replicate n x)
below_replicate m zero x h = tt
below_replicate m (suc n) x h = (h, below_replicate m n x h)

pub below_tab : (m : ℕ) (f : ℕ → ℕ) → ((k : ℕ) → f k < m) → (i n : ℕ) → Below m (tab f i n)
unfolding tab
below_tab m f h i zero = tt
below_tab m f h i (suc n) = (h i, below_tab m f h (suc i) n)
