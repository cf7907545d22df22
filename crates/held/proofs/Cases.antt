-- The cases of documents 01 and 02, worked out. Assumes nothing.
use mathlib.Core.Path.{◌≡◌, refl}
use mathlib.Core.List.{[], ◌∷◌}
use lib.IntN.{pos, negsuc}
use Rattle.held.specs.Held.{sum, clip, held}

-- 01: -128 in all three copies of a tail symbol (`negsuc 127` is -128): no longer -384
pub three_least : held (negsuc 127 ∷ negsuc 127 ∷ negsuc 127 ∷ []) ≡ negsuc 126
unfolding sum clip held
three_least = refl

-- 02, 2026-08: -128 of a symbol that is sent once
pub once_least : held (negsuc 127 ∷ []) ≡ negsuc 126
unfolding sum clip held
once_least = refl

-- the whole sum is clipped, once: 127 + 127 - 128 is 126, and -128 + 2 is -126
pub whole_sum : held (pos 127 ∷ pos 127 ∷ negsuc 127 ∷ []) ≡ pos 126
unfolding sum clip held
whole_sum = refl

pub least_and_more : held (negsuc 127 ∷ pos 2 ∷ []) ≡ negsuc 125
unfolding sum clip held
least_and_more = refl

-- nothing is sent
pub none_sent : held [] ≡ pos 0
unfolding sum clip held
none_sent = refl
