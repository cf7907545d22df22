-- Laws of clipping: what is clipped lies within -127 to 127, what lies there stays, and the negative is clipped to the negative. So also what a place holds.
-- Assumes nothing.
use Prim.Native.Nat.{zero, suc}
use mathlib.Core.Path.{◌≡◌, refl, sym, ap, ◌∙◌}
use mathlib.Core.Bool.{Bool, true, false, cond}
use mathlib.Core.List.{List, map}
use native.Mathlib.Omega.{arith}
use lib.Dec.{ltb, leb→le, le→leb, leb-suc-suc}
use lib.IntN.{ℤ, pos, negsuc, neg_ℤ}
use lib.Signed.{lt_z}
use borrow.Author.Tests.{ltb-false, le-ltb}
use Rattle.std.specs.Int.{int_max, int_min}
use Rattle.ground.specs.Choice.{choose}
use Rattle.ground.proofs.Choice.{choose_false, choose_ap}
use Rattle.held.specs.Held.{sum, clip, held, Within}
use Rattle.held.proofs.Sums.{sum_neg}

-- no value that a place can hold lacks its negative
pub within_neg : (x : ℤ) → Within x → Within (neg_ℤ x)
within_neg (pos zero) h = h
within_neg (pos (suc a)) h = (record { le = le→leb a 126 (omega (arith, leb→le (suc a) 127 h.1.le)) }, record { le = tt })
within_neg (negsuc a) h = (record { le = tt }, record { le = le→leb (suc a) 127 (omega (arith, leb→le a 126 h.0.le)) })

-- neither of the two tests holds
pub not_clipped : (x : ℤ) → lt_z x (negsuc 126) ≡ false → lt_z (pos 127) x ≡ false → Within x
not_clipped (pos a) l g = (record { le = tt }, record { le = le→leb a 127 (ltb-false 127 a g) })
not_clipped (negsuc a) l g = (record { le = le→leb a 126 (ltb-false 126 a l) }, record { le = tt })

pub clip_same : (x : ℤ) → Within x → clip x ≡ x
unfolding clip
clip_same (pos a) h = choose_false (pos 127) (pos a) (le-ltb 127 a (leb→le a 127 h.1.le))
clip_same (negsuc a) h = choose_false (negsuc 126) (negsuc a) (le-ltb 126 a (leb→le a 126 h.0.le))

pub clip_within : (x : ℤ) → Within (clip x)
unfolding clip
clip_within x = go (lt_z x (negsuc 126)) (lt_z (pos 127) x) refl refl
  where
    go : (l g : Bool) → lt_z x (negsuc 126) ≡ l → lt_z (pos 127) x ≡ g → Within (choose l (negsuc 126) (choose g (pos 127) x))
    go true g d e = (record { le = tt }, record { le = tt })
    go false true d e = (record { le = tt }, record { le = tt })
    go false false d e = not_clipped x d e

pub clip_neg : (x : ℤ) → clip (neg_ℤ x) ≡ neg_ℤ (clip x)
unfolding clip
clip_neg (pos zero) = refl
clip_neg (pos (suc a)) = ap (λ (t : Bool). choose t (negsuc 126) (negsuc a)) (sym (leb-suc-suc 127 a)) ∙ sym (choose_ap neg_ℤ (ltb 127 (suc a)) (pos 127) (pos (suc a)))
clip_neg (negsuc a) = ap (λ (t : Bool). choose t (pos 127) (pos (suc a))) (leb-suc-suc 127 a) ∙ sym (choose_ap neg_ℤ (ltb 126 a) (negsuc 126) (negsuc a))

-- the standard library's clamp to that range
pub clamp_is : (x : ℤ) → int_max (negsuc 126) (int_min x (pos 127)) ≡ clip x
unfolding clip
clamp_is (pos a) = go (ltb 127 a)
  where
    go : (t : Bool) → int_max (negsuc 126) (cond t (pos 127) (pos a)) ≡ choose t (pos 127) (pos a)
    go true = refl
    go false = refl
clamp_is (negsuc a) = go (ltb 126 a)
  where
    go : (t : Bool) → cond t (negsuc 126) (negsuc a) ≡ choose t (negsuc 126) (negsuc a)
    go true = refl
    go false = refl

-- what a place holds lies within the range, whatever its copies are
pub held_within : (l : List ℤ) → Within (held l)
unfolding held
held_within l = clip_within (sum l)

pub held_sum : (l : List ℤ) → Within (sum l) → held l ≡ sum l
unfolding held
held_sum l = clip_same (sum l)

pub held_neg : (l : List ℤ) → held (map neg_ℤ l) ≡ neg_ℤ (held l)
unfolding held
held_neg l = ap clip (sum_neg l) ∙ clip_neg (sum l)
