-- Laws of Parity_Parts: each number of 49 bits in its place.
-- Assumes nothing.
use Prim.Native.Nat.{ℕ, zero, suc, ◌+◌, ◌*◌, ◌^◌, ◌<◌}
use mathlib.Core.Path.{◌≡◌, refl, sym, ap, ◌∙◌}
use mathlib.Core.List.{List, [], ◌∷◌, ◌++◌, append_assoc}
use native.Mathlib.Omega.{arith}
use lib.ListN.{length, get_or, take, drop, length-append}
use lib.Seq.{take_at, drop_at, drop-drop}
use Rattle.ground.specs.Table.{tab}
use Rattle.bits.specs.Lists.{bits, Below}
use Rattle.bits.proofs.Below.{below_append}
use Rattle.bits.proofs.Lists.{bits_length, bits_below}
use Rattle.bits.proofs.Joined.{run_below}
use Rattle.parity.specs.Part.{parity_of, message_at, part_of, parts_of}
use Rattle.parity.proofs.Laws.{part_lt}
use Rattle.infoword.specs.Word.{fields49}

pub fields49_length : (l : List ℕ) → length (fields49 l) ≡ 49 * length l
unfolding fields49
fields49_length [] = refl
fields49_length (v ∷ l) = length-append (bits 49 v) (fields49 l) ∙ omega (arith, bits_length 49 v, fields49_length l)

pub fields49_below : (l : List ℕ) → Below 2 (fields49 l)
unfolding fields49
fields49_below [] = tt
fields49_below (v ∷ l) = below_append 2 (bits 49 v) (fields49 l) (bits_below 49 v) (fields49_below l)

-- the number k, whatever stands behind them all
pub fields49_at : (l z : List ℕ) (k : ℕ) → k < length l → take 49 (drop (49 * k) (fields49 l ++ z)) ≡ bits 49 (get_or l k 0)
unfolding fields49
fields49_at [] z k h = absurd (omega arith)
fields49_at (v ∷ l) z zero h = ap (take 49) (append_assoc (bits 49 v) (fields49 l) z) ∙ take_at (bits 49 v) (fields49 l ++ z) 49 (bits_length 49 v)
fields49_at (v ∷ l) z (suc k) h =
    let e : 49 * suc k ≡ 49 + 49 * k = omega arith in
    ap (λ (x : List ℕ). take 49 (drop (49 * suc k) x)) (append_assoc (bits 49 v) (fields49 l) z)
    ∙ ap (λ (j : ℕ). take 49 (drop j (bits 49 v ++ (fields49 l ++ z)))) e
    ∙ ap (take 49) (sym (drop-drop (49 * k) 49 (bits 49 v ++ (fields49 l ++ z))) ∙ ap (drop (49 * k)) (drop_at (bits 49 v) (fields49 l ++ z) 49 (bits_length 49 v)))
    ∙ fields49_at l z k (omega arith)

-- the numbers of a word's parts
pub parts_are : (w : List ℕ) → (length (parts_of w) ≡ 4) × Below (2 ^ 49) (parts_of w)
unfolding parts_of part_of tab
parts_are w = (refl, (small 0, (small 376, (small 752, (small 1128, tt)))))
  where
    small : (from : ℕ) → parity_of (message_at w from) < 2 ^ 49
    small from = part_lt (message_at w from) (run_below w (8 * from) 3008)
