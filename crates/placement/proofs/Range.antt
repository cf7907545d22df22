-- How large the sum of a place's copies gets: within -384 to 381.
-- Assumes nothing.
use Prim.Native.Nat.{ℕ, suc, ◌+◌, ◌-◌, ◌*◌, ◌≤◌, ◌<◌}
use mathlib.Core.Path.{◌≡◌, sym, ap, ◌∙◌, subst}
use mathlib.Core.Bool.{Bool, true, false, cond}
use mathlib.Core.List.{List, [], ◌∷◌}
use native.Mathlib.Nat.{zero-add}
use native.Mathlib.Decide.{dec_lt}
use native.Mathlib.Omega.{arith}
use lib.Dec.{ltb, leb→le, le→leb, lit≤}
use lib.ListN.{length, get_or, drop, length-take, get_or-eq_default}
use lib.Seq.{get_or-take, get_or-drop}
use lib.IntN.{ℤ, pos, negsuc, ◌+ℤ◌}
use lib.Signed.{◌≤ℤ◌}
use Rattle.ground.proofs.Table.{get_or_tab}
use Rattle.patterns.specs.Rows.{copies}
use Rattle.patterns.specs.Blocks.{Coded}
use Rattle.patterns.specs.Sent.{places, total, sent}
use Rattle.patterns.proofs.Blocks.{coded_bounds}
use Rattle.patterns.proofs.Groups.{copies_le}
use Rattle.placement.specs.Place.{received_from, held, placed}
use Rattle.held.specs.Held.{run}
use Rattle.placement.proofs.Accepting.{received_is}

-- a signed byte, and the sum of a place's copies
abbrev pub Byte : ℤ → Type 0
Byte v = (negsuc 127 ≤ℤ v) × (v ≤ℤ pos 127)

abbrev pub Sum : ℤ → Type 0
Sum x = (negsuc 383 ≤ℤ x) × (x ≤ℤ pos 381)

-- as large as the sum of t signed bytes
abbrev Within : ℕ → ℤ → Type 0
Within t (pos a) = a ≤ 127 * t
Within t (negsuc a) = a < 128 * t

byte_within : (v : ℤ) → Byte v → Within 1 v
byte_within (pos a) h = leb→le a 127 h.1.le
byte_within (negsuc a) h = omega (arith, leb→le a 127 h.0.le)

within_sum : (x : ℤ) → Within 3 x → Sum x
within_sum (pos a) h = (record { le = tt }, record { le = le→leb a 381 h })
within_sum (negsuc a) h = (record { le = le→leb a 383 (omega arith) }, record { le = tt })

within_mono : (s t : ℕ) (x : ℤ) → s ≤ t → Within s x → Within t x
within_mono s t (pos a) l h = omega arith
within_mono s t (negsuc a) l h = omega arith

either_sign : (t : ℕ) (c : Bool) (n m : ℕ) → n < 128 * t → m ≤ 127 * t → Within t (cond c (negsuc n) (pos m))
either_sign t true n m p q = p
either_sign t false n m p q = q

within_more : (t : ℕ) (x y : ℤ) → Within 1 x → Within t y → Within (suc t) (x +ℤ y)
within_more t (pos a) (pos b) h k = omega arith
within_more t (pos a) (negsuc b) h k = either_sign (suc t) (ltb a (suc b)) (suc b - suc a) (a - suc b) (omega arith) (omega arith)
within_more t (negsuc a) (pos b) h k = either_sign (suc t) (ltb b (suc a)) (suc a - suc b) (b - suc a) (omega arith) (omega arith)
within_more t (negsuc a) (negsuc b) h k = omega arith

held_within : (l : List ℤ) → ((i : ℕ) → Within 1 (get_or l i (pos 0))) → Within (length l) (held l)
unfolding held
held_within [] h = omega arith
held_within (v ∷ l) h = within_more (length l) v (held l) (h 0) (held_within l (λ i. h (suc i)))

run_within : (values : List ℤ) (at n : ℕ) → ((i : ℕ) → Byte (get_or values i (pos 0))) → (i : ℕ) → Within 1 (get_or (run values at n) i (pos 0))
run_within values at n h i =
    elim (dec_lt i n) [
      | yes l ↦ subst (Within 1) (sym (get_or-take n (drop at values) i (pos 0) l ∙ get_or-drop at values i (pos 0))) (byte_within (get_or values (at + i) (pos 0)) (h (at + i)))
      | no l ↦ subst (Within 1) (sym (get_or-eq_default (run values at n) (pos 0) (omega (arith, length-take n (drop at values))))) (lit≤ tt)
    ]

-- of signed bytes the sums lie within -384 to 381
pub placed_range : (p n : ℕ) (values : List ℤ) → Coded p n → ((i : ℕ) → Byte (get_or values i (pos 0))) → (k : ℕ) → k < places n → Sum (get_or (placed p n values) k (pos 0))
unfolding placed
placed_range p n values h bytes k l =
    let c : List ℤ = run values (total (copies p n) k) (copies p n k) in
    let e : get_or (placed p n values) k (pos 0) ≡ held c =
    get_or_tab (λ j. held (received_from (sent p n) values j)) (pos 0) 0 (places n) k l ∙ ap (λ (j : ℕ). held (received_from (sent p n) values j)) (zero-add k)
    ∙ ap held (received_is p n values k l) in
    let few : length c ≤ 3 = omega (arith, length-take (copies p n k) (drop (total (copies p n) k) values), copies_le p n k (coded_bounds p n h).0 l) in
    subst Sum (sym e) (within_sum (held c) (within_mono (length c) 3 (held c) few (held_within c (run_within values (total (copies p n) k) (copies p n k) bytes))))
