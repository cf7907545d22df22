-- Placement takes each value to the place that its code bit comes from: so a codeword's own bits give each lane symbol times its copies.
-- Assumes nothing.
use Prim.Native.Nat.{ℕ, zero, suc, ◌+◌, ◌-◌, ◌*◌, ◌<◌}
use mathlib.Core.Path.{◌≡◌, refl, sym, ap, ap₂, ◌∙◌, subst}
use mathlib.Core.List.{List, ◌∷◌, ◌++◌, map, map-append}
use native.Mathlib.Nat.{zero-add, zero-mul, suc-mul, add_comm}
use native.Mathlib.Omega.{arith}
use lib.ListN.{length, get_or, drop, replicate, length-map, length-take, length-drop, length-replicate, get_or-replicate}
use lib.Seq.{ext_get_or, get_or-take, get_or-drop}
use lib.IntN.{ℤ, pos, ◌+ℤ◌}
use Rattle.ground.specs.Outcome.{Is}
use Rattle.ground.proofs.Table.{get_or_tab}
use Rattle.bits.specs.Lists.{unpack}
use Rattle.patterns.specs.Rows.{copies}
use Rattle.patterns.specs.Blocks.{Coded}
use Rattle.patterns.specs.Sent.{places, spread, total, sent, sent_from, code_length}
use Rattle.patterns.proofs.Totals.{total_more, total_mono}
use Rattle.patterns.proofs.Length.{total_rule}
use Rattle.patterns.proofs.Spread.{length_spread, spread_at, From, spread_place}
use Rattle.turbo.specs.Lane.{lane_bit}
use Rattle.turbo.specs.Encode.{block_of, code_bits, codeword, encoded}
use Rattle.turbo.proofs.CodeBits.{code_count, code_unpack, encoded_zero}
use Rattle.placement.specs.Place.{received_from, held, placed, placing}
use Rattle.held.specs.Held.{run}
use Rattle.placement.proofs.Accepting.{received_is, placing_zero}

-- what a place of the lane holds
pub placed_at : (p n : ℕ) (values : List ℤ) (k : ℕ) → k < places n → get_or (placed p n values) k (pos 0) ≡ held (received_from (sent p n) values k)
unfolding placed
placed_at p n values k h =
    get_or_tab (λ j. held (received_from (sent p n) values j)) (pos 0) 0 (places n) k h ∙ ap (λ (j : ℕ). held (received_from (sent p n) values j)) (zero-add k)

held_same : (n b : ℕ) → held (replicate n (pos b)) ≡ pos (n * b)
unfolding held
held_same zero b = ap pos (sym (zero-mul b))
held_same (suc n) b = ap (λ (s : ℤ). pos b +ℤ s) (held_same n b) ∙ ap pos (sym (suc-mul n b ∙ add_comm (n * b) b))

-- of what is spread, the copies of a place
run_spread : (c : ℕ → ℕ) (x : ℕ → ℤ) (m k : ℕ) → k < m → run (spread c x m) (total c k) (c k) ≡ replicate (c k) (x k)
run_spread c x m k h =
    let s : List ℤ = spread c x m in
    let l : length (run s (total c k) (c k)) ≡ c k =
    length-take (c k) (drop (total c k) s) ∙ omega (arith, length-drop (total c k) s, length_spread c x m, total_more c k, total_mono c (k + 1) m (omega arith)) in
    ext_get_or (pos 0) (run s (total c k) (c k)) (replicate (c k) (x k)) (l ∙ sym (length-replicate (c k) (x k)))
    (λ t q.
    let r : t < c k = subst (λ (i : ℕ). t < i) l q in
    get_or-take (c k) (drop (total c k) s) t (pos 0) r ∙ get_or-drop (total c k) s t (pos 0) ∙ spread_at c x k m t (pos 0) h r ∙ sym (get_or-replicate (c k) t (x k) (pos 0) r))

map_spread : (c x : ℕ → ℕ) (m : ℕ) → map pos (spread c x m) ≡ spread c (λ k. pos (x k)) m
unfolding spread
map_spread c x zero = refl
map_spread c x (suc m) = map-append pos (spread c x m) (replicate (c m) (x m)) ∙ ap₂ (λ (a b : List ℤ). a ++ b) (map_spread c x m) (copied (c m))
  where
    copied : (n : ℕ) → map pos (replicate n (x m)) ≡ replicate n (pos (x m))
    copied zero = refl
    copied (suc n) = ap (λ (l : List ℤ). pos (x m) ∷ l) (copied n)

-- the code bits of a word, placed as values, give each symbol of its lane as often as it is sent
pub placed_code : (p n : ℕ) (w : List ℕ) (k : ℕ) → k < places n → get_or (placed p n (map pos (code_bits p n w))) k (pos 0) ≡ pos (copies p n k * lane_bit w n k)
unfolding code_bits
placed_code p n w k h =
    let c : ℕ → ℕ = copies p n in
    let x : ℕ → ℤ = λ j. pos (lane_bit w n j) in
    placed_at p n (map pos (code_bits p n w)) k h ∙ ap held (received_is p n (map pos (code_bits p n w)) k h)
    ∙ ap (λ (l : List ℤ). held (run l (total c k) (c k))) (map_spread c (lane_bit w n) (places n))
    ∙ ap held (run_spread c x (places n) k h) ∙ held_same (c k) (lane_bit w n k)

-- each value is a copy of the place that its code bit comes from
pub value_placed : (p n : ℕ) (values : List ℤ) (k : ℕ) → k < total (copies p n) (places n)
    → From (copies p n) (places n) k (sent_from p n k)
    × (get_or (received_from (sent p n) values (sent_from p n k)) (k - total (copies p n) (sent_from p n k)) (pos 0) ≡ get_or values k (pos 0))
unfolding sent_from sent
value_placed p n values k h =
    let c : ℕ → ℕ = copies p n in
    let q : ℕ = sent_from p n k in
    let f : From c (places n) k q = spread_place c (places n) k h in
    let t : ℕ = k - total c q in
    let e : total c q + t ≡ k = omega (arith, f.begun) in (
      f,
      ap (λ (l : List ℤ). get_or l t (pos 0)) (received_is p n values q f.inside) ∙ get_or-take (c q) (drop (total c q) values) t (pos 0) (omega (arith, f.within))
          ∙ get_or-drop (total c q) values t (pos 0) ∙ ap (λ (j : ℕ). get_or values j (pos 0)) e,
    )

-- after an encoding of a block of n bits that answered 0, placing the bits of its codeword, under the same pattern and into a lane of the block's length,
-- answers 0, and each place holds its symbol as often as it is sent
pub code_placed : (p n : ℕ) (w out code : List ℕ) (r : ℕ) → n ≡ block_of w → Is (encoded p w out) r code → r ≡ 0
    → (p' : ℕ) (values lane lane' : List ℤ) (r' : ℕ)
    → p' ≡ p → values ≡ map pos (unpack code) → length lane ≡ places n → Is (placing p' values lane) r' lane'
    → (r' ≡ 0) × ((k : ℕ) → k < places n → get_or lane' k (pos 0) ≡ pos (copies p n k * lane_bit w n k))
code_placed p n w out code r b o z p' values lane lane' r' ep ev el o' =
    let c = encoded_zero p w out code r o z in
    let h : Coded p n = subst (Coded p) (sym b) c.0 in
    let v : values ≡ map pos (code_bits p n w) =
    ev ∙ ap (λ (x : List ℕ). map pos (unpack x)) (c.1 ∙ ap (λ (m : ℕ). codeword p m w) (sym b)) ∙ ap (map pos) (code_unpack p n w h) in
    let l : length values ≡ code_length p n = ap length v ∙ length-map (code_bits p n w) pos ∙ code_count p n w ∙ total_rule p n h in
    let s = placing_zero p n values lane lane' r' h l el (subst (λ (i : ℕ). Is (placing i values lane) r' lane') ep o') in
    (s.0, λ k i. ap (λ (x : List ℤ). get_or x k (pos 0)) (s.1 ∙ ap (placed p n) v) ∙ placed_code p n w k i)
