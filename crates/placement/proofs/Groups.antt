-- Laws of placement by groups: one symbol more, and one group more of a lane.
-- Assumes nothing.
use Prim.Native.Nat.{ℕ, zero, suc, ◌+◌, ◌*◌, ◌/◌, ◌%◌, ◌≤◌, ◌<◌}
use mathlib.Core.Path.{◌≡◌, refl, sym, ap, ap₂, ◌∙◌, subst, subst₂}
use mathlib.Core.List.{List}
use native.Mathlib.Nat.{add-zero, add_assoc}
use native.Mathlib.Numerals.{add-one}
use native.Mathlib.Omega.{arith}
use borrow.Author.Count.{below_none}
use lib.ListN.{length, get_or, set, length-set}
use lib.IntN.{ℤ, pos}
use Rattle.ground.specs.Outcome.{Outcome, Is}
use Rattle.ground.proofs.Outcome.{gave}
use Rattle.ground.proofs.Fill.{fill_more}
use Rattle.patterns.specs.Rows.{digit, copies}
use Rattle.patterns.specs.Sent.{places, total}
use Rattle.puncturing.specs.Entries.{entries}
use Rattle.patterns.proofs.Totals.{total_zero, total_more, total_mono, total_cong, total_add}
use Rattle.patterns.proofs.Groups.{data_once, tail_sent, copies_le}
use Rattle.puncturing.proofs.Lanes.{data_digit, tail_digit}
use Rattle.placement.specs.Place.{held}
use Rattle.held.specs.Held.{run}
use Rattle.placement.specs.Inside.{Once, placed_group, Placeable, Placed}

module _ (values : List ℤ) (at counts : ℕ) (lane : List ℤ) (k : ℕ) where
  pub group_none : Is (placed_group values at counts lane k 0) at lane
  unfolding placed_group
  group_none = record { answer = refl; memory = refl }

  -- one symbol more
  pub group_more : (j n : ℕ) (h : ℤ) (r : ℕ) (m : List ℤ) → Is (placed_group values at counts lane k j) r m → n ≡ digit counts j → h ≡ held (run values r n)
      → Is (placed_group values at counts lane k (j + 1)) (r + n) (set m (k + j) h)
  unfolding placed_group
  group_more j n h r m o en eh =
      let e : placed_group values at counts lane k (j + 1)
      ≡ record { answer = r + digit counts j; memory = set m (k + j) (held (run values r (digit counts j))) } =
      ap (placed_group values at counts lane k) (add-one j)
      ∙ ap₂ (λ (x : ℕ) (y : List ℤ). record { answer = x + digit counts j; memory = set y (k + j) (held (run values x (digit counts j))) }) (sym o.answer) (sym o.memory) in
      gave (e ∙ ap₂ (λ (x : ℕ) (z : ℤ). record { answer = r + x; memory = set m (k + j) z }) (sym en) (sym (eh ∙ ap (λ (x : ℕ). held (run values r x)) en)))

  pub group_length : (j : ℕ) → length (placed_group values at counts lane k j).memory ≡ length lane
  unfolding placed_group
  group_length zero = refl
  group_length (suc j) =
      let o : Outcome ℕ (List ℤ) = placed_group values at counts lane k j in
      length-set o.memory (k + j) (held (run values o.answer (digit counts j))) ∙ group_length j

  -- the next value's place
  pub group_at_lem : (j : ℕ) → (placed_group values at counts lane k j).answer ≡ at + total (digit counts) j
  unfolding placed_group total
  group_at_lem zero = sym (add-zero at)
  group_at_lem (suc j) = ap (λ (x : ℕ). x + digit counts j) (group_at_lem j) ∙ add_assoc at (total (digit counts) j) (digit counts j)

  -- as long as values are there for all five symbols, and one more, they are for the next one
  pub group_enough : {j n r : ℕ} {m : List ℤ} → Is (placed_group values at counts lane k j) r m → n ≡ digit counts j → at + total (digit counts) 5 < length values → j < 5 → r + n < length values
  group_enough {j} o e room h =
      omega (arith, o.answer ∙ group_at_lem j, e, total_more (digit counts) j, total_mono (digit counts) (j + 1) 5 (omega arith))

module _ (p n : ℕ) (values : List ℤ) where
  pub placed_none : (lane : List ℤ) → length lane ≡ places n → Placed p n values lane 0 0
  placed_none lane e =
      record { len = e; next = sym (total_zero (copies p n)); holds = below_none (λ k. get_or lane k (pos 0) ≡ held (run values (total (copies p n) k) (copies p n k))) }

  -- one place more
  pub placed_more : (lane : List ℤ) (at q m : ℕ) (h : ℤ) → Placed p n values lane at q → q < places n → m ≡ copies p n q → h ≡ held (run values at m)
      → Placed p n values (set lane q h) (at + m) (q + 1)
  placed_more lane at q m h u l em eh =
      record {
        len = length-set lane q h ∙ u.len;
        next = ap₂ ◌+◌ u.next em ∙ sym (total_more (copies p n) q);
        holds = fill_more (λ k. held (run values (total (copies p n) k) (copies p n k))) (pos 0) lane q h (omega (arith, u.len)) (eh ∙ ap₂ (λ (x y : ℕ). held (run values x y)) u.next em) u.holds;
      }

  -- the first j places of a group more: its digits are how often the five places from 5 i on are sent
  placed_symbols : (lane : List ℤ) (at i counts : ℕ) → Placed p n values lane at (5 * i) → 5 * i + 5 ≤ places n → ((j : ℕ) → j < 5 → digit counts j ≡ copies p n (5 * i + j))
      → (j : ℕ) → j ≤ 5 → Placed p n values (placed_group values at counts lane (5 * i) j).memory (placed_group values at counts lane (5 * i) j).answer (5 * i + j)
  unfolding placed_group
  placed_symbols lane at i counts u room ec zero l = subst (Placed p n values lane at) (sym (add-zero (5 * i))) u
  placed_symbols lane at i counts u room ec (suc j) l =
      let o : Outcome ℕ (List ℤ) = placed_group values at counts lane (5 * i) j in
      let e : 5 * i + j + 1 ≡ 5 * i + suc j = omega arith in
      subst (Placed p n values (set o.memory (5 * i + j) (held (run values o.answer (digit counts j)))) (o.answer + digit counts j)) e
      (placed_more o.memory o.answer (5 * i + j) (digit counts j) _ (placed_symbols lane at i counts u room ec j (omega arith)) (omega arith) (ec j (omega arith)) refl)

-- the tail's next place: the digit that is read is how often it is sent, at most three times, and its values are there
pub tail_next : {p n : ℕ} {values lane₀ lane : List ℤ} {v k c d : ℕ} {x : List ℕ} → Placeable p n values lane₀ → Placed p n values lane v (5 * n + k) → k < 30
    → x ≡ entries p → d ≡ digit (get_or x (12 + k / 5) 0) (k % 5) → c ≡ d → (c ≡ copies p n (5 * n + k)) × (v + c ≤ length values) × (c ≤ 3)
tail_next {p} {n} {k = k} {c = c} h u l e ed ec =
    let sent : c ≡ copies p n (5 * n + k) = ec ∙ ed ∙ ap (λ (y : List ℕ). digit (get_or y (12 + k / 5) 0) (k % 5)) e ∙ tail_digit p n k h.pattern l in (
      sent,
      omega (arith, u.next, h.all, sent, total_more (copies p n) (5 * n + k), total_mono (copies p n) (5 * n + k + 1) (places n) (omega arith)),
      omega (arith, sent, copies_le p n (5 * n + k) h.pattern (omega arith)),
    )

-- how many values a group takes
group_total : (c : ℕ → ℕ) (i counts : ℕ) → ((j : ℕ) → j < 5 → digit counts j ≡ c (5 * i + j)) → total c (5 * i) + total (digit counts) 5 ≡ total c (5 * (i + 1))
group_total c i counts ec =
    let e : 5 * i + 5 ≡ 5 * (i + 1) = omega arith in
    ap (λ (x : ℕ). total c (5 * i) + x) (total_cong (digit counts) (λ j. c (5 * i + j)) 5 ec) ∙ sym (total_add c (5 * i) 5) ∙ ap (total c) e

-- the tail's first place is sent, so that a value follows those of the data
after_data : (p n : ℕ) → p < 28 → total (copies p n) (5 * n) < total (copies p n) (places n)
after_data p n h =
    omega (arith, total_more (copies p n) (5 * n), tail_sent p n h, total_mono (copies p n) (5 * n + 1) (places n) (omega arith))

module _ (p n : ℕ) (values lane₀ : List ℤ) (h : Placeable p n values lane₀) (i counts : ℕ) (l : i < n) (ec : counts ≡ get_or (entries p) (i % 12) 0) where
  digits : (j : ℕ) → j < 5 → digit counts j ≡ copies p n (5 * i + j)
  digits j b = ap (λ (x : ℕ). digit x j) ec ∙ data_digit p n i j h.pattern l b

  pub group_once : Once counts
  group_once j b = subst (λ (x : ℕ). x < 2) (sym (digits j b)) (data_once p n (5 * i + j) h.pattern (omega arith))

  -- there are values enough for a group, and one more
  pub group_room : (lane : List ℤ) (at : ℕ) → Placed p n values lane at (5 * i) → at + total (digit counts) 5 < length values
  group_room lane at u =
      omega (arith, u.next, group_total (copies p n) i counts digits, total_mono (copies p n) (5 * (i + 1)) (5 * n) (omega arith), after_data p n h.pattern, h.all)

  -- one group more of a lane
  pub placed_group_lem : (lane : List ℤ) (at r : ℕ) (m : List ℤ) → Placed p n values lane at (5 * i) → Is (placed_group values at counts lane (5 * i) 5) r m
      → Placed p n values m r (5 * (i + 1))
  placed_group_lem lane at r m u q =
      let e : 5 * i + 5 ≡ 5 * (i + 1) = omega arith in
      subst (Placed p n values m r) e
      (subst₂ (λ (y : List ℤ) (z : ℕ). Placed p n values y z (5 * i + 5)) (sym q.memory) (sym q.answer)
      (placed_symbols p n values lane at i counts u (omega arith) digits 5 (omega arith)))
