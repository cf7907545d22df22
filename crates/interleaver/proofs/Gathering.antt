-- Laws of the gathered bits: a row in the order's terms, the rows of the second half, and rows that go into the sink.
-- Assumes nothing.
use Prim.Native.Nat.{ℕ, ◌+◌, ◌*◌, ◌/◌, ◌%◌, ◌^◌, ◌≤◌, ◌<◌}
use mathlib.Core.Path.{◌≡◌, refl, sym, ap, ap₂, ◌∙◌, subst}
use mathlib.Core.Bool.{Bool, true, false}
use mathlib.Core.Logic.{⊎_elim}
use mathlib.Core.List.{List}
use native.Mathlib.Nat.{zero-add, add-mul, mod-lt, mod-add-mod, add-mul-mod_self_right}
use native.Mathlib.Decide.{dec_lt, ℕ_discrete}
use native.Mathlib.Omega.{arith}
use lib.Dec.{T, ltb, eqb, eqb→eq, lit≤}
use lib.ListN.{get_or}
use lib.Pow.{pow_pos, pow-add}
use borrow.Author.Tests.{lt-ltb, le-ltb, le-leb, lt-leb}
use Rattle.ground.specs.Choice.{choose}
use Rattle.ground.specs.Table.{all_below}
use Rattle.ground.proofs.Choice.{choose_true, choose_false}
use Rattle.ground.proofs.Table.{at_all}
use Rattle.bits.specs.Places.{number}
use Rattle.bits.proofs.Places.{number_more, number_cong, number_move}
use Rattle.order.specs.Order.{parameter, entries5, entries9, entry, reversed, address, kept, order}
use Rattle.order.specs.Once.{Block}
use Rattle.order.specs.Rows.{row_address, column}
use Rattle.pairs.specs.Pairs.{Paired}
use Rattle.rows.specs.Spelt.{row_pair}
use Rattle.interleaver.specs.Inside.{half_of, short_at, row_value, row_width, read_bit}
use Rattle.order.proofs.Kept.{count, count_mono, count9, count5}
use Rattle.order.proofs.Rows.{row_at_lem, row_whole, row_short}
use Rattle.rows.proofs.Columns.{segment_most, pair_first}

-- ---- the two sizes of block
pub record Sized (N n h : ℕ) : Type 0 where
  pub bits : N + 6 ≡ 24 * 2 ^ n
  pub halves : 2 ^ n ≡ 2 * h
  pub least : 16 ≤ h
  pub most : h ≤ 256
  pub full : count (address n) N (32 * 2 ^ n) ≡ N
  pub odd : (t : ℕ) → t < 24 → entry n (column t) % 2 ≡ 1

is_odd : ℕ → ℕ → Bool
is_odd n t = eqb (entry n (column t) % 2) 1

odd9 : T (all_below (is_odd 9) 24)
unfolding is_odd entry entries9
odd9 = tt

odd5 : T (all_below (is_odd 5) 24)
unfolding is_odd entry entries5
odd5 = tt

odd_of : (n : ℕ) → T (all_below (is_odd n) 24) → (t : ℕ) → t < 24 → entry n (column t) % 2 ≡ 1
unfolding is_odd
odd_of n all t h = eqb→eq (entry n (column t) % 2) 1 (at_all (is_odd n) 24 all t h)

pub sized : (N : ℕ) → Block N → Sized N (parameter N) (half_of N)
unfolding parameter half_of
sized N =
    ⊎_elim
    (λ e. subst (λ (M : ℕ). Sized M (parameter M) (half_of M)) (sym e)
    (record { bits = refl; halves = refl; least = lit≤ tt; most = lit≤ tt; full = count9; odd = odd_of 9 odd9 }))
    (λ e. subst (λ (M : ℕ). Sized M (parameter M) (half_of M)) (sym e)
    (record { bits = refl; halves = refl; least = lit≤ tt; most = lit≤ tt; full = count5; odd = odd_of 5 odd5 }))

-- ---- the rows of the second half
-- an odd multiple of half the modulus is half the modulus
half_turn : (h j e : ℕ) → e % 2 ≡ 1 → (j * e % (2 * h) + h) % (2 * h) ≡ (j + h) * e % (2 * h)
half_turn h j e o =
    let q : e ≡ 2 * (e / 2) + 1 = omega arith in
    let a : h * e ≡ h + e / 2 * (2 * h) = ap (λ (x : ℕ). h * x) q ∙ omega arith in
    let b : (j + h) * e ≡ j * e + h + e / 2 * (2 * h) = add-mul j h e ∙ omega arith in
    mod-add-mod (j * e) (2 * h) h ∙ sym (ap (λ (x : ℕ). x % (2 * h)) b ∙ add-mul-mod_self_right (j * e + h) (e / 2) (2 * h))

module _ (N n h : ℕ) (s : Sized N n h) (d : List ℕ) (p : Paired (2 ^ n) d) (j : ℕ) where
  -- the second bits of a row are the first bits of the row half of all rows on
  fellow_row : (t : ℕ) → t < 24 → row_pair n d j t / 64 ≡ row_pair n d (h + j) t % 64
  unfolding row_pair row_address
  fellow_row t l =
      let r : ℕ = reversed (column t) in
      let e : ℕ = entry n (column t) in
      let m : 2 ^ n / 2 ≡ h = omega (arith, s.halves) in
      let c : (j * e % 2 ^ n + 2 ^ n / 2) % 2 ^ n ≡ (h + j) * e % 2 ^ n =
      ap₂ (λ (x y : ℕ). (j * e % x + y) % x) s.halves m ∙ half_turn h j e (s.odd t l)
      ∙ ap₂ (λ (x y : ℕ). x * e % y) (omega arith) (sym s.halves) in
      let k : r < 24 = omega (arith, segment_most t l) in
      p.fellow r (j * e % 2 ^ n) k (mod-lt (j * e) (pow_pos n)) ∙ ap (λ (x : ℕ). get_or d (r * 2 ^ n + x) 0 % 64) c

  pub fellow_number : number (λ t. row_pair n d j t / 64) 0 24 ≡ number (λ t. row_pair n d (h + j) t % 64) 0 24
  fellow_number = number_cong (λ t. row_pair n d j t / 64) (λ t. row_pair n d (h + j) t % 64) 0 24 (λ k l. fellow_row (0 + k) (omega arith))

-- ---- a row in the order's terms
choose_lt : (t : Bool) (x y m : ℕ) → x < m → y < m → choose t x y < m
choose_lt true x y m h k = h
choose_lt false x y m h k = k

module _ (N size : ℕ) (d : List ℕ) (p : Paired size d) where
  pub read_bit_lem : (k : ℕ) → read_bit N d k < 2
  unfolding read_bit
  read_bit_lem k = choose_lt (ltb k N) (get_or d (get_or (order N) k 0) 0 % 64) 0 2 (p.first (get_or (order N) k 0)) (omega arith)

pub read_behind : (N : ℕ) (d : List ℕ) (k : ℕ) → N ≤ k → read_bit N d k ≡ 0
unfolding read_bit
read_behind N d k h = choose_false (get_or d (get_or (order N) k 0) 0 % 64) 0 (le-ltb k N h)

read_in : (N : ℕ) (d : List ℕ) (k a : ℕ) → k < N → get_or (kept (address (parameter N)) N (2 ^ (parameter N + 5))) k 0 ≡ a → read_bit N d k ≡ get_or d a 0 % 64
unfolding read_bit order
read_in N d k a h e = choose_true (get_or d (get_or (order N) k 0) 0 % 64) 0 (lt-ltb k N h) ∙ ap (λ (x : ℕ). get_or d x 0 % 64) e

module _ (N : ℕ) (b : Block N) where
  S : Sized N (parameter N) (half_of N)
  S = sized N b

  counters : 2 ^ (parameter N + 5) ≡ 32 * 2 ^ parameter N
  counters = omega (arith, pow-add 2 (parameter N) 5)

  big : 6 ≤ 2 ^ parameter N
  big = omega (arith, S.halves, S.least)

  -- no more bits than the block has
  pub rows_most : (i : ℕ) → i ≤ 2 ^ parameter N → count (address (parameter N)) N (32 * i) ≤ N
  rows_most i h = omega (arith, count_mono (address (parameter N)) N (32 * i) (32 * 2 ^ parameter N) (omega arith), S.full)

  -- how many bits a row has
  pub row_count : (i : ℕ) → i < 2 ^ parameter N → count (address (parameter N)) N (32 * (i + 1)) ≡ count (address (parameter N)) N (32 * i) + row_width (short_at N (i + 1))
  unfolding short_at
  row_count i l =
      let room : 32 * i + 32 ≤ 2 ^ (parameter N + 5) = omega (arith, counters) in
      let m : ℕ = count (address (parameter N)) N (32 * i) in
      elim (dec_lt (row_address (parameter N) (i + 1) 29) N) [
        | yes k ↦ (row_whole (parameter N) N S.bits big i (2 ^ (parameter N + 5)) room k).2 ∙ ap (λ (t : Bool). m + row_width t) (sym (lt-leb N (row_address (parameter N) (i + 1) 29) k))
        | no k ↦ (
            let k' : N ≤ row_address (parameter N) (i + 1) 29 = omega arith in
            (row_short (parameter N) N S.bits big i (2 ^ (parameter N + 5)) room k').1 ∙ ap (λ (t : Bool). m + row_width t) (sym (le-leb N (row_address (parameter N) (i + 1) 29) k')))
      ]

  module _ (d : List ℕ) (p : Paired (2 ^ parameter N) d) (i v : ℕ) (l : i < 2 ^ parameter N) (ev : v ≡ number (λ t. row_pair (parameter N) d (i + 1) t % 64) 0 24) where
    g : ℕ → ℕ
    g = λ t. row_pair (parameter N) d (i + 1) t % 64

    m : ℕ
    m = count (address (parameter N)) N (32 * i)

    D : ℕ
    D = 2 ^ (parameter N + 5)

    room : 32 * i + 32 ≤ D
    unfolding D
    room = omega (arith, counters)

    early : (t : ℕ) → t < 22 → m + t < N → read_bit N d (m + t) ≡ g (0 + t)
    unfolding m g D row_pair
    early t lt fits =
        read_in N d (m + t) (row_address (parameter N) (i + 1) (column t)) fits (row_at_lem (parameter N) N S.bits big i t D lt room) ∙ ap g (sym (zero-add t))

    whole : row_address (parameter N) (i + 1) 29 < N → v ≡ number (read_bit N d) m 24
    unfolding m g D row_pair
    whole k =
        let r = row_whole (parameter N) N S.bits big i D room k in
        let most : m + 24 ≤ N = omega (arith, r.2, rows_most (i + 1) (omega arith)) in
        ev ∙ sym (number_move (read_bit N d) g m 0 24
        (λ t lt. elim (dec_lt t 22) [
          | yes a ↦ early t a (omega arith)
          | no a ↦ elim (ℕ_discrete t 22) [
            | yes e ↦ subst (λ (x : ℕ). read_bit N d (m + x) ≡ g (0 + x)) (sym e) (read_in N d (m + 22) (row_address (parameter N) (i + 1) 29) (omega arith) r.0)
            | no e ↦ subst (λ (x : ℕ). read_bit N d (m + x) ≡ g (0 + x)) {x = 23} {y = t} (omega arith) (read_in N d (m + 23) (row_address (parameter N) (i + 1) 30) (omega arith) r.1)
          ]
        ]))

    squeeze : (v a x y : ℕ) → y < 2 → x < 2 → v ≡ (a * 2 + x) * 2 + y → v / 4 * 2 + v % 2 ≡ a * 2 + y
    squeeze v a x y hy hx e = omega arith

    short : N ≤ row_address (parameter N) (i + 1) 29 → v / 4 * 2 + v % 2 ≡ number (read_bit N d) m 23
    unfolding m g D row_pair
    short k =
        let r = row_short (parameter N) N S.bits big i D room k in
        let most : m + 23 ≤ N = omega (arith, r.1, rows_most (i + 1) (omega arith)) in
        let e1 : number g 0 24 ≡ number g 0 23 * 2 + g 23 = number_more g 0 23 in
        let e2 : number g 0 23 ≡ number g 0 22 * 2 + g 22 = number_more g 0 22 in
        let front : number (read_bit N d) m 22 ≡ number g 0 22 = number_move (read_bit N d) g m 0 22 (λ t lt. early t lt (omega arith)) in
        let final : read_bit N d (m + 22) ≡ g 23 = read_in N d (m + 22) (row_address (parameter N) (i + 1) 30) (omega arith) r.0 in
        squeeze v (number g 0 22) (g 22) (g 23) (pair_first (parameter N) (2 ^ parameter N) d p (i + 1) 23) (pair_first (parameter N) (2 ^ parameter N) d p (i + 1) 22) (omega (arith, ev, e1, e2))
        ∙ sym (number_more (read_bit N d) m 22 ∙ ap₂ (λ (x y : ℕ). x * 2 + y) front final)

    -- what is put of a row are the bits that are read there
    pub row_number : row_value (short_at N (i + 1)) v ≡ number (read_bit N d) (count (address (parameter N)) N (32 * i)) (row_width (short_at N (i + 1)))
    unfolding short_at m
    row_number =
        elim (dec_lt (row_address (parameter N) (i + 1) 29) N) [
          | yes k ↦ subst (λ (t : Bool). row_value t v ≡ number (read_bit N d) m (row_width t)) (sym (lt-leb N (row_address (parameter N) (i + 1) 29) k)) (whole k)
          | no k ↦ (
              let k' : N ≤ row_address (parameter N) (i + 1) 29 = omega arith in
              subst (λ (t : Bool). row_value t v ≡ number (read_bit N d) m (row_width t)) (sym (le-leb N (row_address (parameter N) (i + 1) 29) k')) (short k'))
        ]
