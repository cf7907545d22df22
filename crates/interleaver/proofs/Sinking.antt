-- Laws of the rows: listed in two halves, put into the sink, and all of them packed.
-- Assumes nothing.
use Prim.Native.Nat.{ℕ, zero, suc, ◌+◌, ◌*◌, ◌/◌, ◌%◌, ◌^◌, ◌≤◌, ◌<◌}
use mathlib.Core.Path.{◌≡◌, refl, sym, ap, ap₂, ◌∙◌, subst}
use mathlib.Core.Bool.{Bool, true, false}
use mathlib.Core.Logic.{inl, inr, ⊎_elim}
use mathlib.Core.List.{List, [], ◌∷◌}
use native.Mathlib.Nat.{mul-le-mul_right, add_assoc, mul-one, not-suc-le-zero}
use native.Mathlib.Decide.{dec_lt, ℕ_discrete}
use native.Mathlib.Omega.{arith}
use lib.Dec.{leb, eqb}
use lib.ListN.{length, get_or, set, replicate, length-replicate, get_or-replicate, get_or-eq_default}
use borrow.Author.Tests.{le-leb, lt-leb, eqb-true, ne_eqb}
use Rattle.ground.specs.Choice.{either}
use Rattle.ground.proofs.Fill.{fill_more}
use Rattle.bits.specs.Places.{number}
use Rattle.bits.proofs.Places.{number_lt}
use Rattle.wide.specs.Held.{place_of, Put}
use Rattle.wide.specs.declared.Wide.{Wide}
use Rattle.order.specs.Order.{parameter, entries5, entries9, entry, reversed, address, kept}
use Rattle.order.specs.Once.{Block}
use Rattle.order.specs.Rows.{row_address}
use Rattle.pairs.specs.Pairs.{Paired}
use Rattle.rows.specs.Spelt.{row_pair, rows_of}
use Rattle.interleaver.specs.Inside.{is_block, half_of, row_bits, Listed, short_at, row_value, row_width, read_bit, Behind, Gathering, Gathered}
use Rattle.order.proofs.Kept.{count, length_kept}
use Rattle.rows.proofs.Columns.{pair_first, Both, row_of, rows_are}
use Rattle.interleaver.proofs.Gathering.{sized, fellow_number, read_bit_lem, read_behind, rows_most, row_count, row_number}

leb_behind : (k a b : ℕ) → leb (k + a) (k + b) ≡ leb a b
leb_behind k a b =
    elim (dec_lt b a) [
      | yes l ↦ lt-leb (k + a) (k + b) (omega arith) ∙ sym (lt-leb a b l)
      | no l ↦ le-leb (k + a) (k + b) (omega arith) ∙ sym (le-leb a b (omega arith))
    ]

-- the last column but one of a payload block's row, and of a signalling block's
pub short_long : (N j : ℕ) → N ≡ 12282 → leb 506 (j * 313 % 512) ≡ short_at N j
unfolding short_at parameter row_address reversed entry entries9
short_long N j e = subst (λ (M : ℕ). leb 506 (j * 313 % 512) ≡ short_at M j) (sym e) (sym (leb_behind 11776 506 (j * 313 % 512)))

pub short_short : (N j : ℕ) → N ≡ 762 → leb 26 (j % 32) ≡ short_at N j
unfolding short_at parameter row_address reversed entry entries5
short_short N j e =
    subst (λ (M : ℕ). leb 26 (j % 32) ≡ short_at M j) (sym e)
    (sym (leb_behind 736 26 (j % 32)) ∙ ap (λ (x : ℕ). leb 762 (736 + x % 32)) (sym (mul-one j)))

-- which block it is
pub block_is : (N : ℕ) → is_block N ≡ true → Block N
block_is N h =
    elim (ℕ_discrete N 12282) [
      | yes e ↦ inl e
      | no d ↦ inr (eqb-true N 762 (subst (λ (t : Bool). either t (eqb N 762) ≡ true) (ne_eqb N 12282 d) h))
    ]

zeros_at : (n j : ℕ) → get_or {A = ℕ} (replicate n 0) j 0 ≡ 0
zeros_at n j =
    elim (dec_lt j n) [
      | yes h ↦ get_or-replicate n j 0 0 h
      | no h ↦ get_or-eq_default (replicate n 0) 0 {n = j} (omega (arith, length-replicate {A = ℕ} n 0))
    ]

-- ---- rows
-- what is read of a row
pub rows_both : (N : ℕ) (d : List ℕ) (j r : ℕ) → Paired (2 ^ parameter N) d → j < 512 → r ≡ rows_of N d j → Both (parameter N) d j r
rows_both N d j r p l e = subst (Both (parameter N) d j) (sym (e ∙ rows_are N d j l (parameter N) refl p.len)) (row_of (parameter N) (2 ^ parameter N) d j p)

pub listed_none : (N : ℕ) (d : List ℕ) (rows : List (List ℕ)) → Listed N d rows 0
listed_none N d rows = record { row = λ i h. absurd (not-suc-le-zero h) }

pub listed_more : (N : ℕ) (d : List ℕ) (rows : List (List ℕ)) (i a b : ℕ) → Listed N d rows i → i < length rows → a ≡ row_bits N d (i + 1) → b ≡ row_bits N d (half_of N + i + 1)
    → Listed N d (set rows i (a ∷ b ∷ [])) (i + 1)
listed_more N d rows i a b l room e f = record {
  row = fill_more (λ k. row_bits N d (k + 1) ∷ row_bits N d (half_of N + k + 1) ∷ []) [] rows i (a ∷ b ∷ []) room (ap₂ (λ (x y : ℕ). x ∷ y ∷ []) e f) l.row;
}

-- one of the two
pub listed_at : (N : ℕ) (d : List ℕ) (rows : List (List ℕ)) (m i k : ℕ) → Listed N d rows m → i < m → k < 2 → get_or (get_or rows i []) k 0 ≡ row_bits N d (k * half_of N + i + 1)
listed_at N d rows m i zero l h q = ap (λ (x : List ℕ). get_or x 0 0) (l.row i h) ∙ ap (row_bits N d) (omega arith)
listed_at N d rows m i (suc zero) l h q = ap (λ (x : List ℕ). get_or x 1 0) (l.row i h) ∙ ap (row_bits N d) (omega arith)
listed_at N d rows m i (suc (suc k)) l h q = absurd (omega arith)

-- it is one of the rows
pub row_in : (N : ℕ) → Block N → (k i : ℕ) → k < 2 → i < half_of N → k * half_of N + i < 2 ^ parameter N
row_in N b k i q h =
    let m : k * half_of N ≤ 1 * half_of N = mul-le-mul_right (half_of N) (omega arith) in
    omega (arith, m, (sized N b).halves)

-- a row has 24 bits
pub row_lt : (N : ℕ) (d : List ℕ) → Paired (2 ^ parameter N) d → (j v : ℕ) → v ≡ row_bits N d j → v < 16777216
row_lt N d p j v e = subst (λ (x : ℕ). x < 16777216) (sym e) (number_lt (λ t. row_pair (parameter N) d j t % 64) (pair_first (parameter N) (2 ^ parameter N) d p j) 0 24)

-- a row's second bits are those of the row that is read with it
pub row_with : (N : ℕ) → Block N → (d : List ℕ) (i v : ℕ) → Paired (2 ^ parameter N) d → v ≡ number (λ t. row_pair (parameter N) d (i + 1) t / 64) 0 24 → v ≡ row_bits N d (half_of N + i + 1)
row_with N b d i v p e =
    e ∙ fellow_number N (parameter N) (half_of N) (sized N b) d p (i + 1) ∙ ap (row_bits N d) (sym (add_assoc (half_of N) i 1))

-- ---- rows that go into the sink
width_least : (t : Bool) → 23 ≤ row_width t
width_least true = omega arith
width_least false = omega arith

module _ (N : ℕ) (b : Block N) where
  pub block_most : N ≤ 12282
  block_most = ⊎_elim (λ e. omega arith) (λ e. omega arith) b

  -- the sink has room for a row
  pub row_room : (s : Wide) (i : ℕ) → Behind N s i → i < 2 ^ parameter N → place_of s + 24 ≤ 12288
  row_room s i h l =
      omega (arith, h.at, length_kept (address (parameter N)) N (32 * i), row_count N b i l, rows_most N b (i + 1) (omega arith), width_least (short_at N (i + 1)), block_most)

  module _ (d : List ℕ) (p : Paired (2 ^ parameter N) d) where
    pub gathering_none : Gathering N d (replicate 1536 0) (record { acc = 0; used = 0; at = 0 }) 0
    unfolding number kept
    gathering_none = record {
      place = record { room = omega arith; words = refl; at = refl };
      len = length-replicate {A = ℕ} 1536 0;
      behind = λ j h. zeros_at 1536 j;
      held = record { bytes = λ k h. absurd (not-suc-le-zero h); part = refl };
    }

    -- a row more
    pub gathering_more : (out : List ℕ) (s : Wide) (i v : ℕ) (out' : List ℕ) (s' : Wide) → Gathering N d out s i → i < 2 ^ parameter N → v ≡ row_bits N d (i + 1)
        → Put (row_value (short_at N (i + 1)) v) (row_width (short_at N (i + 1))) out s out' s' → Gathering N d out' s' (i + 1)
    gathering_more out s i v out' s' h l e put =
        let at : place_of s ≡ count (address (parameter N)) N (32 * i) = h.place.at ∙ length_kept (address (parameter N)) N (32 * i) in
        record {
          place = record {
            room = put.room;
            words = put.step ∙ h.place.words;
            at = put.moved ∙ ap (λ (x : ℕ). x + row_width (short_at N (i + 1))) at ∙ sym (row_count N b i l) ∙ sym (length_kept (address (parameter N)) N (32 * (i + 1)));
          };
          len = put.len ∙ h.len;
          behind = λ j k. put.behind j (omega arith) ∙ h.behind j (omega (arith, put.moved));
          held = put.keeps (read_bit N d) (read_bit_lem N (2 ^ parameter N) d p) h.held
              (row_number N b d p i v l e ∙ ap (λ (x : ℕ). number (read_bit N d) x (row_width (short_at N (i + 1)))) (sym at));
        }

  -- zeros behind the block
  number_behind : (d : List ℕ) (k n : ℕ) → N ≤ k → number (read_bit N d) k n ≡ 0
  unfolding number
  number_behind d k zero h = refl
  number_behind d k (suc n) h = ap₂ (λ (x y : ℕ). x * 2 + y) (number_behind d k n h) (read_behind N d (k + n) (omega arith))

  -- behind all rows the sink stands behind the block
  pub place_whole : (r : Wide) → Behind N r (half_of N + half_of N) → place_of r ≡ N
  place_whole r h =
      let S = sized N b in
      let all : 32 * (half_of N + half_of N) ≡ 32 * 2 ^ parameter N = omega (arith, S.halves) in
      h.at ∙ length_kept (address (parameter N)) N (32 * (half_of N + half_of N)) ∙ ap (count (address (parameter N)) N) all ∙ S.full

  -- all rows and the zeros that push them out
  pub gathered : (d out : List ℕ) (s : Wide) (out' : List ℕ) (s' : Wide) → Paired (2 ^ parameter N) d → Gathering N d out s (half_of N + half_of N) → Put 0 6 out s out' s' → Gathered N d out'
  gathered d out s out' s' p h put =
      let at : place_of s ≡ N = place_whole s h.place in
      let held = put.keeps (read_bit N d) (read_bit_lem N (2 ^ parameter N) d p) h.held (sym (number_behind d (place_of s) 6 (omega arith))) in
      record {
        len = put.len ∙ h.len;
        bytes = λ k l. elim (dec_lt k s'.at) [
          | yes q ↦ held.bytes k q
          | no q ↦ (
              let far : N ≤ 8 * k = ⊎_elim (λ e. omega (arith, put.moved, put.room, put.step, h.place.words)) (λ e. omega (arith, put.moved, put.room, put.step, h.place.words)) b in
              put.behind k (omega arith) ∙ h.behind k (omega arith) ∙ sym (number_behind d (8 * k) 8 far))
        ];
      }
