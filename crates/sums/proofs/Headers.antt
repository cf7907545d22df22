-- The sum of two payload words that were written is refused with 5. HeaderCRC is linear but for its start with ones and its inversion,
-- so that the CRC of a sum is not the sum of the CRCs. The one exception are types 1 and 2: their sum says type 3, and there the CRC covers
-- what was payload.
-- Assumes nothing.
use Prim.Native.Nat.{ℕ, zero, suc, ◌+◌, ◌-◌, ◌*◌, ◌/◌, ◌%◌, ◌≤◌, ◌<◌}
use mathlib.Core.Bool.{Bool, false, not}
use mathlib.Core.Path.{◌≡◌, sym, ap, ap₂, ◌∙◌, subst}
use mathlib.Core.List.{List}
use native.Mathlib.Decide.{ℕ_discrete}
use native.Mathlib.Omega.{arith}
use borrow.Author.Tests.{eq-eqb, ne_eqb}
use lib.Bits.{bit_xor, xor_comm, xor_self, xor_zero_r}
use lib.Dec.{T, eqb}
use lib.ListN.{length}
use Rattle.ground.specs.Choice.{choose, either}
use Rattle.ground.specs.Outcome.{Is}
use Rattle.ground.specs.Table.{all_below}
use Rattle.ground.proofs.Choice.{choose_true, choose_false, skip}
use Rattle.ground.proofs.Table.{at_all}
use Rattle.bits.specs.Lists.{bits}
use Rattle.bits.specs.Places.{field_at}
use Rattle.bits.specs.Sums.{summed}
use Rattle.bits.proofs.Sums.{xor_assoc, xor_between, xor_ones}
use Rattle.bits.proofs.Summed.{summed_length, field_summed}
use Rattle.crc.specs.Crc.{clock, clocks}
use Rattle.infoword.specs.Suffix.{id_of, kind_of, version_of, crc_field_of, has_parity, lead_bits, rfu_of, covered_of, header_crc}
use Rattle.infoword.proofs.Ending.{lead_long, lead_short, lead_of, lead_rfu}
use Rattle.infoword.proofs.Closing.{has_2, has_not, by_parity}
use Rattle.infoword.proofs.Again.{last_lead}
use Rattle.encapsulation.specs.Writing.{written}
use Rattle.fields.specs.Report.{read_refusal}
use Rattle.fields.proofs.Faults.{Readable, read_5}
use Rattle.both_ways.proofs.Registers.{before, behind, register, of_46, of_18, behind_lt, covered_of_lem, header_sum}
use Rattle.both_ways.proofs.Types.{written_sound}

-- ---- the register by stream type, where RFU is zero: before STS_ID, and after Encap_Ver 0

start : ℕ → ℕ
start kind = choose (has_parity kind) 0xED 0x6A

over : ℕ → ℕ → ℕ
over kind id = behind (before (start kind) id) kind

over_lt : (kind id : ℕ) → over kind id < 256
unfolding over start
over_lt kind id =
    behind_lt (choose (has_parity kind) 0xED 0x6A) id kind
    (by_parity kind (λ e. omega (arith, choose_true {A = ℕ} 0xED 0x6A e)) (λ e. omega (arith, choose_false {A = ℕ} 0xED 0x6A e)))

crc_is : (x : List ℕ) → length x ≡ 1536 → lead_of x ≡ 0 → version_of x ≡ 0 → header_crc (covered_of x) ≡ 255 - over (kind_of x) (id_of x)
unfolding over start lead_of
crc_is x n z v =
    by_parity (kind_of x)
    (λ e. from 32 (lead_long (kind_of x) e) (of_46 ∙ sym (choose_true {A = ℕ} 0xED 0x6A e)))
    (λ e. from 4 (lead_short (kind_of x) e) (of_18 ∙ sym (choose_false {A = ℕ} 0xED 0x6A e)))
  where
    from : (r : ℕ) → lead_bits (kind_of x) ≡ r → clocks 128 0x2F 255 (bits r 0) ≡ choose (has_parity (kind_of x)) 0xED 0x6A
        → header_crc (covered_of x) ≡ 255 - behind (before (choose (has_parity (kind_of x)) 0xED 0x6A) (id_of x)) (kind_of x)
    from r e f =
        ap header_crc (covered_of_lem x r 0 n e (ap (λ (a : ℕ). field_at x (12260 - a) a) (sym e) ∙ z) v) ∙ register r 0 (id_of x) (kind_of x)
        ∙ ap (λ (s : ℕ). 255 - behind (before s (id_of x)) (kind_of x)) f

-- ---- sums of registers

-- what two registers and that of the sum differ by; it depends on the types alone
seed : ℕ → ℕ → ℕ
seed k l = bit_xor (bit_xor (start k) (start l)) (start (bit_xor k l))

over_sum : (k l i j : ℕ) → bit_xor (bit_xor (over k i) (over l j)) (over (bit_xor k l) (bit_xor i j)) ≡ behind (before (seed k l) 0) 0
unfolding over seed
over_sum k l i j =
    ap (λ (x : ℕ). bit_xor x (behind (before (start (bit_xor k l)) (bit_xor i j)) (bit_xor k l))) (sym (header_sum (start k) (start l) i j k l))
    ∙ sym (header_sum (bit_xor (start k) (start l)) (start (bit_xor k l)) (bit_xor i j) (bit_xor i j) (bit_xor k l) (bit_xor k l))
    ∙ ap₂ (λ (x y : ℕ). behind (before (bit_xor (bit_xor (start k) (start l)) (start (bit_xor k l))) x) y) (xor_self (bit_xor i j)) (xor_self (bit_xor k l))

-- for none of the pairs of types 0 to 2, but for 1 and 2, is it all ones, by which the CRC of the sum would be right
off : ℕ → Bool
off k = either (eqb (bit_xor (k / 3) (k % 3)) 3) (not (eqb (behind (before (seed (k / 3) (k % 3)) 0) 0) 255))

all_off : T (all_below off 9)
unfolding off seed start before behind clocks clock bits
all_off = tt

never : (k l : ℕ) → k ≤ 2 → l ≤ 2 → (bit_xor k l ≡ 3 → ⊥) → behind (before (seed k l) 0) 0 ≡ 255 → ⊥
unfolding off
never k l h i n e =
    let a : (k * 3 + l) / 3 ≡ k = omega arith in
    let b : (k * 3 + l) % 3 ≡ l = omega arith in
    let x : ℕ = behind (before (seed ((k * 3 + l) / 3) ((k * 3 + l) % 3)) 0) 0 in
    let t : T (off (k * 3 + l)) = at_all off 9 all_off (k * 3 + l) (omega arith) in
    let u : eqb (bit_xor ((k * 3 + l) / 3) ((k * 3 + l) % 3)) 3 ≡ false = ne_eqb _ 3 (λ z. n (sym (ap₂ bit_xor a b) ∙ z)) in
    let v : not (eqb x 255) ≡ false = ap not (eq-eqb x 255 (ap₂ (λ (x y : ℕ). behind (before (seed x y) 0) 0) a b ∙ e)) in
    subst T (skip u v) t

-- ---- two words of types 0 to 2 that are accepted, with RFU 0, and with zeros from bit 12,228 to STS_ID unless they are of type 1, whose sum
-- does not say type 3

-- two types make type 2 only where neither is 1
neither : (k l : ℕ) → l ≤ 2 → k ≡ 1 → bit_xor k l ≡ 2 → ⊥
neither k zero h e f = omega (arith, sym (ap (λ (x : ℕ). bit_xor x 0) e) ∙ f)
neither k (suc zero) h e f = omega (arith, sym (ap (λ (x : ℕ). bit_xor x 1) e) ∙ f)
neither k (suc (suc zero)) h e f = omega (arith, sym (ap (λ (x : ℕ). bit_xor x 2) e) ∙ f)
neither k (suc (suc (suc l))) h e f = omega arith

module _ (v w : List ℕ) (a : Readable v) (b : Readable w) (low-v : kind_of v ≤ 2) (low-w : kind_of w ≤ 2) (apart : bit_xor (kind_of v) (kind_of w) ≡ 3 → ⊥)
    (rfu-v : rfu_of v ≡ 0) (rfu-w : rfu_of w ≡ 0)
    (zeros-v : (kind_of v ≡ 1 → ⊥) → field_at v 12228 32 ≡ 0) (zeros-w : (kind_of w ≡ 1 → ⊥) → field_at w 12228 32 ≡ 0) where
  long : length v ≡ length w
  long = a.word_is ∙ sym b.word_is

  whole : length (summed v w) ≡ 1536
  whole = summed_length v w long ∙ a.word_is

  -- a field that is zero in both
  zero_field : (at n : ℕ) → n ≤ 32 → field_at v at n ≡ 0 → field_at w at n ≡ 0 → field_at (summed v w) at n ≡ 0
  zero_field at n h e f = field_summed v w at n long h ∙ ap₂ bit_xor e f

  kind_sum : kind_of (summed v w) ≡ bit_xor (kind_of v) (kind_of w)
  kind_sum = field_summed v w 12268 3 long (omega arith)

  lead_v : lead_of v ≡ 0
  lead_v = lead_rfu v (λ e. omega (arith, low-v, e)) ∙ rfu-v

  lead_w : lead_of w ≡ 0
  lead_w = lead_rfu w (λ e. omega (arith, low-w, e)) ∙ rfu-w

  lead_sum : lead_of (summed v w) ≡ 0
  unfolding lead_of
  lead_sum =
      let x : List ℕ = summed v w in
      elim (ℕ_discrete (kind_of x) 2) [
        | yes e ↦ (
            let f : bit_xor (kind_of v) (kind_of w) ≡ 2 = sym kind_sum ∙ e in
            ap (λ (r : ℕ). field_at x (12260 - r) r) (lead_long (kind_of x) (has_2 (kind_of x) e))
            ∙ zero_field 12228 32 (omega arith) (zeros-v (λ one. neither (kind_of v) (kind_of w) low-w one f))
            (zeros-w (λ one. neither (kind_of w) (kind_of v) low-v one (xor_comm (kind_of w) (kind_of v) ∙ f))))
        | no n ↦ ap (λ (r : ℕ). field_at x (12260 - r) r) (lead_short (kind_of x) (has_not (kind_of x) n (λ t. apart (sym kind_sum ∙ t))))
            ∙ zero_field 12256 4 (omega arith) (last_lead v lead_v) (last_lead w lead_w)
      ]

  -- the CRC of the sum is not that of its header
  crc_off : crc_field_of (summed v w) ≡ header_crc (covered_of (summed v w)) → ⊥
  crc_off e =
      let x : ℕ = over (kind_of v) (id_of v) in
      let y : ℕ = over (kind_of w) (id_of w) in
      let z : ℕ = over (bit_xor (kind_of v) (kind_of w)) (bit_xor (id_of v) (id_of w)) in
      let left : crc_field_of (summed v w) ≡ bit_xor (255 - x) (255 - y) =
      field_summed v w 12274 8 long (omega arith)
      ∙ ap₂ bit_xor (a.crc_is ∙ crc_is v a.word_is lead_v a.version_is) (b.crc_is ∙ crc_is w b.word_is lead_w b.version_is) in
      let right : header_crc (covered_of (summed v w)) ≡ 255 - z =
      crc_is (summed v w) whole lead_sum (zero_field 12271 3 (omega arith) a.version_is b.version_is)
      ∙ ap₂ (λ (k i : ℕ). 255 - over k i) kind_sum (field_summed v w 12260 8 long (omega arith)) in
      let sum : bit_xor x y ≡ bit_xor 255 z =
      sym (xor_between x y 255)
      ∙ sym (ap₂ bit_xor (xor_ones 8 x (over_lt (kind_of v) (id_of v))) (xor_ones 8 y (over_lt (kind_of w) (id_of w)) ∙ xor_comm y 255))
      ∙ sym left ∙ e ∙ right ∙ xor_ones 8 z (over_lt (bit_xor (kind_of v) (kind_of w)) (bit_xor (id_of v) (id_of w))) ∙ xor_comm z 255 in
      never (kind_of v) (kind_of w) low-v low-w apart
      (sym (over_sum (kind_of v) (kind_of w) (id_of v) (id_of w)) ∙ ap (λ (n : ℕ). bit_xor n z) sum
      ∙ xor_assoc 255 z z ∙ ap (bit_xor 255) (xor_self z) ∙ xor_zero_r 255)

  sum_refused : 5 ≡ read_refusal (summed v w)
  sum_refused = read_5 (summed v w) whole (zero_field 12282 6 (omega arith) a.spare_is b.spare_is) crc_off

-- the sum of two words that were written, and do not make type 3 of types 1 and 2
pub written_sum_refused : (kind id count : ℕ) (p null word : List ℕ) (r : ℕ) (m : List ℕ) → Is (written kind id count p null word) r m → r ≡ 0 → id < 256
    → (kind' id' count' : ℕ) (p' null' word' : List ℕ) (r' : ℕ) (m' : List ℕ) → Is (written kind' id' count' p' null' word') r' m' → r' ≡ 0 → id' < 256
    → (bit_xor kind kind' ≡ 3 → ⊥) → 5 ≡ read_refusal (summed m m')
written_sum_refused kind id count p null word r m o z h kind' id' count' p' null' word' r' m' o' z' h' n =
    let s = written_sound kind id count p null word r m o z h in
    let t = written_sound kind' id' count' p' null' word' r' m' o' z' h' in
    sum_refused m m' s.0 t.0 (rw s.2 s.1) (rw t.2 t.1) (λ e. n (sym (ap₂ bit_xor s.2 t.2) ∙ e)) s.3 t.3 s.4 t.4
