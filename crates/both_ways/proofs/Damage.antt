-- One bit of the header that is changed changes its CRC, and has the word refused. An odd number of bits that are changed within one part
-- has just that part reported as not holding.
-- Assumes nothing.
use Prim.Native.Nat.{ℕ, ◌+◌, ◌-◌, ◌*◌, ◌/◌, ◌%◌, ◌^◌, ◌≤◌, ◌<◌}
use mathlib.Core.Bool.{true}
use mathlib.Core.Path.{◌≡◌, refl, sym, ap, ap₂, ◌∙◌, subst}
use mathlib.Core.List.{List, ◌++◌}
use native.Mathlib.Decide.{ℕ_discrete}
use native.Mathlib.Omega.{arith}
use lib.Dec.{eqb}
use lib.ListN.{length, get_or, set, length-set}
use Rattle.ground.specs.Choice.{both}
use lib.Seq.{ext_get_or, get_or-set_same, get_or-set_other}
use Rattle.ground.specs.Table.{tab}
use Rattle.ground.proofs.Table.{length_tab, get_or_tab, tab_cong}
use Rattle.bits.specs.Lists.{Below}
use Rattle.bits.specs.Places.{bit_at, field_at}
use Rattle.bits.proofs.Places.{bit_lt, number_cong, field_is}
use Rattle.bits.proofs.Joined.{run_below}
use Rattle.crc.proofs.Changes.{crc_changes}
use Rattle.parity.specs.Part.{parity_holds, received, held_of}
use Rattle.parity.proofs.Sound.{odd_seen}
use Rattle.parity.proofs.Received.{received_bits}
use Rattle.parity.proofs.Which.{held_set, held_less}
use Rattle.infoword.specs.Suffix.{kind_of, has_parity, covered, covered_of, header_crc, lead_bits, rfu_bits, rfu_of}
use Rattle.infoword.proofs.Closing.{by_parity, covered_long, covered_short, covered_run}
use Rattle.infoword.proofs.Ending.{lead_long, rfu_most}
use Rattle.fields.specs.Report.{no_header_at, read_refusal}
use Rattle.both_ways.specs.Damage.{OneBit, OddIn}
use Rattle.fields.proofs.Faults.{Readable, read_5}

-- for any run of bits, and so for every stream type's: another bit at one place gives another CRC
pub header_crc_changes : (h : List ℕ) (i b : ℕ) → Below 2 h → b < 2 → i < length h → header_crc (set h i b) ≡ header_crc h → b ≡ get_or h i 0
unfolding header_crc
header_crc_changes h i b below bit room e = crc_changes 8 0x2F h i b (omega arith) (omega arith) refl below bit room e

-- the fields from a place on that no change is behind
pub same_field : (w v : List ℕ) (from : ℕ) → ((k : ℕ) → from ≤ k → bit_at v k ≡ bit_at w k) → (at n : ℕ) → n ≤ 32 → from ≤ at → field_at v at n ≡ field_at w at n
same_field w v from same at n h l =
    field_is v at n h ∙ number_cong (bit_at v) (bit_at w) at n (λ k p. same (at + k) (omega arith)) ∙ sym (field_is w at n h)

-- no more than 46 bits are covered
pub covered_most : (kind : ℕ) → covered kind ≤ 46
covered_most kind = by_parity kind (λ e. omega (arith, covered_long kind e)) (λ e. omega (arith, covered_short kind e))

-- two words that differ in one covered bit, and have as many of them
module _ (w v : List ℕ) (i : ℕ) (d : OneBit w v i) (span : covered (kind_of v) ≡ covered (kind_of w)) where
  n : ℕ
  n = covered (kind_of w)

  at : ℕ
  at = 12274 - n

  run_is : tab (bit_at v) at n ≡ set (tab (bit_at w) at n) i (bit_at v (at + i))
  unfolding n at
  run_is =
      let l : List ℕ = tab (bit_at w) at n in
      let b : ℕ = bit_at v (at + i) in
      let q : length l ≡ n = length_tab (bit_at w) at n in
      let m : length (tab (bit_at v) at n) ≡ n = length_tab (bit_at v) at n in
      ext_get_or 0 (tab (bit_at v) at n) (set l i b) (m ∙ sym (length-set l i b ∙ q))
      (λ k p.
      let r : k < n = subst (λ (x : ℕ). k < x) m p in
      get_or_tab (bit_at v) 0 at n k r
      ∙ elim (ℕ_discrete k i) [
        | yes e ↦ ap (λ (x : ℕ). bit_at v (at + x)) e ∙ sym (ap (λ (x : ℕ). get_or (set l i b) x 0) e ∙ get_or-set_same l i b 0 (subst (λ (x : ℕ). i < x) (sym q) d.room))
        | no e ↦ d.same (at + k) (λ z. e (cancel at k i z)) ∙ sym (get_or-set_other l i k b 0 e ∙ get_or_tab (bit_at w) 0 at n k r)
      ])
    where
      cancel : (a x y : ℕ) → a + x ≡ a + y → x ≡ y
      cancel a x y e = omega arith

  covered_w : covered_of w ≡ tab (bit_at w) at n
  unfolding n at
  covered_w = covered_run w (covered (kind_of w)) refl

  covered_v : covered_of v ≡ set (covered_of w) i (bit_at v (at + i))
  unfolding n at
  covered_v = covered_run v (covered (kind_of w)) span ∙ run_is ∙ ap (λ (l : List ℕ). set l i (bit_at v (at + i))) (sym covered_w)

  covered_below : Below 2 (covered_of w)
  covered_below = subst (λ (l : List ℕ). Below 2 l) (sym covered_w) (run_below w at n)

  -- where the reader accepts the one, it refuses the other with 5
  pub damaged : Readable w → 5 ≡ read_refusal v
  unfolding n at
  damaged a =
      let most : covered (kind_of w) ≤ 46 = covered_most (kind_of w) in
      let room : i < covered (kind_of w) = d.room in
      let same : (k : ℕ) → 12274 ≤ k → bit_at v k ≡ bit_at w k = λ k l. d.same k (λ z. omega (arith, most, room)) in
      let len : length (covered_of w) ≡ covered (kind_of w) = ap length covered_w ∙ length_tab (bit_at w) (12274 - covered (kind_of w)) (covered (kind_of w)) in
      let here : get_or (covered_of w) i 0 ≡ bit_at w (12274 - covered (kind_of w) + i) = ap (λ (l : List ℕ). get_or l i 0) covered_w ∙ get_or_tab (bit_at w) 0 (12274 - covered (kind_of w)) (covered (kind_of w)) i room in
      read_5 v d.long (same_field w v 12274 same 12282 6 (omega arith) (omega arith) ∙ a.spare_is)
      (λ e.
      let c : header_crc (set (covered_of w) i (bit_at v (12274 - covered (kind_of w) + i))) ≡ header_crc (covered_of w) =
      ap header_crc (sym covered_v) ∙ sym e ∙ same_field w v 12274 same 12274 8 (omega arith) (omega arith) ∙ a.crc_is in
      d.other (header_crc_changes (covered_of w) i (bit_at v (12274 - covered (kind_of w) + i)) covered_below (bit_lt v (12274 - covered (kind_of w) + i)) (subst (λ (x : ℕ). i < x) (sym len) room) c ∙ here))

-- two words that differ within one part
module _ (w v : List ℕ) (k : ℕ) (d : OddIn w v k) where
  -- behind Parity_Parts there is no difference
  behind : (i : ℕ) → 12228 ≤ i → bit_at v i ≡ bit_at w i
  behind i h = d.same i (record { packets = λ a b. omega (arith, d.part, h, a, b); parity = λ a b. omega (arith, d.part, h, a, b) })

  pub same_behind : (at n : ℕ) → n ≤ 32 → 12228 ≤ at → field_at v at n ≡ field_at w at n
  same_behind = same_field w v 12228 behind

  -- and in no other part
  same_part : (j : ℕ) → j < 4 → (j ≡ k → ⊥) → received v j ≡ received w j
  unfolding received
  same_part j h n =
      let p = d.part in
      ap₂ (λ (x y : List ℕ). x ++ y)
      (tab_cong (bit_at v) (bit_at w) (8 * (376 * j)) 3008 (λ i l. d.same (8 * (376 * j) + i) (record { packets = λ a b. n (near j k i l a b); parity = λ a b. omega (arith, h, p, l, a, b) })))
      (tab_cong (bit_at v) (bit_at w) (12032 + 49 * j) 49 (λ i l. d.same (12032 + 49 * j + i) (record { packets = λ a b. omega (arith, h, p, l, a, b); parity = λ a b. n (close j k i l a b) })))
    where
      near : (j k i : ℕ) → i < 3008 → 3008 * k ≤ 8 * (376 * j) + i → 8 * (376 * j) + i < 3008 * k + 3008 → j ≡ k
      near j k i l a b = omega arith

      close : (j k i : ℕ) → i < 49 → 12032 + 49 * k ≤ 12032 + 49 * j + i → 12032 + 49 * j + i < 12032 + 49 * k + 49 → j ≡ k
      close j k i l a b = omega arith

  -- so that just that part is seen not to hold
  pub part_fails : held_of w / 2 ^ k % 2 ≡ 1 → held_of v + 2 ^ k ≡ held_of w
  part_fails h =
      let t : parity_holds (received w k) ≡ true = held_set w k d.part h in
      held_less w v k d.part t (odd_seen (received w k) (received v k) (received_bits w k) (received_bits v k) t d.odd)
      (λ j l n. ap parity_holds (same_part j l n))

  -- a word of type 2 or 3 that was accepted still is
  pub still_readable : Readable w → has_parity (kind_of w) ≡ true → Readable v
  still_readable a has =
      let kind : kind_of v ≡ kind_of w = same_behind 12268 3 (omega arith) (omega arith) in
      let span : covered_of v ≡ covered_of w =
      covered_run v 46 (ap covered kind ∙ covered_long (kind_of w) has)
      ∙ tab_cong (bit_at v) (bit_at w) 12228 46 (λ i l. behind (12228 + i) (omega arith)) ∙ sym (covered_run w 46 (covered_long (kind_of w) has)) in
      record {
        word_is = d.long;
        spare_is = same_behind 12282 6 (omega arith) (omega arith) ∙ a.spare_is;
        crc_is = same_behind 12274 8 (omega arith) (omega arith) ∙ a.crc_is ∙ ap header_crc (sym span);
        version_is = same_behind 12271 3 (omega arith) (omega arith) ∙ a.version_is;
        kind_is = rw kind a.kind_is;
        address_is = ap₂ (λ (k x : ℕ). both (eqb k 3) (no_header_at x)) kind (same_behind 12248 12 (omega arith) (omega arith)) ∙ a.address_is;
      }

  pub same_rfu : has_parity (kind_of w) ≡ true → rfu_of v ≡ rfu_of w
  unfolding rfu_of
  same_rfu has =
      let kind : kind_of v ≡ kind_of w = same_behind 12268 3 (omega arith) (omega arith) in
      let n : ℕ = rfu_bits (kind_of w) in
      let r : lead_bits (kind_of w) ≡ 32 = lead_long (kind_of w) has in
      ap (λ (x : ℕ). field_at v (12260 - lead_bits x) (rfu_bits x)) kind ∙ ap (λ (x : ℕ). field_at v (12260 - x) n) r
      ∙ same_behind 12228 n (rfu_most (kind_of w)) (omega arith) ∙ sym (ap (λ (x : ℕ). field_at w (12260 - x) n) r)
