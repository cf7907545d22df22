-- The theorems about a word that was read, for a header in 16 bytes, over the definitions.
-- Assumes nothing.
use Prim.Native.Nat.{ℕ, ◌+◌, ◌/◌, ◌%◌, ◌^◌, ◌≤◌, ◌<◌}
use mathlib.Core.Path.{◌≡◌, refl, sym, ap, ap₂, ◌∙◌}
use mathlib.Core.Logic.{◌↔◌}
use mathlib.Core.Bool.{true, not}
use mathlib.Core.List.{List, ◌∷◌}
use native.Mathlib.Omega.{arith}
use lib.Dec.{eqb}
use lib.ListN.{length, get_or, take, drop}
use Rattle.ground.specs.Outcome.{Is}
use Rattle.ground.specs.declared.refusal.Refusal.TheVariants.{CrcWrong}
use Rattle.ground.specs.Choice.{choose, refuse}
use Rattle.ground.proofs.Outcome.{agree}
use Rattle.ground.proofs.Choice.{choose_true, no_difference, all_clear, clear_all}
use Rattle.bits.specs.Lists.{pack}
use Rattle.parity.specs.Part.{received, held_of}
use Rattle.parity.specs.Claims.{Sound}
use Rattle.parity.proofs.Sound.{meaning}
use Rattle.parity.proofs.Received.{received_bits}
use Rattle.parity.proofs.Which.{held_set, held_true}
use Rattle.infoword.specs.Suffix.{kind_of, has_parity, covered}
use Rattle.infoword.proofs.Closing.{has_from}
use Rattle.fields.specs.Report.{read_faults, read_refusal, holding_of, header_of}
use Rattle.header_bytes.specs.Bytes.{header_with, header_bytes}
use Rattle.payload.specs.Answers.{read_into}
use Rattle.both_ways.specs.Damage.{OneBit, OddIn, PartSeenIn}
use Rattle.fields.specs.declared.Header.{Header}
use Rattle.fields.proofs.Faults.{Readable, read_0, readable}
use Rattle.payload.proofs.Answers.{into_refused, into_done}
use Rattle.both_ways.proofs.Damage.{damaged, same_behind, part_fails, still_readable, same_rfu}

-- the type and the parity stand in bytes 5 and 7
kind_byte : (h : Header) → get_or (header_bytes h) 5 0 ≡ h.kind
unfolding header_with pack
kind_byte h = refl

parity_byte : (h : Header) → get_or (header_bytes h) 7 0 ≡ h.parity
unfolding header_with pack
parity_byte h = refl

-- headers that differ in their parity alone differ in byte 7 alone
same_before : (g h : Header) → g.rfu ≡ h.rfu → g.id ≡ h.id → g.kind ≡ h.kind → g.version ≡ h.version → take 7 (header_bytes g) ≡ take 7 (header_bytes h)
unfolding header_with pack
same_before g h a b c d = cc (a, b, c, d)

same_behind_it : (g h : Header) → g.address ≡ h.address → drop 8 (header_bytes g) ≡ drop 8 (header_bytes h)
unfolding header_with pack
same_behind_it g h a = cc (a, a)

-- after a word was read into 16 bytes, and the answer was 0
module _ (w out : List ℕ) (n : ℕ) (m : List ℕ) (o : Is (read_into w out) n m) (z : n ≡ 0) where
  accepted : (length out ≡ 16) × Readable w
  unfolding read_into read_refusal
  accepted =
      let c = all_clear (refuse 1 (not (eqb (length out) 16)) ∷ read_faults w) tt (sym o.answer ∙ z) in
      (no_difference (length out) 16 c.0, readable w (clear_all (read_faults w) c.1))

  header_left : m ≡ header_bytes (header_of w)
  header_left = (agree o (into_done w out accepted.0 (read_0 w accepted.1) (header_bytes (header_of w)) refl)).1

  kind_left : get_or m 5 0 ≡ kind_of w
  unfolding header_of
  kind_left = ap (λ (l : List ℕ). get_or l 5 0) header_left ∙ kind_byte (header_of w)

  -- one other header bit, which leaves the number of covered bits: 5, and nothing is touched
  pub into_damaged : (v out' : List ℕ) (r : ℕ) (m' : List ℕ) (i : ℕ) → OneBit w v i → covered (kind_of v) ≡ covered (kind_of w)
      → length out' ≡ 16 → Is (read_into v out') r m' → (r ≡ 5) × (m' ≡ out')
  into_damaged v out' r m' i d s l q = agree q (into_refused v out' l CrcWrong (damaged w v i d s accepted.1))

  -- of stream types 2 and 3
  module _ (above : 2 ≤ get_or m 5 0) where
    has : has_parity (kind_of w) ≡ true
    has = has_from (kind_of w) (omega (arith, above, kind_left)) accepted.1.kind_is

    parity_left : get_or m 7 0 ≡ held_of w
    unfolding header_of holding_of
    parity_left = ap (λ (l : List ℕ). get_or l 7 0) header_left ∙ parity_byte (header_of w) ∙ choose_true (held_of w) 0 has

    -- bit k of byte 7 is set exactly where generator and parity bit of part k both agree
    pub into_means : (k : ℕ) → k < 4 → (get_or m 7 0 / 2 ^ k % 2 ≡ 1) ↔ Sound (received w k)
    into_means k l =
        let t = meaning (received w k) (received_bits w k) in
        let e : get_or m 7 0 / 2 ^ k % 2 ≡ held_of w / 2 ^ k % 2 = ap (λ (x : ℕ). x / 2 ^ k % 2) parity_left in
        (λ p. t.0 (held_set w k l (sym e ∙ p)), λ p. e ∙ held_true w k l (t.1 p))

    -- an odd number of other bits of part k, which holds: the header differs in byte 7 alone, which is less the bit of part k
    module _ (v out' : List ℕ) (r : ℕ) (m' : List ℕ) (k : ℕ) (set : get_or m 7 0 / 2 ^ k % 2 ≡ 1) (d : OddIn w v k) (l : length out' ≡ 16) (q : Is (read_into v out') r m') where
      kind_v : kind_of v ≡ kind_of w
      kind_v = same_behind w v k d 12268 3 (omega arith) (omega arith)

      read_v : (r ≡ 0) × (m' ≡ header_bytes (header_of v))
      read_v = agree q (into_done v out' l (read_0 v (still_readable w v k d accepted.1 has)) (header_bytes (header_of v)) refl)

      parity_v : get_or m' 7 0 ≡ held_of v
      unfolding header_of holding_of
      parity_v = ap (λ (x : List ℕ). get_or x 7 0) read_v.1 ∙ parity_byte (header_of v) ∙ choose_true (held_of v) 0 (ap has_parity kind_v ∙ has)

      pub into_part_seen : PartSeenIn m r m' k
      unfolding header_of
      into_part_seen = record {
        answer = read_v.0;
        before = ap (take 7) read_v.1
            ∙ same_before (header_of v) (header_of w) (same_rfu w v k d has) (same_behind w v k d 12260 8 (omega arith) (omega arith)) kind_v (same_behind w v k d 12271 3 (omega arith) (omega arith))
            ∙ ap (take 7) (sym header_left);
        behind = ap (drop 8) read_v.1 ∙ same_behind_it (header_of v) (header_of w) (ap₂ (λ (x y : ℕ). choose (eqb x 3) y 0) kind_v (same_behind w v k d 12248 12 (omega arith) (omega arith))) ∙ ap (drop 8) (sym header_left);
        parity = ap (λ (x : ℕ). x + 2 ^ k) parity_v ∙ part_fails w v k d (sym (ap (λ (x : ℕ). x / 2 ^ k % 2) parity_left) ∙ set) ∙ sym parity_left;
      }
