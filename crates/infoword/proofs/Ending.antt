-- Laws of the bits that end a word: its fields from them, and them from its fields.
-- Assumes nothing.
use Prim.Native.Nat.{ℕ, ◌+◌, ◌-◌, ◌^◌, ◌≤◌, ◌<◌}
use mathlib.Core.Bool.{true, false}
use mathlib.Core.Path.{◌≡◌, sym, ap, ap₂, ◌∙◌}
use mathlib.Core.List.{List, ◌++◌, append_assoc}
use native.Mathlib.Omega.{arith}
use borrow.Author.Tests.{eq-eqb, ne_eqb}
use lib.Dec.{eqb}
use lib.ListN.{length, take, drop, length-append, length-drop, take-append-drop}
use lib.Seq.{take_at, drop_at, drop-append-add, drop-drop, take_all, length-take-le}
use Rattle.ground.proofs.Choice.{choose_true, choose_false, choose_most}
use Rattle.bits.specs.Lists.{bits, num, unpack, Below}
use Rattle.bits.specs.Places.{field_at}
use Rattle.bits.proofs.Below.{below_take, below_drop}
use Rattle.bits.proofs.Lists.{bits_length, bits_num, num_bits, unpack_length, unpack_below}
use Rattle.bits.proofs.Joined.{run_unpack, field_num}
use Rattle.crc.proofs.Laws.{crc_lt}
use Rattle.infoword.specs.Suffix.{id_of, kind_of, version_of, crc_field_of, spare_of, has_parity, lead_bits, rfu_bits, rfu_of, covered, covered_of, header_crc, header, closed}
use Rattle.infoword.proofs.Closing.{has_3, by_parity, covered_long, covered_short, covered_run}

pub header_crc_lt : (h : List ℕ) → header_crc h < 256
unfolding header_crc
header_crc_lt h = crc_lt 8 0x2F h

pub lead_long : (kind : ℕ) → has_parity kind ≡ true → lead_bits kind ≡ 32
unfolding lead_bits
lead_long kind e = choose_true 32 4 e

pub lead_short : (kind : ℕ) → has_parity kind ≡ false → lead_bits kind ≡ 4
unfolding lead_bits
lead_short kind e = choose_false 32 4 e

-- the CRC covers them and the 14 bits behind them
pub covered_lead : (kind : ℕ) → covered kind ≡ lead_bits kind + 14
covered_lead kind =
    by_parity kind
    (λ e. covered_long kind e ∙ ap (λ (r : ℕ). r + 14) (sym (lead_long kind e)))
    (λ e. covered_short kind e ∙ ap (λ (r : ℕ). r + 14) (sym (lead_short kind e)))

pub lead_most : (kind : ℕ) → lead_bits kind ≤ 32
lead_most kind = by_parity kind (λ e. omega (arith, lead_long kind e)) (λ e. omega (arith, lead_short kind e))

-- the bits before STS_ID, as a number
unfoldable pub lead_of : List ℕ → ℕ
lead_of w = field_at w (12260 - lead_bits (kind_of w)) (lead_bits (kind_of w))

-- RFU is the first 20 of them in type 3
pub rfu_of_3 : (w : List ℕ) → kind_of w ≡ 3 → rfu_of w ≡ field_at w 12228 20
unfolding rfu_of rfu_bits
rfu_of_3 w e =
    ap₂ (λ (r n : ℕ). field_at w (12260 - r) n) (lead_long (kind_of w) (has_3 (kind_of w) e)) (choose_true 20 (lead_bits (kind_of w)) (eq-eqb (kind_of w) 3 e))

pub rfu_most : (kind : ℕ) → rfu_bits kind ≤ 32
unfolding rfu_bits
rfu_most kind = choose_most (λ (r : ℕ). r) 32 (eqb kind 3) 20 (lead_bits kind) (omega arith) (lead_most kind)

-- and all of them in any other
pub rfu_of_other : (w : List ℕ) → (kind_of w ≡ 3 → ⊥) → rfu_of w ≡ field_at w (12260 - lead_bits (kind_of w)) (lead_bits (kind_of w))
unfolding rfu_of rfu_bits
rfu_of_other w n = ap (field_at w (12260 - lead_bits (kind_of w))) (choose_false 20 (lead_bits (kind_of w)) (ne_eqb (kind_of w) 3 n))

pub lead_rfu : (w : List ℕ) → (kind_of w ≡ 3 → ⊥) → lead_of w ≡ rfu_of w
unfolding lead_of
lead_rfu w n = sym (rfu_of_other w n)

-- the last 28 bits of a word
abbrev pub ended : ℕ → ℕ → ℕ → ℕ → ℕ → List ℕ
ended id kind version crc spare = bits 8 id ++ (bits 3 kind ++ (bits 3 version ++ (bits 8 crc ++ bits 6 spare)))

pub closed_ended : (lead : List ℕ) (id kind version : ℕ) → closed (header lead id kind version) ≡ lead ++ ended id kind version (header_crc (header lead id kind version)) 0
unfolding closed header
closed_ended lead id kind version = simp append_assoc

-- a word that ends in them
module _ (w F : List ℕ) (id kind version crc spare : ℕ) (n : length w ≡ 1536) (m : length F ≡ 12260) (e : unpack w ≡ F ++ ended id kind version crc spare) where
  at : (k i : ℕ) → i ≤ 32 → k + i ≤ 28 → field_at w (12260 + k) i ≡ num (take i (drop k (ended id kind version crc spare)))
  at k i h l =
      field_num w (12260 + k) i h (rw n (omega arith))
      ∙ ap (λ (x : List ℕ). num (take i (drop (12260 + k) x))) e
      ∙ ap (λ (j : ℕ). num (take i (drop (j + k) (F ++ ended id kind version crc spare)))) (sym m)
      ∙ ap (λ (x : List ℕ). num (take i x)) (drop-append-add F (ended id kind version crc spare) k)

  pub id_is : id < 256 → id_of w ≡ id
  unfolding bits
  id_is h = at 0 8 (omega arith) (omega arith) ∙ num_bits 8 id h

  pub kind_is : kind < 8 → kind_of w ≡ kind
  unfolding bits
  kind_is h = at 8 3 (omega arith) (omega arith) ∙ num_bits 3 kind h

  pub version_is : version < 8 → version_of w ≡ version
  unfolding bits
  version_is h = at 11 3 (omega arith) (omega arith) ∙ num_bits 3 version h

  pub crc_field_is : crc < 256 → crc_field_of w ≡ crc
  unfolding bits
  crc_field_is h = at 14 8 (omega arith) (omega arith) ∙ num_bits 8 crc h

  pub spare_is : spare < 64 → spare_of w ≡ spare
  unfolding bits
  spare_is h = at 22 6 (omega arith) (omega arith) ∙ num_bits 6 spare h

-- and has so many bits before them
module _ (w B : List ℕ) (r v id kind version crc spare : ℕ) (n : length w ≡ 1536) (h : r ≤ 32) (m : length B + r ≡ 12260)
    (e : unpack w ≡ B ++ (bits r v ++ ended id kind version crc spare)) where
  run : (i : ℕ) → i ≤ r + 28 → take i (drop (12260 - r) (unpack w)) ≡ take i (bits r v ++ ended id kind version crc spare)
  run i l =
      let k : length B ≡ 12260 - r = omega arith in
      ap (λ (x : List ℕ). take i (drop (12260 - r) x)) e ∙ ap (take i) (drop_at B (bits r v ++ ended id kind version crc spare) (12260 - r) k)

  pub lead_field : v < 2 ^ r → field_at w (12260 - r) r ≡ v
  lead_field l =
      field_num w (12260 - r) r h (rw n (omega arith)) ∙ ap num (run r (omega arith) ∙ take_at (bits r v) (ended id kind version crc spare) r (bits_length r v))
      ∙ num_bits r v l

  -- the bits that the CRC covers
  pub covered_is : covered (kind_of w) ≡ r + 14 → covered_of w ≡ header (bits r v) id kind version
  unfolding header
  covered_is c =
      let f : 12274 - (r + 14) ≡ 12260 - r = omega arith in
      let k : length (bits r v ++ bits 8 id ++ bits 3 kind ++ bits 3 version) ≡ r + 14 = simp (length-append, bits_length) (omega arith) in
      let s : bits r v ++ ended id kind version crc spare ≡ (bits r v ++ bits 8 id ++ bits 3 kind ++ bits 3 version) ++ (bits 8 crc ++ bits 6 spare) = simp append_assoc in
      covered_run w (r + 14) c
      ∙ run_unpack w (12274 - (r + 14)) (r + 14) (rw (n, f) (omega arith))
      ∙ ap (λ (x : ℕ). take (r + 14) (drop x (unpack w))) f
      ∙ run (r + 14) (omega arith)
      ∙ ap (take (r + 14)) s
      ∙ take_at (bits r v ++ bits 8 id ++ bits 3 kind ++ bits 3 version) (bits 8 crc ++ bits 6 spare) (r + 14) k

-- a word of 1,536 bytes, taken apart
module _ (w : List ℕ) (n : length w ≡ 1536) where
  all : length (unpack w) ≡ 12288
  all = unpack_length w ∙ omega arith

  -- a run of its bits is the field that stands there
  pub field_run : (at i : ℕ) → i ≤ 32 → at + i ≤ 12288 → take i (drop at (unpack w)) ≡ bits i (field_at w at i)
  field_run at i h l =
      let x : List ℕ = take i (drop at (unpack w)) in
      let m : length x ≡ i = length-take-le i (drop at (unpack w)) (rw (length-drop, all) (omega arith)) in
      let b : Below 2 x = below_take 2 i (drop at (unpack w)) (below_drop 2 at (unpack w) (unpack_below w)) in
      sym (ap (bits i) (field_num w at i h (rw n (omega arith))) ∙ ap (λ (j : ℕ). bits j (num x)) (sym m) ∙ bits_num x b)

  next : (at i : ℕ) → i ≤ 32 → at + i ≤ 12288 → drop at (unpack w) ≡ bits i (field_at w at i) ++ drop (at + i) (unpack w)
  next at i h l =
      sym (take-append-drop i (drop at (unpack w))) ∙ ap₂ (λ (x y : List ℕ). x ++ y) (field_run at i h l) (drop-drop i at (unpack w))

  last : drop 12282 (unpack w) ≡ bits 6 (spare_of w)
  last = sym (take_all 6 (drop 12282 (unpack w)) (rw (length-drop, all) (omega arith))) ∙ field_run 12282 6 (omega arith) (omega arith)

  pub ending : drop 12260 (unpack w) ≡ ended (id_of w) (kind_of w) (version_of w) (crc_field_of w) (spare_of w)
  ending =
      next 12260 8 (omega arith) (omega arith) ∙ ap (λ (x : List ℕ). bits 8 (id_of w) ++ x)
      (next 12268 3 (omega arith) (omega arith) ∙ ap (λ (x : List ℕ). bits 3 (kind_of w) ++ x)
      (next 12271 3 (omega arith) (omega arith) ∙ ap (λ (x : List ℕ). bits 3 (version_of w) ++ x)
      (next 12274 8 (omega arith) (omega arith) ∙ ap (λ (x : List ℕ). bits 8 (crc_field_of w) ++ x) last)))

  -- what stands before so many bits, these, and what ends the word
  pub apart : (r : ℕ) → r ≤ 32 → unpack w ≡ take (12260 - r) (unpack w) ++ (bits r (field_at w (12260 - r) r) ++ ended (id_of w) (kind_of w) (version_of w) (crc_field_of w) (spare_of w))
  apart r h =
      let f : 12260 - r + r ≡ 12260 = omega arith in
      sym (take-append-drop (12260 - r) (unpack w))
      ∙ ap (λ (x : List ℕ). take (12260 - r) (unpack w) ++ x)
      (next (12260 - r) r h (omega arith)
      ∙ ap (λ (x : List ℕ). bits r (field_at w (12260 - r) r) ++ x) (ap (λ (k : ℕ). drop k (unpack w)) f ∙ ending))

  -- the covered bits are the header of the word's fields
  pub covered_fields : covered_of w ≡ header (bits (lead_bits (kind_of w)) (lead_of w)) (id_of w) (kind_of w) (version_of w)
  unfolding lead_of
  covered_fields =
      let r : ℕ = lead_bits (kind_of w) in
      let h : r ≤ 32 = lead_most (kind_of w) in
      let m : length (take (12260 - r) (unpack w)) + r ≡ 12260 = rw (length-take-le (12260 - r) (unpack w) (rw all (omega arith))) (omega arith) in
      covered_is w (take (12260 - r) (unpack w)) r (field_at w (12260 - r) r) (id_of w) (kind_of w) (version_of w) (crc_field_of w) (spare_of w) n h m (apart r h) (covered_lead (kind_of w))

  -- a word whose spare bits are zero and whose CRC is right ends in the closed header of its fields
  pub closed_fields : spare_of w ≡ 0 → crc_field_of w ≡ header_crc (covered_of w)
      → unpack w ≡ take (12260 - lead_bits (kind_of w)) (unpack w) ++ closed (header (bits (lead_bits (kind_of w)) (lead_of w)) (id_of w) (kind_of w) (version_of w))
  unfolding lead_of
  closed_fields z c =
      let r : ℕ = lead_bits (kind_of w) in
      let lead : List ℕ = bits r (field_at w (12260 - r) r) in
      apart r (lead_most (kind_of w))
      ∙ ap (λ (x : List ℕ). take (12260 - r) (unpack w) ++ x)
      (ap₂ (λ (x y : ℕ). lead ++ ended (id_of w) (kind_of w) (version_of w) x y) (c ∙ ap header_crc covered_fields) z ∙ sym (closed_ended lead (id_of w) (kind_of w) (version_of w)))
