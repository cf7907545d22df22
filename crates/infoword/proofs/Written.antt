-- Laws of a word that is written: its length, its fields, its packet and its parity parts.
-- Assumes nothing.
use Prim.Native.Nat.{ℕ, ◌+◌, ◌-◌, ◌*◌, ◌/◌, ◌%◌, ◌^◌, ◌≤◌, ◌<◌}
use mathlib.Core.Bool.{Bool, true, false}
use mathlib.Core.Path.{◌≡◌, refl, sym, ap, ap₂, ◌∙◌, subst}
use mathlib.Core.List.{List, [], ◌++◌, append_assoc}
use native.Mathlib.Nat.{zero-add, zero-div}
use native.Mathlib.Decide.{dec_lt, ℕ_discrete}
use native.Mathlib.Omega.{arith}
use lib.Dec.{eqb}
use lib.Pow.{pow_pos}
use lib.ListN.{length, take, drop, replicate, length-append, length-replicate, get_or-replicate, get_or, get_or-append, get_or-eq_default}
use lib.Seq.{take_at, drop-append-add, get_or-append-add}
use Rattle.ground.specs.Choice.{choose}
use Rattle.ground.proofs.Choice.{choose_true, choose_false}
use Rattle.ground.proofs.Table.{get_or_tab}
use Rattle.bits.specs.Lists.{bits, num, unpack, pack, Below}
use Rattle.bits.specs.Places.{bit_at, number, field_at}
use Rattle.bits.proofs.Below.{below_append}
use Rattle.bits.proofs.Lists.{bits_length, bits_below, num_bits, unpack_length, unpack_append, unpack_pack, pack_length}
use Rattle.bits.proofs.Places.{number_append, number_cong, number_zeros, field_is, bit_front}
use Rattle.bits.proofs.Joined.{run_below, number_num}
use Rattle.parity.specs.Part.{message_at, part_of, parts_of, held_of}
use Rattle.parity.proofs.Laws.{part_lt}
use Rattle.parity.proofs.Which.{held_all}
use Rattle.infoword.specs.Suffix.{id_of, kind_of, version_of, crc_field_of, spare_of, has_parity, lead_bits, rfu_of, covered, covered_of, header_crc, header, closed}
use Rattle.infoword.specs.Word.{packet_bytes, front_bytes, filled, fields49, parity_parts, word_with, word_of}
use Rattle.infoword.proofs.Fields49.{fields49_length, fields49_below, fields49_at, parts_are}
use Rattle.infoword.proofs.Ending.{header_crc_lt, lead_long, lead_short, lead_most, covered_lead, lead_of, lead_rfu, ended, closed_ended, id_is, kind_is, version_is, crc_field_is, spare_is, lead_field, covered_is}
use Rattle.infoword.proofs.Closing.{has_2, by_parity}
use Rattle.infoword.proofs.Sealing.{header_length, header_below, closed_length, closed_below, parts_front}

-- the sizes, by stream type
pub front_long : (kind : ℕ) → has_parity kind ≡ true → front_bytes kind ≡ 1504
front_long kind e = choose_true 1504 1532 e

pub front_short : (kind : ℕ) → has_parity kind ≡ false → front_bytes kind ≡ 1532
front_short kind e = choose_false 1504 1532 e

pub packet_long : (kind : ℕ) → has_parity kind ≡ true → packet_bytes kind ≡ 1504
packet_long kind e = choose_true 1504 (choose (eqb kind 1) 1532 0) e

-- no packet is larger than the bytes that hold it
pub packet_le : (kind : ℕ) → packet_bytes kind ≤ front_bytes kind
packet_le kind = at (has_parity kind) (eqb kind 1)
  where
    at : (a b : Bool) → choose a 1504 (choose b 1532 0) ≤ choose a 1504 1532
    at true b = omega arith
    at false true = omega arith
    at false false = omega arith

pub filled_length : (n : ℕ) (p : List ℕ) → length p ≤ n → length (filled n p) ≡ n
unfolding filled
filled_length n p h = simp (length-append, length-replicate {A = ℕ}) (omega arith)

-- behind the packet stand zeros
pub filled_at : (n : ℕ) (p : List ℕ) (i : ℕ) → get_or (filled n p) i 0 ≡ get_or p i 0
unfolding filled
filled_at n p i =
    elim (dec_lt i (length p)) [
      | yes h ↦ get_or-append p (replicate (n - length p) 0) 0 i h
      | no h ↦ behind (omega arith)
    ]
  where
    zeros : (n k : ℕ) → ◌≡◌ {A = ℕ} (get_or (replicate n 0) k 0) 0
    zeros n k =
        elim (dec_lt k n) [
          | yes l ↦ get_or-replicate n k 0 0 l
          | no l ↦ (let e : length (replicate {A = ℕ} n 0) ≤ k = rw (length-replicate {A = ℕ}) (omega arith) in get_or-eq_default (replicate n 0) 0 e)
        ]

    behind : length p ≤ i → get_or (p ++ replicate (n - length p) 0) i 0 ≡ get_or p i 0
    behind h =
        let e : i ≡ length p + (i - length p) = omega arith in
        ap (λ (k : ℕ). get_or (p ++ replicate (n - length p) 0) k 0) e
        ∙ get_or-append-add p (replicate (n - length p) 0) (i - length p) 0
        ∙ zeros (n - length p) (i - length p) ∙ sym (get_or-eq_default p 0 h)

pub parity_long : (kind : ℕ) (p : List ℕ) → has_parity kind ≡ true → parity_parts kind p ≡ fields49 (parts_of p)
unfolding parity_parts
parity_long kind p e = choose_true (fields49 (parts_of p)) [] e

pub parity_short : (kind : ℕ) (p : List ℕ) → has_parity kind ≡ false → parity_parts kind p ≡ []
unfolding parity_parts
parity_short kind p e = choose_false (fields49 (parts_of p)) [] e

pub parity_below : (kind : ℕ) (p : List ℕ) → Below 2 (parity_parts kind p)
unfolding parity_parts
parity_below kind p = at (has_parity kind)
  where
    at : (b : Bool) → Below 2 (choose b (fields49 (parts_of p)) [])
    at true = fields49_below (parts_of p)
    at false = tt

-- what is before the header
parity_length : (kind : ℕ) (p : List ℕ) → 8 * front_bytes kind + length (parity_parts kind p) + lead_bits kind ≡ 12260
parity_length kind p =
    by_parity kind
    (λ e.
    let m : length (parity_parts kind p) ≡ 196 = ap length (parity_long kind p e) ∙ fields49_length (parts_of p) ∙ ap (λ (x : ℕ). 49 * x) (parts_are p).0 in
    omega (arith, front_long kind e, lead_long kind e))
    (λ e.
    let m : length (parity_parts kind p) ≡ 0 = ap length (parity_short kind p e) in
    omega (arith, front_short kind e, lead_short kind e))

-- a word with the number v before STS_ID
module _ (kind id v : ℕ) (p : List ℕ) (h : length p ≤ front_bytes kind) where
  abbrev lead : List ℕ
  lead = bits (lead_bits kind) v

  abbrev word : List ℕ
  word = word_with kind id lead p

  abbrev crc : ℕ
  crc = header_crc (header lead id kind 0)

  before : List ℕ
  before = unpack (filled (front_bytes kind) p) ++ parity_parts kind p

  before_length : length before + lead_bits kind ≡ 12260
  unfolding before
  before_length =
      let f : length (filled (front_bytes kind) p) ≡ front_bytes kind = filled_length (front_bytes kind) p h in
      let u : length (unpack (filled (front_bytes kind) p)) ≡ 8 * front_bytes kind = unpack_length (filled (front_bytes kind) p) ∙ ap (λ (x : ℕ). 8 * x) f in
      let a : length (unpack (filled (front_bytes kind) p) ++ parity_parts kind p) ≡ 8 * front_bytes kind + length (parity_parts kind p) =
      length-append (unpack (filled (front_bytes kind) p)) (parity_parts kind p) ∙ ap (λ (x : ℕ). x + length (parity_parts kind p)) u in
      omega (arith, parity_length kind p)

  front_most : front_bytes kind ≤ 1532
  front_most = at (has_parity kind)
    where
      at : (a : Bool) → choose a 1504 1532 ≤ 1532
      at true = omega arith
      at false = omega arith

  pub word_length : length word ≡ 1536
  unfolding word_with
  word_length =
      let s : List ℕ = parity_parts kind p ++ closed (header lead id kind 0) in
      length-append (filled (front_bytes kind) p) (pack (1536 - front_bytes kind) s) ∙ omega (arith, filled_length (front_bytes kind) p h, pack_length (1536 - front_bytes kind) s, front_most)

  pub word_unpacked : unpack word ≡ unpack (filled (front_bytes kind) p) ++ (parity_parts kind p ++ closed (header lead id kind 0))
  unfolding word_with
  word_unpacked =
      let t : List ℕ = closed (header lead id kind 0) in
      let s : List ℕ = parity_parts kind p ++ t in
      let b : Below 2 s = below_append 2 (parity_parts kind p) t (parity_below kind p) (closed_below (header lead id kind 0) (header_below lead id kind 0 (bits_below (lead_bits kind) v))) in
      let c : length t ≡ lead_bits kind + 28 =
      closed_length (header lead id kind 0) ∙ omega (arith, header_length lead id kind 0, bits_length (lead_bits kind) v) in
      let l : length s ≡ 8 * (1536 - front_bytes kind) = length-append (parity_parts kind p) t ∙ omega (arith, parity_length kind p, front_most) in
      unpack_append (filled (front_bytes kind) p) (pack (1536 - front_bytes kind) s)
      ∙ ap (λ (x : List ℕ). unpack (filled (front_bytes kind) p) ++ x) (unpack_pack (1536 - front_bytes kind) s b l)

  word_bits_lem : unpack word ≡ before ++ (lead ++ ended id kind 0 crc 0)
  unfolding before
  word_bits_lem =
      word_unpacked
      ∙ sym (append_assoc (unpack (filled (front_bytes kind) p)) (parity_parts kind p) (closed (header lead id kind 0)))
      ∙ ap (λ (x : List ℕ). unpack (filled (front_bytes kind) p) ++ parity_parts kind p ++ x) (closed_ended lead id kind 0)

  -- its fields
  all_length : length (before ++ lead) ≡ 12260
  all_length = length-append before lead ∙ ap (λ (x : ℕ). length before + x) (bits_length (lead_bits kind) v) ∙ before_length

  split : unpack word ≡ (before ++ lead) ++ ended id kind 0 crc 0
  split = word_bits_lem ∙ sym (append_assoc before lead (ended id kind 0 crc 0))

  pub id_back : id < 256 → id_of word ≡ id
  id_back i = id_is word (before ++ lead) id kind 0 crc 0 word_length all_length split i

  pub kind_back : kind < 8 → kind_of word ≡ kind
  kind_back k = kind_is word (before ++ lead) id kind 0 crc 0 word_length all_length split k

  pub version_back : version_of word ≡ 0
  version_back = version_is word (before ++ lead) id kind 0 crc 0 word_length all_length split (omega arith)

  pub spare_back : spare_of word ≡ 0
  spare_back = spare_is word (before ++ lead) id kind 0 crc 0 word_length all_length split (omega arith)

  pub lead_back : kind < 8 → v < 2 ^ lead_bits kind → lead_of word ≡ v
  unfolding lead_of
  lead_back k l =
      ap (λ (x : ℕ). field_at word (12260 - lead_bits x) (lead_bits x)) (kind_back k)
      ∙ lead_field word before (lead_bits kind) v id kind 0 crc 0 word_length (lead_most kind) before_length word_bits_lem l

  pub crc_back : kind < 8 → crc_field_of word ≡ header_crc (covered_of word)
  crc_back k =
      crc_field_is word (before ++ lead) id kind 0 crc 0 word_length all_length split (header_crc_lt (header lead id kind 0))
      ∙ ap header_crc (sym (covered_is word before (lead_bits kind) v id kind 0 crc 0 word_length (lead_most kind) before_length word_bits_lem (ap covered (kind_back k) ∙ covered_lead kind)))

  -- it begins with its packet
  pub packet_first : take (length p) word ≡ p
  unfolding word_with filled
  packet_first =
      let s : List ℕ = pack (1536 - front_bytes kind) (parity_parts kind p ++ closed (header lead id kind 0)) in
      ap (take (length p)) (append_assoc p (replicate (front_bytes kind - length p) 0) s) ∙ take_at p (replicate (front_bytes kind - length p) 0 ++ s) (length p) refl

-- RFU of types 0, 1 and 2 is zero
pub rfu_back : (kind id : ℕ) (p : List ℕ) → length p ≤ front_bytes kind → kind < 8 → (kind ≡ 3 → ⊥) → rfu_of (word_of kind id p) ≡ 0
rfu_back kind id p h k n =
    sym (lead_rfu (word_of kind id p) (λ t. n (sym (kind_back kind id 0 p h k) ∙ t))) ∙ lead_back kind id 0 p h k (pow_pos (lead_bits kind))

-- of types 2 and 3 all four parts hold
module _ (kind id v : ℕ) (p : List ℕ) (e : has_parity kind ≡ true) (n : length p ≡ 1504) where
  abbrev all : List ℕ
  all = word_with kind id (bits (lead_bits kind) v) p

  room : length p ≤ front_bytes kind
  room = omega (arith, front_long kind e)

  same_parts : parts_of all ≡ parts_of p
  unfolding word_with filled
  same_parts =
      let s : List ℕ = pack (1536 - front_bytes kind) (parity_parts kind p ++ closed (header (bits (lead_bits kind) v) id kind 0)) in
      ap parts_of (append_assoc p (replicate (front_bytes kind - length p) 0) s) ∙ parts_front p (replicate (front_bytes kind - length p) 0 ++ s) n

  part_at : (w : List ℕ) (k : ℕ) → k < 4 → get_or (parts_of w) k 0 ≡ part_of w (376 * k)
  unfolding parts_of
  part_at w k h = get_or_tab (λ j. part_of w (376 * j)) 0 0 4 k h ∙ ap (λ (j : ℕ). part_of w (376 * j)) (zero-add k)

  part_there : (k : ℕ) → k < 4 → number (bit_at all) (12032 + 49 * k) 49 ≡ part_of all (376 * k)
  unfolding part_of
  part_there k h =
      let U : List ℕ = unpack (filled (front_bytes kind) p) in
      let t : List ℕ = closed (header (bits (lead_bits kind) v) id kind 0) in
      let l : length U ≡ 12032 = unpack_length (filled (front_bytes kind) p) ∙ ap (λ (x : ℕ). 8 * x) (filled_length (front_bytes kind) p room ∙ front_long kind e) in
      let f : 12032 + 49 * k ≡ length U + 49 * k = ap (λ (x : ℕ). x + 49 * k) (sym l) in
      number_num all (12032 + 49 * k) 49 (rw (word_length kind id v p room) (omega arith))
      ∙ ap (λ (x : List ℕ). num (take 49 (drop (12032 + 49 * k) x))) (word_unpacked kind id v p room ∙ ap (λ (x : List ℕ). U ++ (x ++ t)) (parity_long kind p e))
      ∙ ap (λ (j : ℕ). num (take 49 (drop j (U ++ (fields49 (parts_of p) ++ t))))) f
      ∙ ap (λ (x : List ℕ). num (take 49 x)) (drop-append-add U (fields49 (parts_of p) ++ t) (49 * k))
      ∙ ap num (fields49_at (parts_of p) t k (omega (arith, (parts_are p).0)))
      ∙ ap (λ (x : ℕ). num (bits 49 x)) (ap (λ (x : List ℕ). get_or x k 0) (sym same_parts) ∙ part_at all k h)
      ∙ num_bits 49 (part_of all (376 * k)) (part_lt (message_at all (376 * k)) (run_below all (8 * (376 * k)) 3008))

  pub held_back : held_of all ≡ 15
  held_back = held_all all part_there

-- of types 0 and 2 there are 32 zeros before STS_ID: RFU of type 2, and of type 0 the end of the zeros and RFU
pub zeros_back : (kind id : ℕ) (p : List ℕ) → kind ≤ 2 → length p ≡ packet_bytes kind → (kind ≡ 1 → ⊥) → field_at (word_of kind id p) 12228 32 ≡ 0
unfolding lead_of word_with bit_at
zeros_back kind id p k n one =
    let fit : length p ≤ front_bytes kind = subst (λ (x : ℕ). x ≤ front_bytes kind) (sym n) (packet_le kind) in
    let w : List ℕ = word_of kind id p in
    let kw : kind_of w ≡ kind = kind_back kind id 0 p fit (omega arith) in
    let z : field_at w (12260 - lead_bits (kind_of w)) (lead_bits (kind_of w)) ≡ 0 = lead_back kind id 0 p fit (omega arith) (pow_pos (lead_bits kind)) in
    elim (ℕ_discrete kind 2) [
      | yes e ↦ ap (λ (r : ℕ). field_at w (12260 - r) r) (sym (lead_long (kind_of w) (has_2 (kind_of w) (kw ∙ e)))) ∙ z
      | no e ↦ (
          let dummy-kind : kind ≡ 0 = omega (arith, k, one, e) in
          let short : has_parity kind ≡ false = ap has_parity dummy-kind in
          let four : field_at w 12256 4 ≡ 0 = ap (λ (r : ℕ). field_at w (12260 - r) r) (sym (lead_short (kind_of w) (ap has_parity kw ∙ short))) ∙ z in
          let none : length p ≡ 0 = n ∙ ap packet_bytes dummy-kind in
          field_is w 12228 32 (omega arith) ∙ number_append (bit_at w) 12228 28 4
          ∙ ap₂ (λ (x y : ℕ). x * 16 + y) (number_cong (bit_at w) (λ k. 0) 12228 28 (λ k l. dummy (front_short kind short) none k l) ∙ number_zeros 12228 28) (sym (field_is w 12256 4 (omega arith)) ∙ four))
    ]
  where
    dummy : front_bytes kind ≡ 1532 → length p ≡ 0 → (k : ℕ) → k < 28 → bit_at (word_of kind id p) (12228 + k) ≡ 0
    dummy long none k l =
        let f : List ℕ = filled (front_bytes kind) p in
        let m : length f ≡ front_bytes kind = filled_length (front_bytes kind) p (subst (λ (x : ℕ). x ≤ front_bytes kind) (sym none) (omega arith)) in
        let most : 12256 ≤ 8 * length f = omega (arith, m, long) in
        bit_front f (pack (1536 - front_bytes kind) (parity_parts kind p ++ closed (header (bits (lead_bits kind) 0) id kind 0))) (12228 + k) (omega arith)
        ∙ ap (λ (x : ℕ). x / 2 ^ (7 - (12228 + k) % 8) % 2) (filled_at (front_bytes kind) p ((12228 + k) / 8) ∙ get_or-eq_default p 0 (subst (λ (x : ℕ). x ≤ (12228 + k) / 8) (sym none) (omega arith)))
        ∙ ap (λ (x : ℕ). x % 2) (zero-div (2 ^ (7 - (12228 + k) % 8)))
