-- Laws that lead from the steps of a writer to the word: a header that is closed over what stands before it, and Parity_Parts before it.
-- Assumes nothing.
use Prim.Native.Nat.{ℕ, ◌+◌, ◌-◌, ◌*◌, ◌/◌, ◌%◌, ◌^◌, ◌<◌}
use mathlib.Core.Bool.{Bool, true, false}
use mathlib.Core.Path.{◌≡◌, sym, ap, ap₂, ◌∙◌}
use mathlib.Core.List.{List, [], ◌++◌, append_assoc, append-nil}
use native.Mathlib.Omega.{arith}
use lib.ListN.{length, replicate, length-append}
use lib.Pow.{pow_pos}
use Rattle.ground.specs.Choice.{choose}
use Rattle.ground.proofs.Table.{tab_cong}
use Rattle.bits.specs.Lists.{bits, unpack, pack, Below}
use Rattle.bits.specs.Places.{bit_at}
use Rattle.bits.proofs.Below.{below_append}
use Rattle.bits.proofs.Lists.{bits_length, bits_below, unpack_length, unpack_append, unpack_pack, pack_length, pack_append}
use Rattle.bits.proofs.Places.{bit_front}
use Rattle.bits.proofs.Numbers.{bits_join}
use Rattle.parity.specs.Part.{parity_of, part_of, parts_of}
use Rattle.infoword.specs.Suffix.{kind_of, has_parity, lead_bits, covered, covered_of, header_crc, header, closed}
use Rattle.infoword.specs.Word.{filled, fields49, parity_parts, word_with, word_of}
use Rattle.infoword.specs.Steps.{sealed}
use Rattle.infoword.proofs.Fields49.{fields49_length, fields49_below, parts_are}
use Rattle.infoword.proofs.Ending.{lead_long, lead_short, lead_most, covered_lead, ended, closed_ended, kind_is, covered_is}

-- the last 18 bits of a header as a number, Encap_Ver zero
pub header_number_with : (u id kind : ℕ) → id < 256 → kind < 8 → bits 18 (u * 0x4000 + (id * 0x40 + kind * 8)) ≡ header (bits 4 u) id kind 0
unfolding header
header_number_with u id kind i k =
    let e : u * 0x4000 + (id * 0x40 + kind * 8) ≡ u * 2 ^ 14 + (id * 2 ^ 6 + (kind * 2 ^ 3 + 0)) = omega arith in
    ap (bits 18) e ∙ bits_join 4 14 u (id * 2 ^ 6 + (kind * 2 ^ 3 + 0)) (omega arith)
    ∙ ap (λ (l : List ℕ). bits 4 u ++ l) (bits_join 8 6 id (kind * 2 ^ 3 + 0) (omega arith) ∙ ap (λ (l : List ℕ). bits 8 id ++ l) (bits_join 3 3 kind 0 (omega arith)))
    ∙ sym (append_assoc (bits 4 u) (bits 8 id) (bits 3 kind ++ bits 3 0))
    ∙ sym (append_assoc (bits 4 u ++ bits 8 id) (bits 3 kind) (bits 3 0))

-- with zeros at its front
pub header_number_lem : (id kind : ℕ) → id < 256 → kind < 8 → bits 18 (id * 0x40 + kind * 8) ≡ header (bits 4 0) id kind 0
header_number_lem id kind i k = ap (bits 18) (omega arith) ∙ header_number_with 0 id kind i k

pub header_length : (lead : List ℕ) (id kind version : ℕ) → length (header lead id kind version) ≡ length lead + 14
unfolding header
header_length lead id kind version = simp (length-append, bits_length) (omega arith)

pub header_below : (lead : List ℕ) (id kind version : ℕ) → Below 2 lead → Below 2 (header lead id kind version)
unfolding header
header_below lead id kind version b =
    below_append 2 (lead ++ bits 8 id ++ bits 3 kind) (bits 3 version)
    (below_append 2 (lead ++ bits 8 id) (bits 3 kind) (below_append 2 lead (bits 8 id) b (bits_below 8 id)) (bits_below 3 kind))
    (bits_below 3 version)

pub closed_length : (h : List ℕ) → length (closed h) ≡ length h + 14
unfolding closed
closed_length h = simp (length-append, bits_length) (omega arith)

pub closed_below : (h : List ℕ) → Below 2 h → Below 2 (closed h)
unfolding closed
closed_below h b = below_append 2 (h ++ bits 8 (header_crc h)) (bits 6 0) (below_append 2 h (bits 8 (header_crc h)) b (bits_below 8 (header_crc h))) (bits_below 6 0)

zeros : (m n : ℕ) → bits (m + n) 0 ≡ bits m 0 ++ bits n 0
zeros m n = ap (bits (m + n)) (omega arith) ∙ bits_join m n 0 0 (omega (arith, positive))
  where
    positive : 0 < 2 ^ n
    positive = pow_pos n

-- the last four bits apart
four_apart : (z v : ℕ) → bits (z + 4) v ≡ bits z (v / 16) ++ bits 4 (v % 16)
four_apart z v =
    let e : v ≡ v / 16 * 2 ^ 4 + v % 16 = omega arith in
    ap (bits (z + 4)) e ∙ bits_join z 4 (v / 16) (v % 16) (omega arith)

-- 1,532 bytes that end in a number but for its last four bits, and the header's last 18 bits behind them, which begin with these
module _ (front G : List ℕ) (z v id kind : ℕ) (n : length front ≡ 1532) (k : kind < 8) (r : z + 4 ≡ lead_bits kind) (g : unpack front ≡ G ++ bits z (v / 16)) where
  h : List ℕ
  h = header (bits 4 (v % 16)) id kind 0

  abbrev whole : List ℕ
  whole = header (bits (lead_bits kind) v) id kind 0

  sofar : List ℕ
  sofar = front ++ pack 4 (h ++ bits 14 0)

  sofar_length : length sofar ≡ 1536
  unfolding sofar
  sofar_length = simp (length-append, pack_length) (omega arith)

  sofar_bits : unpack sofar ≡ G ++ (bits (lead_bits kind) v ++ ended id kind 0 0 0)
  unfolding sofar h header
  sofar_bits =
      let s : List ℕ = h ++ bits 14 0 in
      let l : length s ≡ 32 = simp (length-append, bits_length) (omega arith) in
      let b : Below 2 s = below_append 2 h (bits 14 0) (header_below (bits 4 (v % 16)) id kind 0 (bits_below 4 (v % 16))) (bits_below 14 0) in
      let a : s ≡ bits 4 (v % 16) ++ ended id kind 0 0 0 = ap (λ (x : List ℕ). h ++ x) (zeros 8 6) ∙ simp append_assoc in
      let c : bits z (v / 16) ++ bits 4 (v % 16) ≡ bits (lead_bits kind) v = sym (four_apart z v) ∙ ap (λ (x : ℕ). bits x v) r in
      unpack_append front (pack 4 s) ∙ ap₂ (λ (x y : List ℕ). x ++ y) g (unpack_pack 4 s b l ∙ a)
      ∙ append_assoc G (bits z (v / 16)) (bits 4 (v % 16) ++ ended id kind 0 0 0)
      ∙ ap (λ (x : List ℕ). G ++ x) (sym (append_assoc (bits z (v / 16)) (bits 4 (v % 16)) (ended id kind 0 0 0)) ∙ ap (λ (x : List ℕ). x ++ ended id kind 0 0 0) c)

  G-length : length G + lead_bits kind ≡ 12260
  G-length =
      let a : length (unpack front) ≡ 12256 = unpack_length front ∙ omega arith in
      let b : length (unpack front) ≡ length G + z = ap length g ∙ length-append G (bits z (v / 16)) ∙ ap (λ (x : ℕ). length G + x) (bits_length z (v / 16)) in
      omega arith

  sofar_kind : kind_of sofar ≡ kind
  sofar_kind =
      kind_is sofar (G ++ bits (lead_bits kind) v) id kind 0 0 0 sofar_length
      (length-append G (bits (lead_bits kind) v) ∙ ap (λ (x : ℕ). length G + x) (bits_length (lead_bits kind) v) ∙ G-length)
      (sofar_bits ∙ sym (append_assoc G (bits (lead_bits kind) v) (ended id kind 0 0 0))) k

  -- the CRC is over what stands before STS_ID, be it before the last four bytes, and what is behind it
  pub sealed_is : sealed front (header (bits 4 (v % 16)) id kind 0) ≡ front ++ pack 4 (bits 4 (v % 16) ++ ended id kind 0 (header_crc whole) 0)
  unfolding sealed h header sofar
  sealed_is =
      let c : covered_of sofar ≡ whole =
      covered_is sofar G (lead_bits kind) v id kind 0 0 0 sofar_length (lead_most kind) G-length sofar_bits (ap covered sofar_kind ∙ covered_lead kind) in
      let a : h ++ bits 8 (header_crc whole) ++ bits 6 0 ≡ bits 4 (v % 16) ++ ended id kind 0 (header_crc whole) 0 = simp append_assoc in
      ap (λ (x : List ℕ). front ++ pack 4 (h ++ bits 8 (header_crc x) ++ bits 6 0)) c ∙ ap (λ (x : List ℕ). front ++ pack 4 x) a

-- types 0 and 1: the packet filled up, and the header behind it
pub word_short : (kind id : ℕ) (p : List ℕ) → has_parity kind ≡ false → kind < 8 → length (filled 1532 p) ≡ 1532
    → sealed (filled 1532 p) (header (bits 4 0) id kind 0) ≡ word_of kind id p
unfolding word_with parity_parts bits
word_short kind id p e k l =
    let r : lead_bits kind ≡ 4 = lead_short kind e in
    sealed_is (filled 1532 p) (unpack (filled 1532 p)) 0 0 id kind l k (sym r) (sym (append-nil (unpack (filled 1532 p))))
    ∙ ap (λ (x : List ℕ). filled 1532 p ++ pack 4 x)
    (ap (λ (x : ℕ). bits 4 0 ++ ended id kind 0 (header_crc (header (bits x 0) id kind 0)) 0) r ∙ sym (closed_ended (bits 4 0) id kind 0))
    ∙ sym (ap₂ (λ (b : Bool) (x : ℕ). filled (choose b 1504 1532) p ++ pack (1536 - choose b 1504 1532) (choose b (fields49 (parts_of p)) [] ++ closed (header (bits x 0) id kind 0))) e r)

-- the parity parts of a word are those of its first 1,504 bytes
pub parts_front : (p l : List ℕ) → length p ≡ 1504 → parts_of (p ++ l) ≡ parts_of p
unfolding parts_of part_of
parts_front p l n =
    tab_cong (λ k. part_of (p ++ l) (376 * k)) (λ k. part_of p (376 * k)) 0 4
    (λ k h. ap parity_of (tab_cong (bit_at (p ++ l)) (bit_at p) (8 * (376 * (0 + k))) 3008 (λ j q. bit_front p l (8 * (376 * (0 + k)) + j) (omega arith))))

-- types 2 and 3: the packet, its Parity_Parts, and the header behind them; v is what stands before STS_ID
pub word_long : (kind id v : ℕ) (p : List ℕ) → has_parity kind ≡ true → kind < 8 → length p ≡ 1504
    → sealed (p ++ pack 28 (fields49 (parts_of p) ++ bits 28 (v / 16))) (header (bits 4 (v % 16)) id kind 0) ≡ word_with kind id (bits 32 v) p
unfolding word_with parity_parts filled
word_long kind id v p e low n =
    let s : List ℕ = fields49 (parts_of p) in
    let t : List ℕ = s ++ bits 28 (v / 16) in
    let m : length s ≡ 196 = fields49_length (parts_of p) ∙ ap (λ (x : ℕ). 49 * x) (parts_are p).0 in
    let l : length t ≡ 224 = length-append s (bits 28 (v / 16)) ∙ omega (arith, bits_length 28 (v / 16)) in
    let b : Below 2 t = below_append 2 s (bits 28 (v / 16)) (fields49_below (parts_of p)) (bits_below 28 (v / 16)) in
    let front : List ℕ = p ++ pack 28 t in
    let k : length front ≡ 1532 = length-append p (pack 28 t) ∙ omega (arith, pack_length 28 t) in
    let r : lead_bits kind ≡ 32 = lead_long kind e in
    let c : ℕ = header_crc (header (bits 32 v) id kind 0) in
    let g : unpack front ≡ (unpack p ++ s) ++ bits 28 (v / 16) =
    unpack_append p (pack 28 t) ∙ ap (λ (x : List ℕ). unpack p ++ x) (unpack_pack 28 t b l) ∙ sym (append_assoc (unpack p) s (bits 28 (v / 16))) in
    let j : t ++ (bits 4 (v % 16) ++ ended id kind 0 c 0) ≡ s ++ closed (header (bits 32 v) id kind 0) =
    append_assoc s (bits 28 (v / 16)) (bits 4 (v % 16) ++ ended id kind 0 c 0)
    ∙ ap (λ (x : List ℕ). s ++ x)
    (sym (append_assoc (bits 28 (v / 16)) (bits 4 (v % 16)) (ended id kind 0 c 0)) ∙ ap (λ (x : List ℕ). x ++ ended id kind 0 c 0) (sym (four_apart 28 v)) ∙ sym (closed_ended (bits 32 v) id kind 0)) in
    let z : p ++ replicate (1504 - length p) 0 ≡ p = ap (λ (x : ℕ). p ++ replicate (1504 - x) 0) n ∙ append-nil p in
    sealed_is front (unpack p ++ s) 28 v id kind k low (sym r) g
    ∙ ap (λ (x : ℕ). front ++ pack 4 (bits 4 (v % 16) ++ ended id kind 0 (header_crc (header (bits x v) id kind 0)) 0)) r
    ∙ append_assoc p (pack 28 t) (pack 4 (bits 4 (v % 16) ++ ended id kind 0 c 0))
    ∙ ap (λ (x : List ℕ). p ++ x) (sym (pack_append 28 4 t (bits 4 (v % 16) ++ ended id kind 0 c 0) l) ∙ ap (pack 32) j)
    ∙ ap (λ (x : List ℕ). x ++ pack 32 (s ++ closed (header (bits 32 v) id kind 0))) (sym z)
    ∙ sym (ap (λ (a : Bool). p ++ replicate (choose a 1504 1532 - length p) 0 ++ pack (1536 - choose a 1504 1532) (choose a s [] ++ closed (header (bits 32 v) id kind 0))) e)

-- what stands before STS_ID in type 3, RFU zero and the address, is the address in 32 bits
pub address_lead : (address : ℕ) → address < 4096 → bits 20 0 ++ bits 12 address ≡ bits 32 address
address_lead address h = sym (ap (bits 32) (omega arith) ∙ bits_join 20 12 0 address h)
