-- One bit of the header of a word of an IP stream that is changed, be it of the stream type, has the word refused, where its address is one
-- that may stand there: the CRCs over 18 and over 46 bits differ by what the first eight bits of the address make of the register.
-- Assumes nothing.
use Prim.Native.Nat.{ℕ, ◌+◌, ◌-◌, ◌*◌, ◌/◌, ◌%◌, ◌<◌}
use mathlib.Core.Bool.{Bool, false, not}
use mathlib.Core.Path.{◌≡◌, refl, sym, ap, ap₂, ◌∙◌, subst}
use mathlib.Core.List.{List, ◌++◌}
use native.Mathlib.Decide.{ℕ_discrete, dec_le}
use native.Mathlib.Omega.{arith}
use borrow.Author.Tests.{eq-eqb, le-ltb, lt-ltb, ltb-false}
use lib.Bits.{bit_xor, xor_self}
use lib.Dec.{T, eqb, ltb}
use lib.ListN.{length}
use Rattle.ground.specs.Choice.{both, either}
use Rattle.ground.specs.Table.{all_below}
use Rattle.ground.proofs.Choice.{both_left, both_right, both_false, skip, both_first, both_second}
use Rattle.ground.proofs.Table.{at_all}
use Rattle.bits.specs.Lists.{bits}
use Rattle.bits.specs.Places.{bit_at, field_at}
use Rattle.bits.proofs.Numbers.{bits_join}
use Rattle.bits.proofs.Places.{bit_lt, number_append, field_is, field_lt}
use Rattle.crc.specs.Crc.{clock, clocks}
use Rattle.crc.proofs.Laws.{clocks_lt, clocks_append}
use Rattle.infoword.specs.Suffix.{id_of, kind_of, crc_field_of, has_parity, covered, covered_of, header_crc, header}
use Rattle.infoword.specs.Word.{ip_word}
use Rattle.infoword.proofs.Closing.{has_3, covered_long}
use Rattle.infoword.proofs.Ending.{lead_long, lead_short}
use Rattle.fields.specs.Report.{no_header_at, read_refusal}
use Rattle.fields.proofs.Faults.{Readable, read_5}
use Rattle.both_ways.specs.Damage.{OneBit}
use Rattle.both_ways.proofs.Damage.{damaged}
use Rattle.both_ways.proofs.IpWords.{ip_kind, ip_readable, ip_before}
use Rattle.both_ways.proofs.Registers.{before, behind, register, behind_lt, covered_of_lem, run_sum, header_sum}
use Rattle.both_ways.proofs.Types.{OneOff, in_first, in_second, in_third, kind_bits, one_off, before_it, behind_it, id_same, version_v, crc_v}

-- what the registers over 46 and over 18 bits differ by, where h is the first eight bits of the address, and the types by k
off : ℕ → ℕ → ℕ
off h k = behind (before (clocks 128 0x2F (bit_xor (clocks 128 0x2F 255 (bits 28 h)) 255) (bits 4 0)) 0) k

-- it is not nothing for any address up to 1,502, nor for FFF, where type 3 becomes 1 or 7
apart : ℕ → Bool
apart h = either (both (ltb 93 h) (not (eqb h 255))) (both (not (eqb (off h 2) 0)) (not (eqb (off h 4) 0)))

all_apart : T (all_below apart 256)
unfolding apart off before behind clocks clock bits
all_apart = tt

-- the types that differ from 3 in one bit
data Beside (kind : ℕ) : Type 0 where
  at_1 : kind ≡ 1 → Beside kind
  at_2 : kind ≡ 2 → Beside kind
  at_7 : kind ≡ 7 → Beside kind

beside_3 : (x y : List ℕ) → OneOff x y → kind_of y ≡ 3 → Beside (kind_of x)
beside_3 x y o three =
    let t : (bit_at y 12268 * 2 + bit_at y 12269) * 2 + bit_at y 12270 ≡ 3 = sym (kind_bits y) ∙ three in
    elim o [
      | in_first p q r ↦ at_7 (kind_bits x ∙ seven _ _ _ _ _ _ (bit_lt x 12268) (bit_lt y 12268) (bit_lt y 12269) (bit_lt y 12270) t p q r)
      | in_second p q r ↦ at_1 (kind_bits x ∙ one _ _ _ _ _ _ (bit_lt x 12269) (bit_lt y 12268) (bit_lt y 12269) (bit_lt y 12270) t p q r)
      | in_third p q r ↦ at_2 (kind_bits x ∙ two _ _ _ _ _ _ (bit_lt x 12270) (bit_lt y 12268) (bit_lt y 12269) (bit_lt y 12270) t p q r)
    ]
  where
    seven : (a b c a' b' c' : ℕ) → a < 2 → a' < 2 → b' < 2 → c' < 2 → (a' * 2 + b') * 2 + c' ≡ 3 → (a ≡ a' → ⊥) → b ≡ b' → c ≡ c' → (a * 2 + b) * 2 + c ≡ 7
    seven a b c a' b' c' h i j k e p q r = let z : a' ≡ 0 = omega arith in omega arith

    one : (a b c a' b' c' : ℕ) → b < 2 → a' < 2 → b' < 2 → c' < 2 → (a' * 2 + b') * 2 + c' ≡ 3 → a ≡ a' → (b ≡ b' → ⊥) → c ≡ c' → (a * 2 + b) * 2 + c ≡ 1
    one a b c a' b' c' h i j k e p q r = let z : a' ≡ 0 = omega arith in let y : b' ≡ 1 = omega arith in omega arith

    two : (a b c a' b' c' : ℕ) → c < 2 → a' < 2 → b' < 2 → c' < 2 → (a' * 2 + b') * 2 + c' ≡ 3 → a ≡ a' → b ≡ b' → (c ≡ c' → ⊥) → (a * 2 + b) * 2 + c ≡ 2
    two a b c a' b' c' h i j k e p q r = let z : a' ≡ 0 = omega arith in let y : b' ≡ 1 = omega arith in omega arith

-- the address by its first eight bits and its last four
registers : (address id kind other : ℕ) → bit_xor (behind (before (clocks 128 0x2F 255 (bits 32 address)) id) kind) (behind (before (clocks 128 0x2F 255 (bits 4 (address % 16))) id) other)
    ≡ off (address / 16) (bit_xor kind other)
unfolding off
registers address id kind other =
    let h : ℕ = address / 16 in
    let l : ℕ = address % 16 in
    let e : bits 32 address ≡ bits 28 h ++ bits 4 l = ap (bits 32) (omega arith) ∙ bits_join 28 4 h l (omega arith) in
    let r : ℕ = clocks 128 0x2F 255 (bits 28 h) in
    ap (λ (x : ℕ). bit_xor (behind (before x id) kind) (behind (before (clocks 128 0x2F 255 (bits 4 l)) id) other)) (ap (clocks 128 0x2F 255) e ∙ clocks_append 128 0x2F 255 (bits 28 h) (bits 4 l))
    ∙ sym (header_sum (clocks 128 0x2F r (bits 4 l)) (clocks 128 0x2F 255 (bits 4 l)) id id kind other)
    ∙ ap₂ (λ (x y : ℕ). behind (before x y) (bit_xor kind other)) (sym (run_sum 4 r 255 l l) ∙ ap (λ (x : ℕ). clocks 128 0x2F (bit_xor r 255) (bits 4 x)) (xor_self l)) (xor_self id)

-- an address that may stand there is one of those
near : (address : ℕ) → address < 4096 → no_header_at address ≡ false → both (ltb 93 (address / 16)) (not (eqb (address / 16) 255)) ≡ false
near address low ok =
    elim (dec_le address 1502) [
      | yes h ↦ both_first (not (eqb (address / 16) 255)) (le-ltb 93 (address / 16) (omega arith))
      | no h ↦ (
          let t : ltb address 4095 ≡ false = both_false (ltb 1502 address) (ltb address 4095) ok (lt-ltb 1502 address (omega arith)) in
          let e : address / 16 ≡ 255 = omega (arith, ltb-false address 4095 t, low) in
          both_second (ltb 93 (address / 16)) (ap not (eq-eqb (address / 16) 255 e)))
    ]

never : (x : ℕ) → T (not (eqb x 0)) → x ≡ 0 → ⊥
never x t e = subst (λ (z : Bool). T (not z)) (eq-eqb x 0 e) t

-- a word of an IP stream
module _ (id address : ℕ) (p : List ℕ) (i : id < 256) (a : address < 4096) (n : length p ≡ 1504) (ok : no_header_at address ≡ false) where
  abbrev w : List ℕ
  w = ip_word id address p

  sound : Readable w
  sound = ip_readable id address p i a n ok

  last_is : field_at w 12256 4 ≡ address % 16
  last_is =
      let g : field_at w 12228 32 ≡ field_at w 12228 28 * 16 + field_at w 12256 4 =
      field_is w 12228 32 (omega arith) ∙ number_append (bit_at w) 12228 28 4
      ∙ ap₂ (λ (x y : ℕ). x * 16 + y) (sym (field_is w 12228 28 (omega arith))) (sym (field_is w 12256 4 (omega arith))) in
      omega (arith, g, ip_before id address p i a n, field_lt w 12256 4 (omega arith))

  covered_w : covered_of w ≡ header (bits 32 address) (id_of w) 3 0
  covered_w =
      let k : kind_of w ≡ 3 = ip_kind id address p i a n in
      covered_of_lem w 32 address sound.word_is (lead_long (kind_of w) (has_3 (kind_of w) k)) (ip_before id address p i a n) sound.version_is
      ∙ ap (λ (x : ℕ). header (bits 32 address) (id_of w) x 0) k

  tests : T (both (not (eqb (off (address / 16) 2) 0)) (not (eqb (off (address / 16) 4) 0)))
  unfolding apart
  tests =
      let t : T (apart (address / 16)) = at_all apart 256 all_apart (address / 16) (omega arith) in
      subst T (skip (near address a ok) refl) t

  module _ (v : List ℕ) (j : ℕ) (d : OneBit w v j) where
    -- the CRC over 18 bits, with type 1 or 7
    differs : (span : covered (kind_of v) ≡ covered (kind_of w) → ⊥) (k : ℕ) → kind_of v ≡ k → has_parity k ≡ false → (off (address / 16) (bit_xor 3 k) ≡ 0 → ⊥)
        → crc_field_of v ≡ header_crc (covered_of v) → ⊥
    differs span k is short other e =
        let covered_v : covered_of v ≡ header (bits 4 (address % 16)) (id_of w) k 0 =
        covered_of_lem v 4 (address % 16) d.long (lead_short (kind_of v) (ap has_parity is ∙ short)) (before_it w v j d sound span 12256 4 (omega arith) (omega arith) ∙ last_is) (version_v w v j d sound span)
        ∙ ap₂ (λ (x y : ℕ). header (bits 4 (address % 16)) x y 0) (id_same w v j d sound span) is in
        let r : ℕ = clocks 128 0x2F 255 (bits 32 address) in
        let s : ℕ = clocks 128 0x2F 255 (bits 4 (address % 16)) in
        let x : ℕ = behind (before r (id_of w)) 3 in
        let y : ℕ = behind (before s (id_of w)) k in
        let z : 255 - x ≡ 255 - y =
        sym (register 32 address (id_of w) 3) ∙ ap header_crc (sym covered_w) ∙ sym (crc_v w v j d sound span) ∙ e ∙ ap header_crc covered_v ∙ register 4 (address % 16) (id_of w) k in
        let same : x ≡ y =
        omega (
          arith,
          z,
          behind_lt r (id_of w) 3 (clocks_lt 8 0x2F 255 (bits 32 address) (omega arith) (omega arith) (omega arith)),
          behind_lt s (id_of w) k (clocks_lt 8 0x2F 255 (bits 4 (address % 16)) (omega arith) (omega arith) (omega arith)),
        ) in
        other (sym (registers address (id_of w) 3 k) ∙ ap (bit_xor x) (sym same) ∙ xor_self x)

    type_damaged : (span : covered (kind_of v) ≡ covered (kind_of w) → ⊥) → crc_field_of v ≡ header_crc (covered_of v) → ⊥
    type_damaged span e =
        let f : ℕ = off (address / 16) 2 in
        let g : ℕ = off (address / 16) 4 in
        elim (beside_3 v w (one_off w v j d sound span) (ip_kind id address p i a n)) [
          | at_1 k ↦ differs span 1 k refl (never f (both_left (not (eqb f 0)) (not (eqb g 0)) tests)) e
          | at_2 k ↦ span (covered_long (kind_of v) (ap has_parity k) ∙ sym (covered_long (kind_of w) (has_3 (kind_of w) (ip_kind id address p i a n))))
          | at_7 k ↦ differs span 7 k refl (never g (both_right (not (eqb f 0)) (not (eqb g 0)) tests)) e
        ]

    pub ip_damaged : 5 ≡ read_refusal v
    ip_damaged =
        elim (ℕ_discrete (covered (kind_of v)) (covered (kind_of w))) [
          | yes e ↦ damaged w v j d e sound
          | no m ↦ read_5 v d.long (behind_it w v j d sound m 12282 6 (omega arith) (omega arith) ∙ sound.spare_is) (type_damaged m)
        ]
