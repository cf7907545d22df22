-- One bit of a written word's header that is changed, be it of the stream type, has the word refused: the CRCs over 18 and over 46 bits do
-- not agree where RFU is zero. The one exception is type 1 made type 3.
-- Assumes nothing.
use Prim.Native.Nat.{ℕ, ◌+◌, ◌-◌, ◌*◌, ◌≤◌, ◌<◌}
use mathlib.Core.Bool.{Bool, true, false, not}
use mathlib.Core.Path.{◌≡◌, refl, sym, ap, ap₂, ◌∙◌, subst}
use mathlib.Core.List.{List}
use native.Mathlib.Decide.{dec_lt, ℕ_discrete}
use native.Mathlib.Omega.{arith}
use borrow.Author.Tests.{eq-eqb}
use lib.Dec.{T, eqb}
use lib.ListN.{length}
use Rattle.ground.specs.Outcome.{Is}
use Rattle.ground.specs.Choice.{both}
use Rattle.ground.specs.Table.{all_below}
use Rattle.ground.proofs.Table.{at_all}
use Rattle.ground.proofs.Choice.{both_left, both_right}
use Rattle.bits.specs.Lists.{bits}
use Rattle.bits.specs.Places.{bit_at, number, field_at}
use Rattle.bits.proofs.Places.{bit_lt, number_cong, field_is, field_lt}
use Rattle.crc.specs.Crc.{clock, clocks}
use Rattle.infoword.specs.Suffix.{id_of, kind_of, version_of, crc_field_of, has_parity, rfu_of, covered, covered_of, header_crc, header}
use Rattle.infoword.proofs.Ending.{lead_long, lead_short}
use Rattle.infoword.proofs.Closing.{has_2, has_3, has_not, covered_long, covered_short}
use Rattle.infoword.proofs.Again.{last_four}
use Rattle.infoword.specs.Word.{packet_bytes, front_bytes, word_of}
use Rattle.infoword.proofs.Written.{packet_le, kind_back, rfu_back, zeros_back}
use Rattle.encapsulation.specs.Writing.{packet_of, written}
use Rattle.write_faults.proofs.Faults.{Writable}
use Rattle.encapsulation.proofs.Answers.{writes, wrote, carried_length}
use Rattle.fields.specs.Report.{read_refusal}
use Rattle.fields.proofs.Faults.{Readable, read_5}
use Rattle.both_ways.specs.Damage.{OneBit}
use Rattle.both_ways.proofs.WaysBack.{read_back}
use Rattle.both_ways.proofs.Damage.{same_field, damaged}
use Rattle.both_ways.proofs.Registers.{before, behind, register, of_46, of_18, behind_lt, covered_of_lem}

-- over 46 bits with type 2 it is another than over 18 with types 0 and 6, which differ from 2 in one bit, whatever the stream id
differ : ℕ → ℕ → Bool
differ x r = both (not (eqb x (behind r 0))) (not (eqb x (behind r 6)))

apart : ℕ → Bool
apart id = differ (behind (before 0xED id) 2) (before 0x6A id)

all_apart : T (all_below apart 256)
unfolding apart before behind differ clocks clock bits
all_apart = tt

-- the three types that differ from 2 in one bit
data Near (kind : ℕ) : Type 0 where
  to_0 : kind ≡ 0 → Near kind
  to_3 : kind ≡ 3 → Near kind
  to_6 : kind ≡ 6 → Near kind

types_apart : (id kind : ℕ) → id < 256 → Near kind → (kind ≡ 3 → ⊥) → header_crc (header (bits 32 0) id 2 0) ≡ header_crc (header (bits 4 0) id kind 0) → ⊥
unfolding apart differ
types_apart id kind h near other e =
    let x : ℕ = behind (before 0xED id) 2 in
    let t : T (apart id) = at_all apart 256 all_apart id h in
    let y : (k : ℕ) → kind ≡ k → x ≡ behind (before 0x6A id) k =
    λ k q.
    let z : 255 - x ≡ 255 - behind (before 0x6A id) k =
    sym (register 32 0 id 2 ∙ ap (λ (r : ℕ). 255 - behind (before r id) 2) of_46) ∙ e ∙ ap (λ (j : ℕ). header_crc (header (bits 4 0) id j 0)) q
    ∙ register 4 0 id k ∙ ap (λ (r : ℕ). 255 - behind (before r id) k) of_18 in
    omega (arith, z, behind_lt 0xED id 2 (omega arith), behind_lt 0x6A id k (omega arith)) in
    let p : ℕ = behind (before 0x6A id) 0 in
    let r : ℕ = behind (before 0x6A id) 6 in
    elim near [
      | to_0 k ↦ never x p (both_left (not (eqb x p)) (not (eqb x r)) t) (y 0 k)
      | to_3 k ↦ other k
      | to_6 k ↦ never x r (both_right (not (eqb x p)) (not (eqb x r)) t) (y 6 k)
    ]
  where
    never : (a b : ℕ) → T (not (eqb a b)) → a ≡ b → ⊥
    never a b t e = subst (λ (z : Bool). T (not z)) (eq-eqb a b e) t

-- the stream type by its bits
pub kind_bits : (w : List ℕ) → kind_of w ≡ (bit_at w 12268 * 2 + bit_at w 12269) * 2 + bit_at w 12270
unfolding number
kind_bits w =
    let n : number (bit_at w) 12268 3 ≡ ((0 * 2 + bit_at w 12268) * 2 + bit_at w 12269) * 2 + bit_at w 12270 = refl in
    field_is w 12268 3 (omega arith) ∙ n ∙ omega arith

-- the stream types of two words differ in one bit
pub data OneOff (x y : List ℕ) : Type 0 where
  in_first : (bit_at x 12268 ≡ bit_at y 12268 → ⊥) → bit_at x 12269 ≡ bit_at y 12269 → bit_at x 12270 ≡ bit_at y 12270 → OneOff x y
  in_second : bit_at x 12268 ≡ bit_at y 12268 → (bit_at x 12269 ≡ bit_at y 12269 → ⊥) → bit_at x 12270 ≡ bit_at y 12270 → OneOff x y
  in_third : bit_at x 12268 ≡ bit_at y 12268 → bit_at x 12269 ≡ bit_at y 12269 → (bit_at x 12270 ≡ bit_at y 12270 → ⊥) → OneOff x y

one_off_back : (x y : List ℕ) → OneOff x y → OneOff y x
one_off_back x y (in_first p q r) = in_first (λ e. p (sym e)) (sym q) (sym r)
one_off_back x y (in_second p q r) = in_second (sym p) (λ e. q (sym e)) (sym r)
one_off_back x y (in_third p q r) = in_third (sym p) (sym q) (λ e. r (sym e))

near_2 : (x y : List ℕ) → OneOff x y → kind_of y ≡ 2 → Near (kind_of x)
near_2 x y o two =
    let t : (bit_at y 12268 * 2 + bit_at y 12269) * 2 + bit_at y 12270 ≡ 2 = sym (kind_bits y) ∙ two in
    elim o [
      | in_first p q r ↦ to_6 (kind_bits x ∙ six _ _ _ _ _ _ (bit_lt x 12268) (bit_lt y 12268) (bit_lt y 12269) (bit_lt y 12270) t p q r)
      | in_second p q r ↦ to_0 (kind_bits x ∙ none _ _ _ _ _ _ (bit_lt x 12269) (bit_lt y 12268) (bit_lt y 12269) (bit_lt y 12270) t p q r)
      | in_third p q r ↦ to_3 (kind_bits x ∙ three _ _ _ _ _ _ (bit_lt x 12270) (bit_lt y 12268) (bit_lt y 12269) (bit_lt y 12270) t p q r)
    ]
  where
    six : (a b c a' b' c' : ℕ) → a < 2 → a' < 2 → b' < 2 → c' < 2 → (a' * 2 + b') * 2 + c' ≡ 2 → (a ≡ a' → ⊥) → b ≡ b' → c ≡ c' → (a * 2 + b) * 2 + c ≡ 6
    six a b c a' b' c' h i j k e p q r = omega arith

    none : (a b c a' b' c' : ℕ) → b < 2 → a' < 2 → b' < 2 → c' < 2 → (a' * 2 + b') * 2 + c' ≡ 2 → a ≡ a' → (b ≡ b' → ⊥) → c ≡ c' → (a * 2 + b) * 2 + c ≡ 0
    none a b c a' b' c' h i j k e p q r = omega arith

    three : (a b c a' b' c' : ℕ) → c < 2 → a' < 2 → b' < 2 → c' < 2 → (a' * 2 + b') * 2 + c' ≡ 2 → a ≡ a' → b ≡ b' → (c ≡ c' → ⊥) → (a * 2 + b) * 2 + c ≡ 3
    three a b c a' b' c' h i j k e p q r = omega arith

-- types 0 and 3 differ in two bits
not_0_and_3 : (x y : List ℕ) → OneOff x y → kind_of x ≡ 3 → kind_of y ≡ 0 → ⊥
not_0_and_3 x y o three none =
    let t : (bit_at x 12268 * 2 + bit_at x 12269) * 2 + bit_at x 12270 ≡ 3 = sym (kind_bits x) ∙ three in
    let u : (bit_at y 12268 * 2 + bit_at y 12269) * 2 + bit_at y 12270 ≡ 0 = sym (kind_bits y) ∙ none in
    elim o [
      | in_first p q r ↦ one _ _ _ _ _ _ (bit_lt x 12268) (bit_lt x 12269) (bit_lt x 12270) t u r
      | in_second p q r ↦ one _ _ _ _ _ _ (bit_lt x 12268) (bit_lt x 12269) (bit_lt x 12270) t u r
      | in_third p q r ↦ two _ _ _ _ _ _ (bit_lt x 12268) (bit_lt x 12269) (bit_lt x 12270) t u q
    ]
  where
    one : (a b c a' b' c' : ℕ) → a < 2 → b < 2 → c < 2 → (a * 2 + b) * 2 + c ≡ 3 → (a' * 2 + b') * 2 + c' ≡ 0 → c ≡ c' → ⊥
    one a b c a' b' c' h i j t u e = let z : a ≡ 0 = omega arith in omega arith

    two : (a b c a' b' c' : ℕ) → a < 2 → b < 2 → c < 2 → (a * 2 + b) * 2 + c ≡ 3 → (a' * 2 + b') * 2 + c' ≡ 0 → b ≡ b' → ⊥
    two a b c a' b' c' h i j t u e = let z : a ≡ 0 = omega arith in omega arith

-- two words that differ in one covered bit
module _ (w v : List ℕ) (i : ℕ) (d : OneBit w v i) (a : Readable w) where
  place : ℕ
  place = 12274 - covered (kind_of w) + i

  same_at : (k : ℕ) → (k ≡ place → ⊥) → bit_at v k ≡ bit_at w k
  unfolding place
  same_at = d.same

  other_at : (k : ℕ) → place ≡ k → bit_at v k ≡ bit_at w k → ⊥
  unfolding place
  other_at k e t = d.other (ap (bit_at v) e ∙ t ∙ ap (bit_at w) (sym e))

  -- where the number of covered bits is another, the bit is one of the stream type
  module _ (span : covered (kind_of v) ≡ covered (kind_of w) → ⊥) where
    same_kind : ((k : ℕ) → 12268 ≤ k → k < 12271 → k ≡ place → ⊥) → kind_of v ≡ kind_of w
    same_kind f =
        field_is v 12268 3 (omega arith) ∙ number_cong (bit_at v) (bit_at w) 12268 3 (λ k p. same_at (12268 + k) (f (12268 + k) (omega arith) (omega arith)))
        ∙ sym (field_is w 12268 3 (omega arith))

    low : 12268 ≤ place
    low =
        elim (dec_lt place 12268) [
          | yes h ↦ absurd (span (ap covered (same_kind (λ k l m e. omega (arith, h, l, e)))))
          | no h ↦ omega arith
        ]

    high : place < 12271
    high =
        elim (dec_lt place 12271) [
          | yes h ↦ h
          | no h ↦ absurd (span (ap covered (same_kind (λ k l m e. omega (arith, h, m, e)))))
        ]

    -- all else is the same
    pub before_it : (at n : ℕ) → n ≤ 32 → at + n ≤ 12268 → field_at v at n ≡ field_at w at n
    before_it at n h l =
        field_is v at n h ∙ number_cong (bit_at v) (bit_at w) at n (λ k p. same_at (at + k) (λ e. omega (arith, low, e, p, l))) ∙ sym (field_is w at n h)

    pub behind_it : (at n : ℕ) → n ≤ 32 → 12271 ≤ at → field_at v at n ≡ field_at w at n
    behind_it at n h l = same_field w v 12271 (λ k m. same_at k (λ e. omega (arith, high, e, m))) at n h l

    -- so that the types are one bit off
    pub one_off : OneOff v w
    one_off =
        elim (ℕ_discrete place 12268) [
          | yes e ↦ in_first (other_at 12268 e) (same_at 12269 (λ t. omega (arith, e, t))) (same_at 12270 (λ t. omega (arith, e, t)))
          | no m ↦ elim (ℕ_discrete place 12269) [
            | yes e ↦ in_second (same_at 12268 (λ t. omega (arith, e, t))) (other_at 12269 e) (same_at 12270 (λ t. omega (arith, e, t)))
            | no n ↦ (
                let e : place ≡ 12270 = omega (arith, low, high, m, n) in
                in_third (same_at 12268 (λ t. omega (arith, e, t))) (same_at 12269 (λ t. omega (arith, e, t))) (other_at 12270 e))
          ]
        ]

    pub id_same : id_of v ≡ id_of w
    id_same = before_it 12260 8 (omega arith) (omega arith)

    pub version_v : version_of v ≡ 0
    version_v = behind_it 12271 3 (omega arith) (omega arith) ∙ a.version_is

    pub crc_v : crc_field_of v ≡ header_crc (covered_of w)
    crc_v = behind_it 12274 8 (omega arith) (omega arith) ∙ a.crc_is

    pub id_lt : id_of w < 256
    id_lt = field_lt w 12260 8 (omega arith)

-- two words that differ in one covered bit, of which the first is of type 0, 1 or 2, and has zeros from bit 12,228 to STS_ID, unless it is
-- of type 1. Of type 1 what stands there is payload, and with type 3 the CRC covers it: that the change is none from 1 to 3 is asked for
module _ (w v : List ℕ) (i : ℕ) (d : OneBit w v i) (a : Readable w) (of : kind_of w ≤ 2) (zero : (kind_of w ≡ 1 → ⊥) → field_at w 12228 32 ≡ 0)
    (not-to-3 : kind_of w ≡ 1 → kind_of v ≡ 3 → ⊥) where
  module _ (span : covered (kind_of v) ≡ covered (kind_of w) → ⊥) where
    -- out of type 2
    left_2 : kind_of w ≡ 2 → crc_field_of v ≡ header_crc (covered_of v) → ⊥
    left_2 two e =
        let z : field_at w 12228 32 ≡ 0 = zero (λ t. omega (arith, t, two)) in
        let long : has_parity (kind_of w) ≡ true = has_2 (kind_of w) two in
        let not-2 : kind_of v ≡ 2 → ⊥ = λ t. span (ap covered (t ∙ sym two)) in
        let not-3 : kind_of v ≡ 3 → ⊥ = λ t. span (covered_long (kind_of v) (has_3 (kind_of v) t) ∙ sym (covered_long (kind_of w) long)) in
        let short : has_parity (kind_of v) ≡ false = has_not (kind_of v) not-2 not-3 in
        let x : covered_of w ≡ header (bits 32 0) (id_of w) 2 0 =
        covered_of_lem w 32 0 a.word_is (lead_long (kind_of w) long) z a.version_is ∙ ap (λ (k : ℕ). header (bits 32 0) (id_of w) k 0) two in
        let y : covered_of v ≡ header (bits 4 0) (id_of w) (kind_of v) 0 =
        covered_of_lem v 4 0 d.long (lead_short (kind_of v) short) (before_it w v i d a span 12256 4 (omega arith) (omega arith) ∙ last_four w z) (version_v w v i d a span)
        ∙ ap (λ (k : ℕ). header (bits 4 0) k (kind_of v) 0) (id_same w v i d a span) in
        types_apart (id_of w) (kind_of v) (id_lt w v i d a span) (near_2 v w (one_off w v i d a span) two) not-3 (ap header_crc (sym x) ∙ sym (crc_v w v i d a span) ∙ e ∙ ap header_crc y)

    -- and into it
    into_2 : (kind_of w ≡ 2 → ⊥) → crc_field_of v ≡ header_crc (covered_of v) → ⊥
    into_2 not-2 e =
        let short : has_parity (kind_of w) ≡ false = has_not (kind_of w) not-2 (λ t. omega (arith, of, t)) in
        let not-3 : kind_of v ≡ 3 → ⊥ =
        λ t. not_0_and_3 v w (one_off w v i d a span) t (dummy_of (kind_of w) of not-2 (λ one. not-to-3 one t)) in
        let two : kind_of v ≡ 2 =
        elim (ℕ_discrete (kind_of v) 2) [
          | yes t ↦ t
          | no t ↦ absurd (span (covered_short (kind_of v) (has_not (kind_of v) t not-3) ∙ sym (covered_short (kind_of w) short)))
        ] in
        let dummy : kind_of w ≡ 0 = first (kind_of w) (near_2 w v (one_off_back v w (one_off w v i d a span)) two) of in
        let z : field_at w 12228 32 ≡ 0 = zero (λ t. omega (arith, t, dummy)) in
        let x : covered_of w ≡ header (bits 4 0) (id_of w) 0 0 =
        covered_of_lem w 4 0 a.word_is (lead_short (kind_of w) short) (last_four w z) a.version_is ∙ ap (λ (k : ℕ). header (bits 4 0) (id_of w) k 0) dummy in
        let y : covered_of v ≡ header (bits 32 0) (id_of w) 2 0 =
        covered_of_lem v 32 0 d.long (lead_long (kind_of v) (has_2 (kind_of v) two)) (before_it w v i d a span 12228 32 (omega arith) (omega arith) ∙ z) (version_v w v i d a span)
        ∙ ap₂ (λ (j k : ℕ). header (bits 32 0) j k 0) (id_same w v i d a span) two in
        types_apart (id_of w) 0 (id_lt w v i d a span) (to_0 refl) (λ t. omega (arith, t)) (sym (ap header_crc (sym x) ∙ sym (crc_v w v i d a span) ∙ e ∙ ap header_crc y))
      where
        first : (k : ℕ) → Near k → k ≤ 2 → k ≡ 0
        first k (to_0 e) h = e
        first k (to_3 e) h = absurd (omega arith)
        first k (to_6 e) h = absurd (omega arith)

        dummy_of : (k : ℕ) → k ≤ 2 → (k ≡ 2 → ⊥) → (k ≡ 1 → ⊥) → k ≡ 0
        dummy_of k h m n = omega arith

    type_damaged : 5 ≡ read_refusal v
    type_damaged =
        read_5 v d.long (behind_it w v i d a span 12282 6 (omega arith) (omega arith) ∙ a.spare_is)
        (λ e.
        elim (ℕ_discrete (kind_of w) 2) [
          | yes t ↦ left_2 t e
          | no t ↦ into_2 t e
        ])

  -- in any case it is refused with 5
  pub header_damaged : 5 ≡ read_refusal v
  header_damaged =
      elim (ℕ_discrete (covered (kind_of v)) (covered (kind_of w))) [
        | yes e ↦ damaged w v i d e a
        | no n ↦ type_damaged n
      ]

-- a word that was written is accepted, is of type 0, 1 or 2, its RFU is zero, and it has zeros from bit 12,228 to STS_ID, unless it is of type 1
pub written_sound : (kind id count : ℕ) (p null word : List ℕ) (r : ℕ) (m : List ℕ) → Is (written kind id count p null word) r m → r ≡ 0 → id < 256
    → Readable m × (kind ≤ 2) × (kind_of m ≡ kind) × (rfu_of m ≡ 0) × ((kind_of m ≡ 1 → ⊥) → field_at m 12228 32 ≡ 0)
written_sound kind id count p null word r m o z h =
    let could : Writable kind count (length p) (length null) (length word) = wrote kind id count p null word r m o z in
    let packet : List ℕ = packet_of kind count p null in
    let left : m ≡ word_of kind id packet = (writes kind id count p null word r m o could).1 in
    let size : length packet ≡ packet_bytes kind = carried_length kind count p null (length word) could in
    let fit : length packet ≤ front_bytes kind = subst (λ (x : ℕ). x ≤ front_bytes kind) (sym size) (packet_le kind) in
    let small : kind < 8 = omega (arith, could.kind_is) in
    let kw : kind_of (word_of kind id packet) ≡ kind = kind_back kind id 0 packet fit small in
    subst (λ (x : List ℕ). Readable x × (kind ≤ 2) × (kind_of x ≡ kind) × (rfu_of x ≡ 0) × ((kind_of x ≡ 1 → ⊥) → field_at x 12228 32 ≡ 0)) (sym left)
    (read_back kind id packet could.kind_is h size, could.kind_is, kw, rfu_back kind id packet fit small (λ e. omega (arith, could.kind_is, e)), λ n. zeros_back kind id packet could.kind_is size (λ e. n (kw ∙ e)))

-- so that one changed bit of its header has it refused, but for the one that makes type 3 of type 1
pub written_damaged : (kind id count : ℕ) (p null word : List ℕ) (r : ℕ) (m : List ℕ) → Is (written kind id count p null word) r m → r ≡ 0 → id < 256
    → (v : List ℕ) (i : ℕ) → OneBit m v i → (kind ≡ 1 → kind_of v ≡ 3 → ⊥) → 5 ≡ read_refusal v
written_damaged kind id count p null word r m o z h v i d n =
    let s = written_sound kind id count p null word r m o z h in
    header_damaged m v i d s.0 (rw s.2 s.1) s.4 (λ one. n (sym s.2 ∙ one))
