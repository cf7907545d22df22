-- Laws of the writer's refusals: the facts that lead to each number, and what a number says.
-- Assumes nothing.
use Prim.Native.Nat.{ℕ, ◌*◌, ◌≤◌, ◌<◌}
use mathlib.Core.Bool.{Bool, true, false, not}
use mathlib.Core.Path.{◌≡◌, refl, sym, ap, ◌∙◌}
use native.Mathlib.Decide.{dec_lt, ℕ_discrete}
use native.Mathlib.Omega.{arith}
use borrow.Author.Tests.{eq-eqb, ne_eqb, lt-ltb, le-ltb, ltb-false}
use lib.Dec.{eqb, ltb}
use Rattle.ground.specs.Choice.{both, first_of}
use Rattle.ground.proofs.Choice.{no_difference, both_false, all_clear}
use Rattle.write_faults.specs.Faults.{lent_bytes, write_faults, write_refusal}
use Rattle.write_faults.specs.Inside.{packet_faults}

-- what the writer asks, with the lengths of payload, null packet and word
pub record Writable (kind count payload null word : ℕ) : Type 0 where
  pub kind_is : kind ≤ 2
  pub count_is : kind ≡ 2 → count ≤ 8
  pub payload_is : payload ≡ lent_bytes kind count
  pub null_is : kind ≡ 2 → null ≡ 188
  pub word_is : word ≡ 1536

-- a fault of type 2 that is not there
none : (kind : ℕ) (b : Bool) → (kind ≡ 2 → b ≡ false) → both (eqb kind 2) b ≡ false
none kind b h =
    elim (ℕ_discrete kind 2) [
      | yes e ↦ ap (λ (x : Bool). both x b) (eq-eqb kind 2 e) ∙ h e
      | no n ↦ ap (λ (x : Bool). both x b) (ne_eqb kind 2 n)
    ]

module _ (kind count payload null word : ℕ) where
  pub write_15 : 2 < kind → 15 ≡ write_refusal kind count payload null word
  unfolding write_refusal
  write_15 h = simp lt-ltb

  pub write_17 : kind ≡ 2 → 8 < count → 17 ≡ write_refusal kind count payload null word
  unfolding write_refusal
  write_17 e h = let k : kind ≤ 2 = omega arith in simp (le-ltb, eq-eqb, lt-ltb)

  module _ (k : kind ≤ 2) (c : kind ≡ 2 → count ≤ 8) where
    few : both (eqb kind 2) (ltb 8 count) ≡ false
    few = none kind (ltb 8 count) (λ e. le-ltb 8 count (c e))

    pub write_1_null : kind ≡ 2 → (null ≡ 188 → ⊥) → 1 ≡ write_refusal kind count payload null word
    unfolding write_refusal
    write_1_null e h =
        let a : both (eqb kind 2) (not (eqb null 188)) ≡ true = simp (eq-eqb kind 2 e, ne_eqb null 188 h) in
        simp (le-ltb 2 kind k, few, a)

    module _ (n : kind ≡ 2 → null ≡ 188) where
      whole : both (eqb kind 2) (not (eqb null 188)) ≡ false
      whole = none kind (not (eqb null 188)) (λ e. ap not (eq-eqb null 188 (n e)))

      pub write_1 : (payload ≡ lent_bytes kind count → ⊥) → 1 ≡ write_refusal kind count payload null word
      unfolding write_refusal
      write_1 h = simp (le-ltb, few, whole, ne_eqb payload (lent_bytes kind count) h)

      module _ (p : payload ≡ lent_bytes kind count) where
        pub write_1_word : (word ≡ 1536 → ⊥) → 1 ≡ write_refusal kind count payload null word
        unfolding write_refusal
        write_1_word h = simp (le-ltb, few, whole, eq-eqb payload (lent_bytes kind count) p, ne_eqb word 1536 h)

        pub write_0 : word ≡ 1536 → 0 ≡ write_refusal kind count payload null word
        unfolding write_refusal
        write_0 h = simp (le-ltb, few, whole, eq-eqb payload (lent_bytes kind count) p, eq-eqb word 1536 h)

  -- a number that is refused of the packets is refused
  pub write_packets : kind ≡ 2 → (n : ℕ) → n ≡ first_of (packet_faults count null) → 0 < n → n ≡ write_refusal kind count payload null word
  write_packets e n p h =
      elim (dec_lt 8 count) [
        | yes l ↦ p ∙ many l ∙ write_17 e l
        | no l ↦ elim (ℕ_discrete null 188) [
          | yes q ↦ absurd (omega (arith, h, p ∙ clear (omega arith) q))
          | no q ↦ p ∙ short (omega arith) q ∙ write_1_null (omega (arith, e)) (λ t. omega arith) e q
        ]
      ]
    where
      many : 8 < count → first_of (packet_faults count null) ≡ 17
      many l = simp (lt-ltb 8 count l)

      clear : count ≤ 8 → null ≡ 188 → first_of (packet_faults count null) ≡ 0
      clear l q = simp (le-ltb 8 count l, eq-eqb null 188 q)

      short : count ≤ 8 → (null ≡ 188 → ⊥) → first_of (packet_faults count null) ≡ 1
      short l q = simp (le-ltb 8 count l, ne_eqb null 188 q)

  pub write_accepts : Writable kind count payload null word → 0 ≡ write_refusal kind count payload null word
  write_accepts a = write_0 a.kind_is a.count_is a.null_is a.payload_is a.word_is

  pub writable : write_refusal kind count payload null word ≡ 0 → Writable kind count payload null word
  unfolding write_refusal
  writable e =
      let a = all_clear (write_faults kind count payload null word) tt e in
      record {
        kind_is = ltb-false _ _ a.0;
        count_is = λ t. ltb-false _ _ (both_false (eqb kind 2) _ a.1.0 (eq-eqb kind 2 t));
        null_is = λ t. no_difference _ _ (both_false (eqb kind 2) _ a.1.1.0 (eq-eqb kind 2 t));
        payload_is = no_difference _ _ a.1.1.1.0;
        word_is = no_difference _ _ a.1.1.1.1.0;
      }

-- and where none is, there are no more than eight, and the null packet has its length
pub packets_clear : (count null : ℕ) → 0 ≡ first_of (packet_faults count null) → (count ≤ 8) × (null ≡ 188)
packets_clear count null e =
    let a = all_clear (packet_faults count null) tt (sym e) in
    (ltb-false _ _ a.0, no_difference _ _ a.1.0)

-- what is known of a stream type that may be written, and so many bytes that are lent for its payload
pub record Lent (kind count null bytes : ℕ) : Type 0 where
  pub kind_is : kind ≤ 2
  pub count_is : kind ≡ 2 → count ≤ 8
  pub null_is : kind ≡ 2 → null ≡ 188
  pub bytes_is : bytes ≡ lent_bytes kind count

pub lent_empty : (kind count null bytes : ℕ) → kind ≡ 0 → bytes ≡ 0 → Lent kind count null bytes
lent_empty kind count null bytes k b = record { kind_is = omega arith; count_is = λ e. absurd (omega arith); null_is = λ e. absurd (omega arith); bytes_is = rw (k, b) refl }

pub lent_transparent : (kind count null bytes : ℕ) → kind ≡ 1 → bytes ≡ 1532 → Lent kind count null bytes
lent_transparent kind count null bytes k b = record { kind_is = omega arith; count_is = λ e. absurd (omega arith); null_is = λ e. absurd (omega arith); bytes_is = rw (k, b) refl }

pub lent_transport : (kind count null bytes : ℕ) → kind ≡ 2 → 0 ≡ first_of (packet_faults count null) → bytes ≡ 188 * count → Lent kind count null bytes
lent_transport kind count null bytes k p b =
    let c = packets_clear count null p in
    record { kind_is = omega arith; count_is = λ e. c.0; null_is = λ e. c.1; bytes_is = rw (k, b) refl }

-- what was asked of a write of which nothing is refused
pub allowed : {kind count payload null word : ℕ} → 0 ≡ write_refusal kind count payload null word → Writable kind count payload null word
allowed {kind} {count} {payload} {null} {word} e = writable kind count payload null word (sym e)
