-- Laws of the reader's refusals: the facts that lead to each number, and what a number says.
-- Assumes nothing.
use Prim.Native.Nat.{ℕ, ◌≤◌, ◌<◌}
use mathlib.Core.Bool.{Bool, true, false, not}
use mathlib.Core.Path.{◌≡◌, refl, sym, ap}
use mathlib.Core.List.{List}
use native.Mathlib.Omega.{arith}
use borrow.Author.Tests.{eq-eqb, ne_eqb, lt-ltb, le-ltb, ltb-false}
use lib.Dec.{eqb}
use lib.ListN.{length}
use Rattle.ground.specs.Choice.{choose, both}
use Rattle.ground.proofs.Choice.{no_difference, both_first, all_clear, clear_all, first_at}
use Rattle.infoword.specs.Suffix.{kind_of, version_of, crc_field_of, spare_of, address_of, covered_of, header_crc}
use Rattle.fields.specs.Report.{no_header_at, read_faults, read_refusal}

-- what the reader asks
pub record Readable (w : List ℕ) : Type 0 where
  pub word_is : length w ≡ 1536
  pub spare_is : spare_of w ≡ 0
  pub crc_is : crc_field_of w ≡ header_crc (covered_of w)
  pub version_is : version_of w ≡ 0
  pub kind_is : kind_of w ≤ 3
  pub address_is : both (eqb (kind_of w) 3) (no_header_at (address_of w)) ≡ false

same : (x y : ℕ) → x ≡ y → not (eqb x y) ≡ false
same x y e = ap not (eq-eqb x y e)

module _ (w : List ℕ) where
  pub read_1 : (length w ≡ 1536 → ⊥) → 1 ≡ read_refusal w
  unfolding read_refusal
  read_1 h = simp ne_eqb

  module _ (len : length w ≡ 1536) where
    pub read_2 : (spare_of w ≡ 0 → ⊥) → 2 ≡ read_refusal w
    unfolding read_refusal
    read_2 h = simp (eq-eqb, ne_eqb)

    module _ (spare : spare_of w ≡ 0) where
      pub read_5 : (crc_field_of w ≡ header_crc (covered_of w) → ⊥) → 5 ≡ read_refusal w
      unfolding read_refusal
      read_5 h = simp (eq-eqb, ne_eqb)

      module _ (crc : crc_field_of w ≡ header_crc (covered_of w)) where
        pub read_16 : 0 < version_of w → 16 ≡ read_refusal w
        unfolding read_refusal
        read_16 h = let n : version_of w ≡ 0 → ⊥ = λ e. omega arith in simp (eq-eqb, ne_eqb)

        module _ (version : version_of w ≡ 0) where
          pub read_15 : 3 < kind_of w → 15 ≡ read_refusal w
          unfolding read_refusal
          read_15 h = simp (eq-eqb, lt-ltb)

          pub read_18 : kind_of w ≤ 3 → both (eqb (kind_of w) 3) (no_header_at (address_of w)) ≡ true → 18 ≡ read_refusal w
          unfolding read_refusal
          read_18 k f =
              sym (first_at 5 (read_faults w) (same (length w) 1536 len, (same (spare_of w) 0 spare, (same (crc_field_of w) (header_crc (covered_of w)) crc, (same (version_of w) 0 version, (le-ltb 3 (kind_of w) k, tt))))) f)

  pub read_0 : Readable w → 0 ≡ read_refusal w
  unfolding read_refusal
  read_0 a =
      sym (clear_all (read_faults w) (
        same (length w) 1536 a.word_is,
        (
          same (spare_of w) 0 a.spare_is,
          (
            same (crc_field_of w) (header_crc (covered_of w)) a.crc_is,
            (same (version_of w) 0 a.version_is, (le-ltb 3 (kind_of w) a.kind_is, (a.address_is, tt))),
          ),
        ),
      ))

  pub readable : read_refusal w ≡ 0 → Readable w
  unfolding read_refusal
  readable e =
      let a = all_clear (read_faults w) tt e in
      record {
        word_is = no_difference _ _ a.0;
        spare_is = no_difference _ _ a.1.0;
        crc_is = no_difference _ _ a.1.1.0;
        version_is = no_difference _ _ a.1.1.1.0;
        kind_is = ltb-false _ _ a.1.1.1.1.0;
        address_is = a.1.1.1.1.1.0;
      }

-- types 0, 1 and 2 have no address to be looked at
pub no_address : (w : List ℕ) → kind_of w ≤ 2 → both (eqb (kind_of w) 3) (no_header_at (address_of w)) ≡ false
no_address w k = both_first (no_header_at (address_of w)) (ne_eqb (kind_of w) 3 (λ e. omega arith))

-- the address that is 0 for any other type is one that may stand there
pub address_looked_at : (b : Bool) (a : ℕ) → no_header_at (choose b a 0) ≡ both b (no_header_at a)
address_looked_at true a = refl
address_looked_at false a = refl
