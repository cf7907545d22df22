-- Laws of the reader's refusals: the facts that lead to each number, and what a number says.
-- Assumes nothing.
use Prim.Native.Nat.{ℕ, ◌≤◌}
use mathlib.Core.Bool.{Bool, false, not}
use mathlib.Core.Path.{◌≡◌, sym, ap, ap₂, ◌∙◌}
use mathlib.Core.List.{List, [], ◌∷◌, ◌++◌}
use borrow.Author.Tests.{eq-eqb, le-ltb, ltb-false}
use lib.Dec.{eqb, ltb}
use lib.ListN.{length}
use Rattle.ground.specs.Choice.{choose, both, Fault, refuse, first_of}
use Rattle.ground.proofs.Choice.{no_difference, first_clear, all_clear, clear_all}
use Rattle.ground.proofs.Faults.{first_after, first_before}
use Rattle.infoword.specs.Suffix.{kind_of}
use Rattle.fields.specs.Report.{read_faults, read_refusal}
use Rattle.fields.proofs.Faults.{Readable, read_0, readable}
use Rattle.ip_look.specs.Looking.{got_of, ip_faults}
use Rattle.ip_look.specs.Steps.{packets_refusal}

same : (x y : ℕ) → x ≡ y → not (eqb x y) ≡ false
same x y e = ap not (eq-eqb x y e)

-- what the reader asks
pub record Taken (w m : List ℕ) (room header : ℕ) : Type 0 where
  pub held_is : length m ≡ 4104
  pub room_is : 6604 ≤ room
  pub header_is : header ≡ 16
  pub readable : Readable w
  pub whole : both (eqb (kind_of w) 3) (got_of w m).refused ≡ false

module _ (w m : List ℕ) (room header : ℕ) where
  abbrev faults : List Fault
  faults = ip_faults w m room header

  abbrev last : List Fault
  last = refuse 19 (both (eqb (kind_of w) 3) (got_of w m).refused) ∷ []

  abbrev behind_2 : List Fault
  behind_2 = refuse 1 (not (eqb header 16)) ∷ (read_faults w ++ last)

  abbrev behind_1 : List Fault
  behind_1 = refuse 1 (ltb room 6604) ∷ behind_2

  module _ (len : length m ≡ 4104) where
    past_1 : first_of faults ≡ first_of behind_1
    past_1 = first_clear (refuse 1 (not (eqb (length m) 4104))) behind_1 (same (length m) 4104 len)

    module _ (enough : 6604 ≤ room) where
      past_2 : first_of faults ≡ first_of behind_2
      past_2 = past_1 ∙ first_clear (refuse 1 (ltb room 6604)) behind_2 (le-ltb room 6604 enough)

      module _ (sixteen : header ≡ 16) where
        past_3 : first_of faults ≡ first_of (read_faults w ++ last)
        past_3 = past_2 ∙ first_clear (refuse 1 (not (eqb header 16))) (read_faults w ++ last) (same header 16 sixteen)

        -- the word's own refusal
        pub word_wrong : (n : ℕ) → n ≡ read_refusal w → (n ≡ 0 → ⊥) → n ≡ first_of faults
        unfolding read_refusal
        word_wrong n e h = e ∙ sym (past_3 ∙ first_before (read_faults w) last (λ z. h (e ∙ z)))

        module _ (ok : 0 ≡ read_refusal w) where
          past_4 : first_of faults ≡ first_of last
          unfolding read_refusal
          past_4 = past_3 ∙ first_after (read_faults w) last tt (sym ok)

          -- its packets' refusal: both lengths are right here
          pub packets_wrong : (n : ℕ) → n ≡ packets_refusal w m → n ≡ first_of faults
          packets_wrong n e =
              e ∙ ap₂ (λ (a b : Bool). choose {A = ℕ} (both (eqb (kind_of w) 3) (both a (both b (got_of w m).refused))) 19 0) (eq-eqb (length w) 1536 (readable w (sym ok)).word_is) (eq-eqb (length m) 4104 len)
              ∙ sym past_4

          -- nothing
          none_wrong : both (eqb (kind_of w) 3) (got_of w m).refused ≡ false → 0 ≡ first_of faults
          none_wrong r = sym (past_4 ∙ first_clear (refuse 19 (both (eqb (kind_of w) 3) (got_of w m).refused)) [] r)

  pub takes : Taken w m room header → first_of faults ≡ 0
  takes t = sym (none_wrong t.held_is t.room_is t.header_is (read_0 w t.readable) t.whole)

  pub taken : first_of faults ≡ 0 → Taken w m room header
  unfolding read_refusal
  taken e =
      let a = all_clear faults tt e in
      let r = a.1.1.1 in
      record {
        held_is = no_difference (length m) 4104 a.0;
        room_is = ltb-false room 6604 a.1.0;
        header_is = no_difference header 16 a.1.1.0;
        readable = readable w (clear_all (read_faults w) (r.0, (r.1.0, (r.1.1.0, (r.1.1.1.0, (r.1.1.1.1.0, (r.1.1.1.1.1.0, tt)))))));
        whole = r.1.1.1.1.1.1.0;
      }
