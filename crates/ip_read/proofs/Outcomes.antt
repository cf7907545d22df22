-- Laws of what a read leaves: of a word that is refused, of one of type 0, 1 or 2, and of one of type 3.
-- Assumes nothing.
use Prim.Native.Nat.{ℕ, ◌≤◌}
use mathlib.Core.Path.{◌≡◌, sym, ap, ap₂, ◌∙◌, subst}
use mathlib.Core.Bool.{false}
use mathlib.Core.List.{List, ◌++◌}
use native.Mathlib.Omega.{arith}
use borrow.Author.Tests.{eq-eqb, ne_eqb}
use lib.Dec.{eqb}
use lib.ListN.{length, take, drop}
use Rattle.ground.specs.Outcome.{Is}
use Rattle.ground.specs.Choice.{first_of}
use Rattle.ground.proofs.Choice.{choose_true, choose_false, both_false}
use Rattle.ground.proofs.Refusing.{refusal_leaves, acceptance_leaves}
use Rattle.infoword.specs.Suffix.{kind_of, address_of}
use Rattle.fields.specs.Report.{header_of}
use Rattle.fields.specs.declared.Header.{Header}
use Rattle.header_bytes.specs.Bytes.{header_with, header_put, header_bytes}
use Rattle.header_bytes.proofs.Stores.{header_put_lem}
use Rattle.ip.specs.Read.{Got, reading}
use Rattle.ip.specs.Memory.{queue, open_bytes, open_in}
use Rattle.ip_look.specs.Looking.{got_of, ip_faults}
use Rattle.ip_read.specs.Reading.{handed_to, read_into}
use Rattle.ip_read.specs.Steps.{TakenIn}
use Rattle.ip_look.proofs.Faults.{Taken, takes, taken}

module _ (w m out header : List ℕ) where
  abbrev g : Got
  g = got_of w m

  abbrev of_3 : List ℕ × List ℕ × List ℕ
  of_3 = (open_bytes g.after, handed_to out g.packets, header_with (header_of w) (length (queue g.packets)))

  abbrev of_others : List ℕ × List ℕ × List ℕ
  of_others = (m, out, header_bytes (header_of w))

  pub read_refused : (n : ℕ) → n ≡ first_of (ip_faults w m (length out) (length header)) → (n ≡ 0 → ⊥) → Is (read_into w m out header) n (m, out, header)
  unfolding read_into
  read_refused n e h = refusal_leaves _ _ (m, out, header) e h

  module _ (t : Taken w m (length out) (length header)) where
    pub read_other : (kind_of w ≡ 3 → ⊥) → (l : List ℕ) → l ≡ header_bytes (header_of w) → Is (read_into w m out header) 0 (m, out, l)
    unfolding read_into
    read_other n l e =
        acceptance_leaves _ _ (m, out, header) (takes w m (length out) (length header) t)
        (ap (λ (x : List ℕ). (m, out, x)) e ∙ sym (choose_false of_3 of_others (ne_eqb (kind_of w) 3 n)))

    pub read_3 : kind_of w ≡ 3 → (m' out' l : List ℕ) → m' ≡ open_bytes g.after → out' ≡ queue g.packets ++ drop (length (queue g.packets)) out
        → l ≡ header_with (header_of w) (length (queue g.packets)) → Is (read_into w m out header) 0 (m', out', l)
    unfolding read_into handed_to
    read_3 k m' out' l a b d =
        acceptance_leaves _ _ (m, out, header) (takes w m (length out) (length header) t)
        (cc (a, b, d) ∙ sym (choose_true of_3 of_others (eq-eqb (kind_of w) 3 k)))

-- ---- of a word that is not refused, with h what is reported of it
module _ (w m out header : List ℕ) (ok : 0 ≡ first_of (ip_faults w m (length out) (length header))) {h : Header} (is : h ≡ header_of w) where
  asked : Taken w m (length out) (length header)
  asked = taken w m (length out) (length header) (sym ok)

  pub payload_there : 1504 ≤ length w
  payload_there = omega (arith, asked.readable.word_is)

  pub memory_long : length m ≡ 4104
  memory_long = asked.held_is

  kind_is : h.kind ≡ kind_of w
  unfolding header_of
  kind_is = ap (λ (x : Header). x.kind) is

  pub other_read : (h.kind ≡ 3 → ⊥) → (l : List ℕ) → l ≡ header_put h 0 header → Is (read_into w m out header) 0 (m, out, l)
  other_read n l e = read_other w m out header asked (λ t. n (kind_is ∙ t)) l (e ∙ header_put_lem h 0 header asked.header_is ∙ ap header_bytes is)

  -- one of type 3: p is its payload, n the memory
  module _ (three : h.kind ≡ 3) {p n : List ℕ} (payload : p ≡ take 1504 w) (memory : n ≡ m) where
    type_is : kind_of w ≡ 3
    type_is = sym kind_is ∙ three

    address_is : h.address ≡ address_of w
    unfolding header_of
    address_is = ap (λ (x : Header). x.address) is ∙ choose_true (address_of w) 0 (eq-eqb (kind_of w) 3 type_is)

    got_is : reading (open_in n) h.address p ≡ got_of w m
    unfolding got_of
    got_is =
        ap₂ (λ (x y : List ℕ). reading (open_in x) h.address y) memory payload ∙ ap (λ (a : ℕ). reading (open_in m) a (take 1504 w)) address_is

    pub may_take : (6604 ≤ length out) × ((reading (open_in n) h.address p).refused ≡ false)
    may_take = (
      asked.room_is,
      ap (λ (g : Got). g.refused) got_is ∙ both_false (eqb (kind_of w) 3) (got_of w m).refused asked.whole (eq-eqb (kind_of w) 3 type_is),
    )

    pub word_read : (m' out' l : List ℕ) (r : ℕ) → TakenIn (reading (open_in n) h.address p) m' out out' r → l ≡ header_put h r header
        → Is (read_into w m out header) 0 (m', out', l)
    word_read m' out' l r t e =
        let g : TakenIn (got_of w m) m' out out' r = subst (λ (x : Got). TakenIn x m' out out' r) got_is t in
        read_3 w m out header asked type_is m' out' l g.kept g.packets (e ∙ header_put_lem h r header asked.header_is ∙ ap₂ header_with is g.out)
