-- Laws of the first pass: what is asked of the whole is asked of the headers from a place on.
-- Assumes nothing.
use Prim.Native.Nat.{ℕ, ◌+◌, ◌-◌, ◌≤◌, ◌<◌}
use mathlib.Core.Path.{◌≡◌, refl, sym, ap, ap₂, ◌∙◌}
use mathlib.Core.Bool.{Bool, true, false, not, ◌||◌}
use mathlib.Core.List.{List, [], ◌∷◌}
use native.Mathlib.Omega.{arith}
use lib.Dec.{eqb}
use lib.ListN.{length, get_or, take, drop}
use borrow.Author.Tests.{eq-eqb}
use lib.Seq.{drop-drop}
use Rattle.std.specs.Prelude.{Ok, Err}
use Rattle.std.specs.List.{list_any}
use Rattle.std.proofs.lemmas.List.{take_rest}
use Rattle.ground.specs.Choice.{both, either, any}
use Rattle.infoword.specs.Suffix.{address_of}
use Rattle.ip.specs.Packet.{stuffing, faulty}
use Rattle.ip.specs.Write.{announced}
use Rattle.ip.specs.Read.{Open, stray, walk, reading}
use Rattle.ip.specs.Memory.{open_in}
use Rattle.ip_head.specs.declared.Head.{Head}
use Rattle.ip_head.specs.Header.{head_in}
use Rattle.ip_open.specs.declared.Opened.{Opened}
use Rattle.ip_open.specs.Opening.{opened_in, told}
use Rattle.ip_open.proofs.Means.{means_none, means_begun, means_sound}
use Rattle.ip_look.specs.Looking.{got_of}
use Rattle.ip_look.specs.Steps.{walk_from}
use Rattle.ip_look.proofs.Walks.{end_refused, padding_refused, fault_refused, packet_refused, none_reads, other_address, begun_refused}

-- the test of a header's numbers
abbrev unfit_head : Head → Bool
unfit_head h = either (eqb h.kind 0) (either (eqb h.kind 3) (eqb h.length 0))

faulty_shown : (a b : ℕ) (h : Head) → h ≡ head_in a b → faulty a b ≡ unfit_head h
unfolding head_in
faulty_shown a b h s = ap unfit_head (sym s)

or_either : (a b c : Bool) → b ≡ c → (a || b) ≡ either a c
or_either true b c e = refl
or_either false b c e = e

-- the bytes are looked at one after the other
pub look_stray : (l : List ℕ) → list_any (λ b. not (eqb b 255)) l ≡ stray l
unfolding any
look_stray [] = refl
look_stray (b ∷ l) = or_either (not (eqb b 255)) _ _ (look_stray l)

-- l is left of the payload, whose answer is whole
module _ (l : List ℕ) (whole : Bool) (left : whole ≡ (walk 0 l).refused) where
  -- no header fits
  pub look_end : (r : Bool) → length l ≤ 1 → r ≡ stray l → r ≡ whole
  look_end r h e = e ∙ sym (end_refused l 0 h) ∙ sym left

  module _ (h : 1 < length l) where
    -- what stands behind the header
    abbrev behind : List ℕ
    behind = take (length l - 2) (drop 2 l)

    behind_is : behind ≡ drop 2 l
    behind_is = take_rest l 2

    pub look_padding : (r : Bool) → stuffing (get_or l 0 0) (get_or l 1 0) ≡ true → r ≡ stray behind → r ≡ whole
    look_padding r p e = e ∙ ap stray behind_is ∙ sym (padding_refused l 0 h p) ∙ sym left

    module _ (p : stuffing (get_or l 0 0) (get_or l 1 0) ≡ false) (d : Head) (s : d ≡ head_in (get_or l 0 0) (get_or l 1 0)) where
      pub look_fault : unfit_head d ≡ true → true ≡ whole
      look_fault u = sym (left ∙ fault_refused l 0 h p (faulty_shown _ _ d s ∙ u))

      pub look_more : unfit_head d ≡ false → (m : List ℕ) → m ≡ drop d.length behind → whole ≡ (walk 0 m).refused
      unfolding head_in
      look_more u m e =
          let f : m ≡ drop (2 + d.length) l = e ∙ ap (drop d.length) behind_is ∙ drop-drop d.length 2 l in
          left ∙ packet_refused l 0 h p (faulty_shown _ _ d s ∙ u) ∙ ap (λ (x : Head). (walk_from (0 + 2 + x.length) l).refused) (sym s)
          ∙ ap (λ (i : ℕ). (walk_from i l).refused) (omega arith) ∙ ap (λ (x : List ℕ). (walk 0 x).refused) (sym f)

-- with the open packet that the memory means
pub look_none : (m l : List ℕ) (address : ℕ) (o : Opened) → told (Err o) ≡ opened_in m → (r : Bool) → r ≡ (walk_from address l).refused
    → r ≡ (reading (open_in m) address l).refused
look_none m l address o w r f = f ∙ sym (ap (λ (x : Open). (reading x address l).refused) (means_none m o w) ∙ ap (λ g. g.refused) (none_reads address l))

module _ (m l : List ℕ) (address : ℕ) (o : Opened) (w : told (Ok o) ≡ opened_in m) (h : length m ≡ 4104) where
  abbrev s : List ℕ
  s = take o.sofar (drop 8 m)

  rest_is : o.length - length s ≡ o.length - o.sofar
  rest_is = ap (λ (k : ℕ). o.length - k) (means_sound m o h w).2

  pub look_other : (address ≡ announced (o.length - o.sofar) → ⊥) → true ≡ (reading (open_in m) address l).refused
  look_other f =
      sym (ap (λ (x : Open). (reading x address l).refused) (means_begun m o w)
      ∙ other_address o.kind o.error o.length s address l (λ z. f (z ∙ ap announced rest_is)))

  pub look_begun : (r : Bool) → address ≡ announced (o.length - o.sofar) → r ≡ (walk_from (o.length - o.sofar) l).refused → r ≡ (reading (open_in m) address l).refused
  look_begun r a f =
      f ∙ sym (ap (λ (x : Open). (reading x address l).refused) (means_begun m o w)
      ∙ begun_refused o.kind o.error o.length s address l (a ∙ sym (ap announced rest_is)) ∙ ap (λ (k : ℕ). (walk_from k l).refused) rest_is)

-- of a word, whatever its length and that of the memory
module _ (w m : List ℕ) where
  abbrev answer : Bool
  answer = both (eqb (length w) 1536) (both (eqb (length m) 4104) (got_of w m).refused)

  pub look_payload : (r : Bool) (a : ℕ) → length w ≡ 1536 → length m ≡ 4104 → a ≡ address_of w → r ≡ (reading (open_in m) a (take 1504 w)).refused → r ≡ answer
  unfolding got_of
  look_payload r a h k e f =
      f ∙ ap (λ (x : ℕ). (reading (open_in m) x (take 1504 w)).refused) e
      ∙ sym (ap₂ (λ (x y : Bool). both x (both y (got_of w m).refused)) (eq-eqb (length w) 1536 h) (eq-eqb (length m) 4104 k))
