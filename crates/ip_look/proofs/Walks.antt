-- Laws of the walk by places: the header at a place, what no header fits into, and the open packet before it.
-- Assumes nothing.
use Prim.Native.Nat.{ℕ, ◌+◌, ◌-◌, ◌≤◌, ◌<◌}
use mathlib.Core.Path.{◌≡◌, refl, sym, ap, ap₂, ◌∙◌}
use mathlib.Core.Bool.{Bool, true, false, not}
use mathlib.Core.List.{List, [], ◌∷◌, ◌++◌}
use native.Mathlib.Decide.{dec_lt}
use native.Mathlib.Omega.{arith}
use lib.Dec.{eqb, ltb}
use lib.ListN.{length, get_or, take, drop, length-drop, drop_of_length-le}
use lib.Seq.{drop-drop}
use borrow.Author.Tests.{eq-eqb, ne_eqb, lt-ltb, le-ltb, eqb-true}
use Rattle.ground.specs.Choice.{choose, either, any}
use Rattle.ground.proofs.Choice.{choose_true, choose_false, both_true}
use Rattle.bits.specs.Lists.{bits, num, unpack}
use Rattle.ip.specs.Packet.{Packet, kind_in, error_in, length_in, stuffing, faulty}
use Rattle.ip.specs.Write.{announced}
use Rattle.ip.specs.Read.{Open, none, begun, Got, gives, refusal, first, stray, walk, reading}
use Rattle.ip.proofs.Any.{choose_elim}
use Rattle.ip.proofs.Walk.{walk_skip, walk_place}
use Rattle.ip_look.specs.Steps.{packet_of, walk_from}

-- a test that both holds and fails
pub never : {A : Type 0} {b : Bool} → b ≡ true → b ≡ false → A
never h k = let z : ◌≡◌ {A = ℕ} 0 1 = cc in absurd (omega arith)

-- what is not refused and hands out nothing
pub only_after : (g : Got) → g.refused ≡ false → g.packets ≡ [] → g ≡ gives [] g.after
only_after g h k = ap₂ (λ (b : Bool) (ps : List Packet). record { refused = b; packets = ps; after = g.after }) h k

-- ---- no header fits: one byte, or none
last_byte : (b : Bool) → (choose b (gives [] none) refusal).refused ≡ either (not b) false
last_byte true = refl
last_byte false = refl

short_refused : (m : List ℕ) → length m ≤ 1 → (walk 0 m).refused ≡ stray m
unfolding walk any
short_refused [] h = refl
short_refused (a ∷ []) h = last_byte (eqb a 255)
short_refused (a ∷ b ∷ m) h = absurd (omega arith)

short_packets : (m : List ℕ) → length m ≤ 1 → (walk 0 m).packets ≡ []
unfolding walk
short_packets [] h = refl
short_packets (a ∷ []) h = choose_elim (λ (g : Got). g.packets ≡ []) (eqb a 255) (gives [] none) refusal (λ e. refl) (λ e. refl)
short_packets (a ∷ b ∷ m) h = absurd (omega arith)

short_after : (m : List ℕ) → length m ≤ 1 → (walk 0 m).after ≡ none
unfolding walk
short_after [] h = refl
short_after (a ∷ []) h = choose_elim (λ (g : Got). g.after ≡ none) (eqb a 255) (gives [] none) refusal (λ e. refl) (λ e. refl)
short_after (a ∷ b ∷ m) h = absurd (omega arith)

module _ (l : List ℕ) (at : ℕ) (h : length l ≤ at + 1) where
  short : length (drop at l) ≤ 1
  short = omega (arith, length-drop at l)

  pub end_refused : (walk_from at l).refused ≡ stray (drop at l)
  end_refused = short_refused (drop at l) short

  pub end_packets : (walk_from at l).packets ≡ []
  end_packets = short_packets (drop at l) short

  pub end_after : (walk_from at l).after ≡ none
  end_after = short_after (drop at l) short

-- nothing is left
past_refused : (l : List ℕ) (at : ℕ) → length l ≤ at → (walk_from at l).refused ≡ false
unfolding walk
past_refused l at h = ap (λ (m : List ℕ). (walk 0 m).refused) (drop_of_length-le l h)

-- ---- the header at a place

-- FF FF says a length of 4,095
pub stuffing_length : (a b : ℕ) → stuffing a b ≡ true → length_in a b ≡ 4095
unfolding length_in unpack bits num
stuffing_length a b e =
    let p = both_true (eqb a 255) (eqb b 255) e in
    ap₂ length_in (eqb-true a 255 p.0) (eqb-true b 255 p.1)

pad_refused : (b : Bool) → (choose b refusal (gives [] none)).refused ≡ b
pad_refused true = refl
pad_refused false = refl

module _ (l : List ℕ) (at : ℕ) (h : at + 1 < length l) where
  abbrev a : ℕ
  a = get_or l at 0

  abbrev b : ℕ
  b = get_or l (at + 1) 0

  abbrev left : List ℕ
  left = drop (at + 2) l

  abbrev pad : Got
  pad = choose (stray left) refusal (gives [] none)

  abbrev runs : Got
  runs = gives [] (begun (kind_in a b) (error_in a b) (length_in a b) left)

  abbrev ends : Got
  ends = first (packet_of (kind_in a b) (error_in a b) (take (length_in a b) left)) (walk (length_in a b) left)

  abbrev packet : Got
  packet = choose (ltb (length left) (length_in a b)) runs ends

  abbrev head : Got
  head = choose (faulty a b) refusal packet

  at_header : walk_from at l ≡ choose (stuffing a b) pad head
  unfolding walk
  at_header = walk_place l at h

  next : walk (length_in a b) left ≡ walk_from (at + 2 + length_in a b) l
  next = walk_skip (length_in a b) left ∙ ap (walk 0) (drop-drop (length_in a b) (at + 2) l)

  -- padding
  at_padding : stuffing a b ≡ true → walk_from at l ≡ pad
  at_padding e = at_header ∙ choose_true pad head e

  pub padding_refused : stuffing a b ≡ true → (walk_from at l).refused ≡ stray left
  padding_refused e = ap (λ (g : Got). g.refused) (at_padding e) ∙ pad_refused (stray left)

  pub padding_after : stuffing a b ≡ true → (walk_from at l).after ≡ none
  padding_after e = ap (λ (g : Got). g.after) (at_padding e) ∙ choose_elim (λ (g : Got). g.after ≡ none) (stray left) refusal (gives [] none) (λ f. refl) (λ f. refl)

  -- no packet's header
  at_fault : stuffing a b ≡ false → faulty a b ≡ true → walk_from at l ≡ refusal
  at_fault e f = at_header ∙ choose_false pad head e ∙ choose_true refusal packet f

  pub fault_refused : stuffing a b ≡ false → faulty a b ≡ true → (walk_from at l).refused ≡ true
  fault_refused e f = ap (λ (g : Got). g.refused) (at_fault e f)

  -- a packet's
  at_packet : stuffing a b ≡ false → faulty a b ≡ false → walk_from at l ≡ packet
  at_packet e f = at_header ∙ choose_false pad head e ∙ choose_false refusal packet f

  -- it is refused where the headers behind it are; one that runs on has none behind it
  pub packet_refused : stuffing a b ≡ false → faulty a b ≡ false → (walk_from at l).refused ≡ (walk_from (at + 2 + length_in a b) l).refused
  packet_refused e f =
      ap (λ (g : Got). g.refused) (at_packet e f)
      ∙ elim (dec_lt (length left) (length_in a b)) [
        | yes k ↦ ap (λ (g : Got). g.refused) (choose_true runs ends (lt-ltb (length left) (length_in a b) k))
            ∙ sym (past_refused l (at + 2 + length_in a b) (omega (arith, length-drop (at + 2) l)))
        | no k ↦ ap (λ (g : Got). g.refused) (choose_false runs ends (le-ltb (length left) (length_in a b) (omega arith))) ∙ ap (λ (g : Got). g.refused) next
      ]

  -- ---- where nothing is refused
  module _ (ok : (walk_from at l).refused ≡ false) where
    no_fault : stuffing a b ≡ false → faulty a b ≡ false
    no_fault e = go (faulty a b) refl
      where
        go : (t : Bool) → faulty a b ≡ t → t ≡ false
        go true f = never (fault_refused e f) ok
        go false f = refl

    -- a packet that ends is handed out
    pub packet_ends : at + 2 + length_in a b ≤ length l → length l ≤ 4096
        → walk_from at l ≡ first (packet_of (kind_in a b) (error_in a b) (take (length_in a b) (drop (at + 2) l))) (walk_from (at + 2 + length_in a b) l)
    packet_ends k n =
        let e : stuffing a b ≡ false = go (stuffing a b) refl in
        at_packet e (no_fault e) ∙ choose_false runs ends (le-ltb (length left) (length_in a b) (omega (arith, length-drop (at + 2) l)))
        ∙ ap (first (packet_of (kind_in a b) (error_in a b) (take (length_in a b) left))) next
      where
        go : (t : Bool) → stuffing a b ≡ t → t ≡ false
        go true f = absurd (omega (arith, stuffing_length a b f))
        go false f = refl

    -- a packet that runs on is open afterwards
    pub packet_runs : length l < at + 2 + length_in a b → stuffing a b ≡ false
        → walk_from at l ≡ gives [] (begun (kind_in a b) (error_in a b) (length_in a b) (drop (at + 2) l))
    packet_runs k e = at_packet e (no_fault e) ∙ choose_true runs ends (lt-ltb (length left) (length_in a b) (omega (arith, length-drop (at + 2) l)))

    -- nothing is handed out where the length passes the end, FF FF among it
    pub runs_nothing : length l < at + 2 + length_in a b → (walk_from at l).packets ≡ []
    runs_nothing k = go (stuffing a b) refl
      where
        go : (t : Bool) → stuffing a b ≡ t → (walk_from at l).packets ≡ []
        go true e = ap (λ (g : Got). g.packets) (at_padding e) ∙ choose_elim (λ (g : Got). g.packets ≡ []) (stray left) refusal (gives [] none) (λ f. refl) (λ f. refl)
        go false e = ap (λ (g : Got). g.packets) (packet_runs k e)

    -- and a packet of which nothing is handed out runs on
    pub nothing_runs : (walk_from at l).packets ≡ [] → stuffing a b ≡ false → length l < at + 2 + length_in a b
    nothing_runs q e =
        elim (dec_lt (length l) (at + 2 + length_in a b)) [
          | yes k ↦ k
          | no k ↦
              let w : walk_from at l ≡ ends =
              at_packet e (no_fault e) ∙ choose_false runs ends (le-ltb (length left) (length_in a b) (omega (arith, length-drop (at + 2) l))) in
              let z : length ends.packets ≡ 0 = ap (λ (g : Got). length g.packets) (sym w) ∙ ap length q in
              absurd (omega arith)
        ]

-- ---- a word, with the open packet before it

pub none_reads : (a : ℕ) (l : List ℕ) → reading none a l ≡ walk_from a l
unfolding reading
none_reads a l = walk_skip a l

module _ (t e n : ℕ) (s : List ℕ) (address : ℕ) (l : List ℕ) where
  abbrev o : Open
  o = begun t e n s

  abbrev rest : ℕ
  rest = n - length s

  abbrev goes : Got
  goes = gives [] (begun t e n (s ++ l))

  abbrev comes : Got
  comes = first (packet_of t e (s ++ take rest l)) (walk rest l)

  abbrev on : Got
  on = choose (ltb (length l) rest) goes comes

  pub other_address : (address ≡ announced rest → ⊥) → (reading o address l).refused ≡ true
  unfolding reading
  other_address h = ap (λ (g : Got). g.refused) (choose_false on refusal (ne_eqb address (announced rest) h))

  announced_so : address ≡ announced rest → reading o address l ≡ on
  unfolding reading
  announced_so h = choose_true on refusal (eq-eqb address (announced rest) h)

  next_after : walk rest l ≡ walk_from rest l
  next_after = walk_skip rest l

  pub begun_refused : address ≡ announced rest → (reading o address l).refused ≡ (walk_from rest l).refused
  begun_refused h =
      ap (λ (g : Got). g.refused) (announced_so h)
      ∙ elim (dec_lt (length l) rest) [
        | yes k ↦ ap (λ (g : Got). g.refused) (choose_true goes comes (lt-ltb (length l) rest k)) ∙ sym (past_refused l rest (omega arith))
        | no k ↦ ap (λ (g : Got). g.refused) (choose_false goes comes (le-ltb (length l) rest (omega arith))) ∙ ap (λ (g : Got). g.refused) next_after
      ]

  module _ (ok : (reading o address l).refused ≡ false) where
    not_other : reading o address l ≡ on
    unfolding reading
    not_other = go (eqb address (announced rest)) ok
      where
        go : (b : Bool) → (choose b on refusal).refused ≡ false → choose b on refusal ≡ on
        go true f = refl
        go false f = never refl f

    pub begun_runs : length l < rest → reading o address l ≡ gives [] (begun t e n (s ++ l))
    begun_runs k = not_other ∙ choose_true goes comes (lt-ltb (length l) rest k)

    pub begun_ends : rest ≤ length l → reading o address l ≡ first (packet_of t e (s ++ take rest l)) (walk_from rest l)
    begun_ends k = not_other ∙ choose_false goes comes (le-ltb (length l) rest k) ∙ ap (first (packet_of t e (s ++ take rest l))) next_after
