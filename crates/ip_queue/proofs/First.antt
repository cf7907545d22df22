-- Laws of the packet that is first in the queue, of which earlier words carry `sent` bytes: where `sent` stands, and what is left of the
-- packet.
-- Assumes nothing.
use Prim.Native.Nat.{ℕ, zero, suc, ◌+◌, ◌-◌, ◌≤◌, ◌<◌}
use mathlib.Core.Path.{◌≡◌, refl, sym, ap, ap₂, ◌∙◌, subst}
use mathlib.Core.Bool.{true, false}
use mathlib.Core.List.{List, [], ◌∷◌}
use native.Mathlib.Decide.{dec_lt}
use native.Mathlib.Omega.{arith}
use lib.Dec.{eqb, ltb}
use lib.ListN.{length, take, drop, length-drop}
use lib.Seq.{drop_at, drop-drop, take-add, drop-append-add, length-take-le}
use borrow.Author.Tests.{eqb-false, ltb-false, lt-ltb, le-ltb, ne_eqb}
use Rattle.ground.specs.Choice.{either}
use Rattle.ground.proofs.Choice.{either_false, skip}
use Rattle.ip.specs.Packet.{Packet, header, whole}
use Rattle.ip.specs.Write.{rest, to_come, InPlace}
use Rattle.ip.specs.Memory.{Queue, queue_in}
use Rattle.ip.proofs.Walk.{header_length}
use Rattle.ip_queue.specs.Places.{queue_at, length_at, packet_at}
use Rattle.ip_queue.specs.Looking.{misplaced, Ready}
use Rattle.ip_queue.proofs.Places.{not_both, Waiting, waiting, place_end}

-- `sent` that is not out of place is in its place
pub in_place : (s : ℕ) (q : List Packet) → misplaced s q ≡ false → InPlace s q
unfolding misplaced
in_place zero q e = tt
in_place (suc s) [] e = let z : ◌≡◌ {A = ℕ} 0 1 = cc in absurd (omega arith)
in_place (suc s) (p ∷ q) e =
    let a = either_false (eqb s 0) (ltb (length p.bytes) s) e in
    (omega (arith, eqb-false s 0 a.0), ltb-false (length p.bytes) s a.1)

-- 0 is in its place
pub misplaced_zero : (s : ℕ) (q : List Packet) → s ≡ 0 → misplaced s q ≡ false
unfolding misplaced
misplaced_zero zero q e = refl
misplaced_zero (suc s) q e = absurd (omega arith)

pub to_come_zero : (s : ℕ) (q : List Packet) → s ≡ 0 → to_come s q ≡ 0
unfolding to_come
to_come_zero zero q e = refl
to_come_zero (suc s) q e = absurd (omega arith)

-- with no packet, any other number is not
pub misplaced_none : (s : ℕ) (q : List ℕ) → length q ≡ 0 → misplaced s (queue_in 0 q).packets ≡ ltb 0 s
unfolding misplaced
misplaced_none zero q e = refl
misplaced_none (suc s) q e = ap (λ (c : Queue). misplaced (suc s) c.packets) (place_end q 0 (omega arith)) ∙ sym (lt-ltb 0 (suc s) (omega arith))

-- the first packet of a queue in which nothing is wrong
module _ (q : List ℕ) (clean : (queue_in 0 q).number ≡ 0) (some : 0 < length q) where
  pub first_is : (queue_in 0 q).packets ≡ packet_at q 0 ∷ (queue_at q (0 + 4 + length_at q 0)).packets
  first_is = ap (λ (c : Queue). c.packets) (waiting q 0 clean some).next

  -- whether `sent` is out of place, by the first packet's length
  by_length : (s : ℕ) → misplaced (suc s) (queue_in 0 q).packets ≡ either (eqb s 0) (ltb (length_at q 0) s)
  unfolding misplaced
  by_length s =
      ap (misplaced (suc s)) first_is ∙ ap (λ (n : ℕ). either (eqb s 0) (ltb n s)) (waiting q 0 clean some).long

  pub misplaced_one : (s : ℕ) → s ≡ 1 → misplaced s (queue_in 0 q).packets ≡ true
  misplaced_one s e = ap (λ (i : ℕ). misplaced i (queue_in 0 q).packets) e ∙ by_length 0

  pub misplaced_above : (s n : ℕ) → (s ≡ 1 → ⊥) → n ≡ length_at q 0 → misplaced s (queue_in 0 q).packets ≡ ltb (n + 1) s
  misplaced_above zero n k e = misplaced_zero 0 (queue_in 0 q).packets refl ∙ sym (le-ltb (n + 1) 0 (omega arith))
  misplaced_above (suc s) n k e =
      by_length s ∙ skip (ne_eqb s 0 (λ z. k (omega arith))) (ap (λ (i : ℕ). ltb i s) (sym e))
      ∙ elim (dec_lt n s) [
        | yes l ↦ lt-ltb n s l ∙ sym (lt-ltb (n + 1) (suc s) (omega arith))
        | no l ↦ le-ltb n s (omega arith) ∙ sym (le-ltb (n + 1) (suc s) (omega arith))
      ]

-- ---- a packet of which something is sent: the whole of it is there, `sent` is 2 to its length + 1, and what is left of it by its place
pub record Partly (q : List ℕ) (sent : ℕ) : Type 0 where
  pub ends : 4 + length_at q 0 ≤ length q
  pub most : length_at q 0 ≤ 4095
  pub low : 2 ≤ sent
  pub high : sent ≤ length_at q 0 + 1
  pub long : length (packet_at q 0).bytes ≡ length_at q 0
  pub packets : (queue_in 0 q).packets ≡ packet_at q 0 ∷ (queue_at q (0 + 4 + length_at q 0)).packets
  pub clean : (queue_at q (0 + 4 + length_at q 0)).number ≡ 0
  pub rest_is : rest sent (packet_at q 0) ≡ take (length_at q 0 + 2 - sent) (drop (sent + 2) q)
  pub rest_length : length (rest sent (packet_at q 0)) ≡ length_at q 0 + 2 - sent
  pub to_come_lem : to_come sent (queue_in 0 q).packets ≡ length_at q 0 + 2 - sent

module _ (q : List ℕ) (sent : ℕ) (ready : Ready q sent) (above : 1 ≤ sent) where
  some_waits : 0 < length q
  some_waits =
      elim (dec_lt 0 (length q)) [
        | yes h ↦ h
        | no h ↦ absurd (not_both (misplaced_none sent q (omega arith) ∙ lt-ltb 0 sent above) ready.1)
      ]

  pub partly : Partly q sent
  unfolding to_come
  partly =
      let w : Waiting q 0 = waiting q 0 ready.0 some_waits in
      let n : ℕ = length_at q 0 in
      let p : (queue_in 0 q).packets ≡ packet_at q 0 ∷ (queue_at q (0 + 4 + n)).packets = first_is q ready.0 some_waits in
      let s = between sent above w (subst (InPlace sent) p (in_place sent (queue_in 0 q).packets ready.1)) in
      let ends : 4 + n ≤ length q = omega (arith, w.ends) in
      let r : rest sent (packet_at q 0) ≡ take (n + 2 - sent) (drop (sent + 2) q) = left w s in
      let l : length (rest sent (packet_at q 0)) ≡ n + 2 - sent =
      ap length r ∙ length-take-le (n + 2 - sent) (drop (sent + 2) q) (omega (arith, length-drop (sent + 2) q, ends, s.0, s.1)) in
      record {
        ends = ends;
        most = w.most;
        low = s.0;
        high = s.1;
        long = w.long;
        packets = p;
        clean = w.clean;
        rest_is = r;
        rest_length = l;
        to_come_lem = ap (to_come sent) p ∙ open_left sent above ∙ l;
      }
    where
      between : (s : ℕ) → 1 ≤ s → Waiting q 0 → InPlace s (packet_at q 0 ∷ (queue_at q (0 + 4 + length_at q 0)).packets) → (2 ≤ s) × (s ≤ length_at q 0 + 1)
      between zero h w i = absurd (omega arith)
      between (suc s) h w i = (omega (arith, i.0), omega (arith, i.1, w.long))

      open_left : (s : ℕ) → 1 ≤ s → to_come s (packet_at q 0 ∷ (queue_at q (0 + 4 + length_at q 0)).packets) ≡ length (rest s (packet_at q 0))
      open_left zero h = absurd (omega arith)
      open_left (suc s) h = refl

      -- behind the header of two bytes the stream has the packet's data, and behind the four bytes so has the queue
      left : Waiting q 0 → (2 ≤ sent) × (sent ≤ length_at q 0 + 1) → rest sent (packet_at q 0) ≡ take (length_at q 0 + 2 - sent) (drop (sent + 2) q)
      left w s =
          let n : ℕ = length_at q 0 in
          let k : ℕ = sent - 2 in
          let b : List ℕ = drop 4 q in
          let hl : length (header (packet_at q 0)) ≡ 2 = header_length (packet_at q 0) w.fit in
          let z : sent ≡ length (header (packet_at q 0)) + k = omega (arith, s.0) in
          let i : n ≡ k + (n - k) = omega (arith, s.1) in
          let l : length (take k b) ≡ k = length-take-le k b (omega (arith, length-drop 4 q, w.ends, s.1)) in
          let j : n - k ≡ n + 2 - sent = omega (arith, s.0, s.1) in
          let f : 4 + k ≡ sent + 2 = omega (arith, s.0) in
          ap (λ (x : ℕ). drop x (whole (packet_at q 0))) z ∙ drop-append-add (header (packet_at q 0)) (take n b) k
          ∙ ap (λ (x : ℕ). drop k (take x b)) i ∙ ap (drop k) (take-add k (n - k) b) ∙ drop_at (take k b) (take (n - k) (drop k b)) k l
          ∙ ap (take (n - k)) (drop-drop k 4 q) ∙ ap₂ (λ (x y : ℕ). take x (drop y q)) j f
