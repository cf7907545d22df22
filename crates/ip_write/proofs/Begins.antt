-- Laws of the word that begins with what is left of the first packet, and of the one that begins with a header.
-- Assumes nothing.
use Prim.Native.Nat.{ℕ, ◌+◌, ◌-◌, ◌≤◌, ◌<◌}
use mathlib.Core.Path.{◌≡◌, sym, ap, ap₂, ◌∙◌, subst}
use mathlib.Core.List.{List, ◌∷◌, ◌++◌}
use native.Mathlib.Nat.{zero-add}
use native.Mathlib.Omega.{arith}
use lib.ListN.{length, take, drop, length-drop}
use lib.Seq.{take-take, length-take-le}
use Rattle.byte_runs.specs.Runs.{copied}
use Rattle.byte_runs.proofs.Runs.{copied_length}
use Rattle.ip.specs.Packet.{Packet}
use Rattle.ip.specs.Write.{Filled, behind, rest, fill, word_fill}
use Rattle.ip.specs.Memory.{queue, queue_in}
use Rattle.ip.proofs.Fill.{may_begin, fill_ends, fill_runs, cut}
use Rattle.ip_queue.specs.Places.{queue_at, length_at, packet_at}
use Rattle.ip_queue.proofs.Places.{queue_length}
use Rattle.ip_queue.proofs.First.{Partly}
use Rattle.ip_write.specs.Steps.{fill_at, Laid, Ended, Carries}
use Rattle.ip_write.proofs.Laying.{copied_take, copied_last}

-- ---- the word that begins with what is left of a packet; b is the place of that in the queue
module _ (q : List ℕ) (sent : ℕ) (k : Partly q sent) where
  -- more is left than a word holds
  pub first_runs : (m m' : List ℕ) (b n : ℕ) → length m ≡ 1504 → 1504 < length_at q 0 + 2 - sent → b ≡ sent + 2 → n ≡ 1504
      → m' ≡ copied (take n (drop b q)) m 0 → Carries sent (queue_in 0 q).packets m' 0 (sent + 1504)
  unfolding queue
  first_runs m m' b n room r hb hn e =
      let c : word_fill sent (queue_in 0 q).packets ≡ cut 1504 sent (packet_at q 0) =
      ap (word_fill sent) k.packets
      ∙ fill_runs 1504 sent (packet_at q 0) (queue_at q (0 + 4 + length_at q 0)).packets (may_begin 1504 sent (omega arith)) (omega (arith, k.rest_length)) in
      let x : List ℕ = take 1504 (drop (sent + 2) q) in
      let len : length x ≡ 1504 = length-take-le 1504 (drop (sent + 2) q) (omega (arith, length-drop (sent + 2) q, k.ends, k.low, k.high)) in
      let t : x ≡ take 1504 (rest sent (packet_at q 0)) =
      sym (take-take 1504 (length_at q 0 + 2 - sent) (drop (sent + 2) q) (omega arith)) ∙ ap (take 1504) (sym k.rest_is) in
      record {
        bytes =
            e ∙ ap₂ (λ (y z : ℕ). copied (take y (drop z q)) m 0) hn hb ∙ copied_last x m 0 (omega arith) (omega arith) ∙ t
            ∙ sym (ap (λ (f : Filled). f.bytes) c);
        done = sym (ap (λ (f : Filled). length (queue (take f.done (queue_in 0 q).packets))) c);
        rest = sym (ap (λ (f : Filled). f.sent) c);
      }

  -- all that is left fits, and the next packet follows
  module _ (m m' : List ℕ) (b left end n : ℕ) (room : length m ≡ 1504) (is : left ≡ length_at q 0 + 2 - sent) (fits : left ≤ 1504)
      (hb : b ≡ sent + 2) (he : end ≡ b + left) (hn : n ≡ left) (e : m' ≡ copied (take n (drop b q)) m 0) where
    is_rest : m' ≡ copied (rest sent (packet_at q 0)) m 0
    is_rest = e ∙ ap₂ (λ (y z : ℕ). copied (take y (drop z q)) m 0) (hn ∙ is) hb ∙ ap (λ (l : List ℕ). copied l m 0) (sym k.rest_is)

    place : end ≡ 0 + 4 + length_at q 0
    place = omega (arith, k.low, k.high)

    pub first_laid : Laid q m' left end
    first_laid = record {
      size = ap length e ∙ copied_length (take n (drop b q)) m 0 ∙ room;
      at_most = fits;
      from_most = omega (arith, place, k.ends);
      small = omega (arith, place, k.most);
      clean = ap (λ (i : ℕ). (queue_at q i).number) place ∙ k.clean;
    }

    pub first_carries : (m'' : List ℕ) (d s : ℕ) → Ended q m' left end m'' d s → Carries sent (queue_in 0 q).packets m'' d s
    first_carries m'' d s x =
        let p : Packet = packet_at q 0 in
        let g : List Packet = (queue_at q (0 + 4 + length_at q 0)).packets in
        let a : 1504 - length (rest sent p) ≡ 1504 - left = omega (arith, k.rest_length) in
        let z : 0 + length (rest sent p) ≡ left = omega (arith, k.rest_length) in
        let c : word_fill sent (queue_in 0 q).packets ≡ behind (rest sent p) (fill_at q left end) =
        ap (word_fill sent) k.packets ∙ fill_ends 1504 sent p g (may_begin 1504 sent (omega arith)) (omega (arith, k.rest_length))
        ∙ ap₂ (λ (u v : ℕ). behind (rest sent p) (fill u 0 (queue_at q v).packets)) a (sym place) in
        let t : take left m' ≡ rest sent p =
        ap₂ take (sym z) is_rest ∙ copied_take (rest sent p) m 0 (omega (arith, k.rest_length)) in
        let y : queue (take (word_fill sent (queue_in 0 q).packets).done (queue_in 0 q).packets) ≡ queue (p ∷ take (fill_at q left end).done (queue_at q end).packets) =
        ap₂ (λ (u : ℕ) (v : List Packet). queue (take u v)) (ap (λ (f : Filled). f.done) c) (k.packets ∙ ap (λ (v : ℕ). p ∷ (queue_at q v).packets) (sym place)) in
        record {
          bytes = x.bytes ∙ ap (λ (l : List ℕ). l ++ (fill_at q left end).bytes) t ∙ sym (ap (λ (f : Filled). f.bytes) c);
          done = omega (arith, x.done, place, ap length y, queue_length p (take (fill_at q left end).done (queue_at q end).packets), k.long);
          rest = x.sent ∙ sym (ap (λ (f : Filled). f.sent) c);
        }

-- ---- the word that begins with a header

pub none_carries : (q m m' : List ℕ) (sent d s : ℕ) → sent ≡ 0 → Ended q m 0 0 m' d s → Carries sent (queue_in 0 q).packets m' d s
none_carries q m m' sent d s z e =
    subst (λ (i : ℕ). Carries i (queue_in 0 q).packets m' d s) (sym z) (record { bytes = e.bytes; done = e.done ∙ zero-add _; rest = e.sent })
