-- Laws of the second pass with the open packet: it runs on, or it ends and what follows is walked.
-- Assumes nothing.
use Prim.Native.Nat.{ℕ, ◌+◌, ◌-◌, ◌≤◌, ◌<◌}
use mathlib.Core.Path.{◌≡◌, sym, ap, ap₂, ◌∙◌}
use mathlib.Core.Bool.{false}
use mathlib.Core.List.{List, [], ◌++◌}
use native.Mathlib.Omega.{arith}
use lib.ListN.{length, get_or, take, drop, length-append, length-drop}
use lib.Seq.{take_all, length-take-le}
use Rattle.std.specs.Prelude.{Ok, Err}
use Rattle.byte_runs.specs.Runs.{copied}
use Rattle.byte_runs.proofs.Runs.{copied_is, copied_length}
use Rattle.ip.specs.Packet.{Packet}
use Rattle.ip.specs.Read.{Open, begun, Got, gives, first, reading}
use Rattle.ip.specs.Memory.{queued, queue, open_bytes, open_in}
use Rattle.ip.proofs.Any.{room_enough}
use Rattle.ip.proofs.Memory.{open_meant}
use Rattle.ip_head.specs.declared.Head.{Head}
use Rattle.ip_open.specs.declared.Opened.{Opened}
use Rattle.ip_head.specs.Header.{head_in}
use Rattle.ip_open.specs.Opening.{opened_in, told}
use Rattle.ip_look.specs.Steps.{packet_of, walk_from}
use Rattle.ip_look.proofs.Walks.{none_reads, begun_runs, begun_ends}
use Rattle.ip_open.proofs.Means.{means_none, means_begun, means_sound}
use Rattle.ip_read.specs.Steps.{four_of, begun_at, Followed, TakenIn}
use Rattle.ip_read.proofs.Copies.{copied_behind, copied_out}
use Rattle.ip_read.proofs.Hands.{queue_room}

-- ---- an open packet in the memory

-- a packet that begins here: all that follows its header
pub begun_laid : (m m1 m2 l : List ℕ) (at : ℕ) (d : Head) → length m ≡ 4104 → length l ≡ 1504 → at ≤ 1502 → d ≡ head_in (get_or l at 0) (get_or l (at + 1) 0)
    → m1 ≡ copied (take (1504 - (at + 2)) (drop (at + 2) l)) m 8 → m2 ≡ open_bytes (begun d.kind d.error d.length (take (1504 - (at + 2)) (drop 8 m1)))
    → m2 ≡ open_bytes (begun_at at l)
unfolding head_in
begun_laid m m1 m2 l at d h k j s e1 e2 =
    let x : List ℕ = drop (at + 2) l in
    let n : length x ≡ 1504 - (at + 2) = omega (arith, length-drop (at + 2) l) in
    let z : 1504 - (at + 2) ≡ 0 + length x = omega arith in
    let f : m1 ≡ copied x m 8 = e1 ∙ ap (λ (y : List ℕ). copied y m 8) (take_all (1504 - (at + 2)) x (omega arith)) in
    let t : take (1504 - (at + 2)) (drop 8 m1) ≡ x =
    ap₂ (λ (i : ℕ) (y : List ℕ). take i (drop 8 y)) z f ∙ copied_out x m 8 0 (omega arith) in
    e2 ∙ ap (λ (y : List ℕ). open_bytes (begun d.kind d.error d.length y)) t
    ∙ ap (λ (y : Head). open_bytes (begun y.kind y.error y.length (drop (at + 2) l))) s

-- a packet that goes on: the whole payload behind its bytes
pub further_laid : (m m1 m2 l : List ℕ) (t e n k : ℕ) → length m ≡ 4104 → length l ≡ 1504 → k ≤ 2592 → m1 ≡ copied l m (8 + k)
    → m2 ≡ open_bytes (begun t e n (take (k + 1504) (drop 8 m1))) → m2 ≡ open_bytes (begun t e n (take k (drop 8 m) ++ l))
further_laid m m1 m2 l t e n k h w j e1 e2 =
    e2 ∙ ap₂ (λ (i : ℕ) (y : List ℕ). open_bytes (begun t e n (take (k + i) (drop 8 y)))) (sym w) e1
    ∙ ap (λ (y : List ℕ). open_bytes (begun t e n y)) (copied_out l m 8 k (omega arith))

-- a packet that ends: its bytes so far, and those that it lacked
pub ended_put : (m m1 m2 m3 memory l : List ℕ) (t e n k r : ℕ) → length memory ≡ 4104 → n ≤ 4095 → k + r ≡ n → r ≤ length l → 4 + n ≤ length m
    → m1 ≡ copied (four_of t e n) m 0 → m2 ≡ copied (take (8 + k - 8) (drop 8 memory)) m1 4 → m3 ≡ copied (take r l) m2 (4 + k)
    → m3 ≡ copied (queued (packet_of t e (take k (drop 8 memory) ++ take r l))) m 0
ended_put m m1 m2 m3 memory l t e n k r hm hn hk hr h e1 e2 e3 =
    let four : List ℕ = four_of t e n in
    let y : List ℕ = take k (drop 8 memory) in
    let x : List ℕ = take r l in
    let ly : length y ≡ k = length-take-le k (drop 8 memory) (omega (arith, length-drop 8 memory)) in
    let lx : length x ≡ r = length-take-le r l hr in
    let b : 8 + k - 8 ≡ k = omega arith in
    let z : n ≡ length (y ++ x) = omega (arith, length-append y x) in
    let a : m2 ≡ copied (four ++ y) m 0 =
    e2 ∙ ap₂ (λ (i : ℕ) (w : List ℕ). copied (take i (drop 8 memory)) w 4) b e1 ∙ copied_behind four y m 0 (omega arith) in
    let i : 4 + k ≡ 0 + length (four ++ y) = omega arith in
    e3 ∙ ap₂ (λ (w : List ℕ) (j : ℕ). copied x w j) a i ∙ copied_behind (four ++ y) x m 0 (omega arith)
    ∙ ap (λ (j : ℕ). copied (four_of t e j ++ (y ++ x)) m 0) z

-- ---- a word that is not refused
pub record Word (m l before : List ℕ) (address : ℕ) : Type 0 where
  pub memory_is : length m ≡ 4104
  pub payload_is : length l ≡ 1504
  pub room_is : 6604 ≤ length before
  pub accepted : (reading (open_in m) address l).refused ≡ false

pub word_in : {m l before : List ℕ} {address : ℕ} → length m ≡ 4104 → length l ≡ 1504 → 6604 ≤ length before → (reading (open_in m) address l).refused ≡ false
    → Word m l before address
word_in h k r a = record { memory_is = h; payload_is = k; room_is = r; accepted = a }

module _ {m l before : List ℕ} {address : ℕ} (x : Word m l before address) where
  abbrev g : Got
  g = reading (open_in m) address l

  enough : length (queue g.packets) ≤ 6604
  enough = omega (arith, queue_room g.packets, room_enough (open_in m) address l (open_meant m) x.payload_is)

  front : copied (queue g.packets) before 0 ≡ queue g.packets ++ drop (length (queue g.packets)) before
  front =
      let q : List ℕ = queue g.packets in
      let z : 0 + length q ≡ length q = omega arith in
      copied_is q before 0 (omega (arith, enough, x.room_is)) ∙ ap (λ (i : ℕ). q ++ drop i before) z

  -- none is open
  module _ {o : Opened} (e : told (Err o) ≡ opened_in m) where
    none_is : g ≡ walk_from address l
    none_is = ap (λ (y : Open). reading y address l) (means_none m o e) ∙ none_reads address l

    pub none_accepted : (walk_from address l).refused ≡ false
    none_accepted = ap (λ (y : Got). y.refused) (sym none_is) ∙ x.accepted

    pub none_room : 0 + length (queue (walk_from address l).packets) ≤ length before
    none_room = omega (arith, enough, x.room_is, ap (λ (y : Got). length (queue y.packets)) none_is)

    pub none_taken : (mem after : List ℕ) (r : ℕ) → Followed (walk_from address l) 0 mem before after r → TakenIn g mem before after r
    none_taken mem after r f =
        let z : length (queue g.packets) ≡ length (queue (walk_from address l).packets) = ap (λ (y : Got). length (queue y.packets)) none_is in
        record {
          kept = f.kept ∙ ap (λ (y : Got). open_bytes y.after) (sym none_is);
          packets = f.packets ∙ ap (λ (y : Got). copied (queue y.packets) before 0) (sym none_is) ∙ front;
          out = omega (arith, f.out);
          most = omega (arith, f.out, enough);
        }

  -- a packet is open
  module _ {o : Opened} (e : told (Ok o) ≡ opened_in m) where
    abbrev s : List ℕ
    s = take o.sofar (drop 8 m)

    abbrev rest : ℕ
    rest = o.length - o.sofar

    abbrev open_now : Open
    open_now = begun o.kind o.error o.length s

    begun_is : g ≡ reading open_now address l
    begun_is = ap (λ (y : Open). reading y address l) (means_begun m o e)

    begun_ok : (reading open_now address l).refused ≡ false
    begun_ok = ap (λ (y : Got). y.refused) (sym begun_is) ∙ x.accepted

    to_come_lem : o.length - length s ≡ rest
    to_come_lem = ap (λ (i : ℕ). o.length - i) (means_sound m o x.memory_is e).2

    pub runs_taken : (mem : List ℕ) → length l < rest → mem ≡ open_bytes (begun o.kind o.error o.length (s ++ l)) → TakenIn g mem before before 0
    unfolding queue
    runs_taken mem j f =
        let a : g ≡ gives [] (begun o.kind o.error o.length (s ++ l)) =
        begun_is ∙ begun_runs o.kind o.error o.length s address l begun_ok (omega (arith, to_come_lem)) in
        let q : [] ≡ queue g.packets = ap (λ (y : Got). queue y.packets) (sym a) in
        record {
          kept = f ∙ ap (λ (y : Got). open_bytes y.after) (sym a);
          packets = ap (λ (y : List ℕ). y ++ drop (length y) before) q;
          out = ap length q;
          most = omega arith;
        }

    -- it ends
    module _ (j : rest ≤ length l) where
      abbrev p : Packet
      p = packet_of o.kind o.error (s ++ take rest l)

      ends_is : g ≡ first p (walk_from rest l)
      ends_is =
          begun_is ∙ begun_ends o.kind o.error o.length s address l begun_ok (omega (arith, to_come_lem))
          ∙ ap (λ (i : ℕ). first (packet_of o.kind o.error (s ++ take i l)) (walk_from i l)) to_come_lem

      queue_is : queue g.packets ≡ queued p ++ queue (walk_from rest l).packets
      unfolding queue
      queue_is = ap (λ (y : Got). queue y.packets) ends_is

      long : length (queued p) ≡ 4 + o.length
      long =
          let n = means_sound m o x.memory_is e in
          omega (arith, n.1, n.2, length-append s (take rest l), length-take-le rest l j)

      count : length (queue g.packets) ≡ 4 + o.length + length (queue (walk_from rest l).packets)
      count = ap length queue_is ∙ length-append (queued p) (queue (walk_from rest l).packets) ∙ omega (arith, long)

      pub ends_accepted : (walk_from rest l).refused ≡ false
      ends_accepted = ap (λ (y : Got). y.refused) (sym ends_is) ∙ x.accepted

      pub ends_room : (m1 : List ℕ) → m1 ≡ copied (queued p) before 0 → 4 + o.length + length (queue (walk_from rest l).packets) ≤ length m1
      ends_room m1 f = omega (arith, count, enough, x.room_is, ap length f, copied_length (queued p) before 0)

      pub ends_taken : (mem m1 after : List ℕ) (r : ℕ) → m1 ≡ copied (queued p) before 0 → Followed (walk_from rest l) (4 + o.length) mem m1 after r → TakenIn g mem before after r
      ends_taken mem m1 after r e1 f =
          let ps : List Packet = (walk_from rest l).packets in
          let z : 4 + o.length ≡ 0 + length (queued p) = omega (arith, long) in
          record {
            kept = f.kept ∙ ap (λ (y : Got). open_bytes y.after) (sym ends_is);
            packets =
                f.packets ∙ ap₂ (λ (y : List ℕ) (i : ℕ). copied (queue ps) y i) e1 z
                ∙ copied_behind (queued p) (queue ps) before 0 (omega (arith, long, count, enough, x.room_is))
                ∙ ap (λ (y : List ℕ). copied y before 0) (sym queue_is) ∙ front;
            out = omega (arith, f.out, count);
            most = omega (arith, f.out, count, enough);
          }
