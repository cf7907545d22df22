-- Laws of the second pass: what is handed out, and what is then open.
-- Assumes nothing.
use Prim.Native.Nat.{ℕ, ◌+◌, ◌-◌, ◌≤◌, ◌<◌}
use mathlib.Core.Path.{◌≡◌, refl, sym, ap, ap₂, ◌∙◌}
use mathlib.Core.Bool.{true, false}
use mathlib.Core.List.{List, [], ◌∷◌, ◌++◌}
use native.Mathlib.Omega.{arith}
use lib.ListN.{length, get_or, take, drop, length-append, length-drop}
use lib.Seq.{length-take-le}
use Rattle.byte_runs.specs.Runs.{copied}
use Rattle.byte_runs.proofs.Runs.{copied_length}
use Rattle.ip.specs.Packet.{Packet, length_in, stuffing}
use Rattle.ip.specs.Read.{none, Got, gives, first, room}
use Rattle.ip.specs.Memory.{queued, queue, open_bytes}
use Rattle.ip_head.specs.declared.Head.{Head}
use Rattle.ip_head.specs.Header.{head_in}
use Rattle.ip_look.specs.Steps.{packet_of, walk_from}
use Rattle.ip_look.proofs.Walks.{only_after, end_packets, end_after, padding_after, packet_ends, packet_runs, runs_nothing, nothing_runs}
use Rattle.ip_read.specs.Steps.{four_of, begun_at, Ends, HandedOut}
use Rattle.ip_read.proofs.Copies.{copied_behind, nothing_copied}

-- the queue's bytes are the room that its packets take
pub queue_room : (ps : List Packet) → length (queue ps) ≡ room ps
unfolding queue room
queue_room [] = refl
queue_room (p ∷ ps) = length-append (queued p) (queue ps) ∙ omega (arith, queue_room ps)

-- a packet's four bytes, and its bytes behind them
pub packet_put : (m m1 m2 x : List ℕ) (at t e : ℕ) → at + 4 + length x ≤ length m
    → m1 ≡ copied (four_of t e (length x)) m at → m2 ≡ copied x m1 (at + 4) → m2 ≡ copied (queued (packet_of t e x)) m at
packet_put m m1 m2 x at t e h e1 e2 = e2 ∙ ap (λ (l : List ℕ). copied x l (at + 4)) e1 ∙ copied_behind (four_of t e (length x)) x m at h

-- ---- packet behind packet: what is left to hand out leads to all of it

pub record Handing (l : List ℕ) (from start : ℕ) (m0 : List ℕ) (at out : ℕ) (m : List ℕ) : Type 0 where
  pub accepted : (walk_from at l).refused ≡ false
  pub left_open : (walk_from at l).after ≡ (walk_from from l).after
  pub count : out + length (queue (walk_from at l).packets) ≡ start + length (queue (walk_from from l).packets)
  pub size : length m ≡ length m0
  pub laid : copied (queue (walk_from at l).packets) m out ≡ copied (queue (walk_from from l).packets) m0 start

module _ (l : List ℕ) (from start : ℕ) (m0 : List ℕ) where
  pub hand_none : (walk_from from l).refused ≡ false → Handing l from start m0 from start m0
  hand_none ok = record { accepted = ok; left_open = refl; count = refl; size = refl; laid = refl }

  module _ (at out : ℕ) (m : List ℕ) (h : Handing l from start m0 at out m) where
    -- nothing is left
    all_out : (walk_from at l).packets ≡ [] → HandedOut l from start m0 m (record { at = at; out = out })
    unfolding queue
    all_out e =
        let q : queue (walk_from at l).packets ≡ [] = ap queue e in
        let n : out + 0 ≡ start + length (queue (walk_from from l).packets) = ap (λ (x : List ℕ). out + length x) (sym q) ∙ h.count in
        record {
          memory = sym (nothing_copied m out) ∙ ap (λ (x : List ℕ). copied x m out) (sym q) ∙ h.laid;
          out = omega arith;
          ended = only_after (walk_from at l) h.accepted e ∙ ap (gives []) h.left_open;
        }

    -- no header fits
    pub hand_end : length l ≤ at + 1 → HandedOut l from start m0 m (record { at = at; out = out })
    hand_end k = all_out (end_packets l at k)

-- at a header
pub record Step (l : List ℕ) (from start : ℕ) (m0 : List ℕ) (at out : ℕ) (m : List ℕ) (d : Head) : Type 0 where
  pub so_far : Handing l from start m0 at out m
  pub fits : start + length (queue (walk_from from l).packets) ≤ length m0
  pub payload_is : length l ≡ 1504
  pub place : at ≤ 1502
  pub head : d ≡ head_in (get_or l at 0) (get_or l (at + 1) 0)

pub step_at : {l : List ℕ} {from start : ℕ} {m0 : List ℕ} {at out : ℕ} {m : List ℕ} {d : Head} → Handing l from start m0 at out m
    → start + length (queue (walk_from from l).packets) ≤ length m0 → length l ≡ 1504 → at ≤ 1502 → d ≡ head_in (get_or l at 0) (get_or l (at + 1) 0)
    → Step l from start m0 at out m d
step_at h f p k e = record { so_far = h; fits = f; payload_is = p; place = k; head = e }

module _ {l : List ℕ} {from start : ℕ} {m0 : List ℕ} {at out : ℕ} {m : List ℕ} {d : Head} (c : Step l from start m0 at out m d) where
  abbrev h : Handing l from start m0 at out m
  h = c.so_far

  size : d.length ≡ length_in (get_or l at 0) (get_or l (at + 1) 0)
  unfolding head_in
  size = ap (λ (x : Head). x.length) c.head

  in_word : at + 1 < length l
  in_word = omega (arith, c.place, c.payload_is)

  -- the length passes the end
  pub hand_runs : length l < at + 2 + d.length → HandedOut l from start m0 m (record { at = at; out = out })
  hand_runs k = all_out l from start m0 at out m h (runs_nothing l at in_word h.accepted (omega (arith, size)))

  -- the packet ends
  module _ (k : at + 2 + d.length ≤ length l) where
    abbrev x : List ℕ
    x = take d.length (drop (at + 2) l)

    abbrev p : Packet
    p = packet_of d.kind d.error x

    abbrev ps : List Packet
    ps = (walk_from (at + 2 + d.length) l).packets

    step : walk_from at l ≡ first p (walk_from (at + 2 + d.length) l)
    unfolding head_in
    step =
        packet_ends l at in_word h.accepted (omega (arith, size)) (omega (arith, c.payload_is))
        ∙ ap (λ (y : Head). first (packet_of y.kind y.error (take y.length (drop (at + 2) l))) (walk_from (at + 2 + y.length) l)) (sym c.head)

    long : length x ≡ d.length
    long = length-take-le d.length (drop (at + 2) l) (omega (arith, length-drop (at + 2) l))

    queue_step : queue (walk_from at l).packets ≡ queued p ++ queue ps
    unfolding queue
    queue_step = ap (λ (g : Got). queue g.packets) step

    count_step : out + (4 + d.length) + length (queue ps) ≡ start + length (queue (walk_from from l).packets)
    count_step =
        let n : length (queue (walk_from at l).packets) ≡ 4 + d.length + length (queue ps) =
        ap length queue_step ∙ length-append (queued p) (queue ps) ∙ omega (arith, long) in
        omega (arith, h.count)

    -- the part of the payload that is lent for it
    abbrev run : List ℕ
    run = take (at + 2 + d.length - (at + 2)) (drop (at + 2) l)

    run_is : run ≡ x
    run_is =
        let n : at + 2 + d.length - (at + 2) ≡ d.length = omega arith in
        ap (λ (i : ℕ). take i (drop (at + 2) l)) n

    run_long : length run ≡ d.length
    run_long = ap length run_is ∙ long

    pub hand_room : (out + 4 + length run ≤ length m) × (length run < 65536)
    hand_room = (omega (arith, run_long, count_step, c.fits, h.size), omega (arith, run_long, c.payload_is))

    pub hand_fits : out + (4 + d.length) ≤ length m
    hand_fits = omega (arith, count_step, c.fits, h.size)

    pub hand_more : (m' : List ℕ) → m' ≡ copied (queued (packet_of d.kind d.error run)) m out → Handing l from start m0 (at + 2 + d.length) (out + (4 + d.length)) m'
    hand_more m' f =
        let e : m' ≡ copied (queued p) m out = f ∙ ap (λ (y : List ℕ). copied (queued (packet_of d.kind d.error y)) m out) run_is in
        record {
          accepted = ap (λ (g : Got). g.refused) (sym step) ∙ h.accepted;
          left_open = ap (λ (g : Got). g.after) (sym step) ∙ h.left_open;
          count = count_step;
          size = ap length e ∙ copied_length (queued p) m out ∙ h.size;
          laid =
              let n : out + (4 + d.length) ≡ out + length (queued p) = omega (arith, long) in
              ap₂ (λ (y : List ℕ) (i : ℕ). copied (queue ps) y i) e n
              ∙ copied_behind (queued p) (queue ps) m out (omega (arith, long, count_step, c.fits, h.size))
              ∙ ap (λ (y : List ℕ). copied y m out) (sym queue_step) ∙ h.laid;
        }

-- ---- what is open where the walk ends
module _ (l : List ℕ) (at : ℕ) where
  pub keep_end : (m : List ℕ) → length l ≤ at + 1 → m ≡ open_bytes none → m ≡ open_bytes (walk_from at l).after
  keep_end m h e = e ∙ ap open_bytes (sym (end_after l at h))

  module _ (h : at + 1 < length l) where
    pub keep_padding : (m : List ℕ) → stuffing (get_or l at 0) (get_or l (at + 1) 0) ≡ true → m ≡ open_bytes none → m ≡ open_bytes (walk_from at l).after
    keep_padding m p e = e ∙ ap open_bytes (sym (padding_after l at h p))

    pub keep_begun : (m : List ℕ) → Ends at l → stuffing (get_or l at 0) (get_or l (at + 1) 0) ≡ false
        → m ≡ open_bytes (begun_at at l) → m ≡ open_bytes (walk_from at l).after
    keep_begun m d p e =
        let ok : (walk_from at l).refused ≡ false = ap (λ (g : Got). g.refused) d in
        let q : (walk_from at l).packets ≡ [] = ap (λ (g : Got). g.packets) d in
        e ∙ ap (λ (g : Got). open_bytes g.after) (sym (packet_runs l at h ok (nothing_runs l at h ok q p) p))
