-- Laws of what the writer's stores leave in the payload: a packet's header, a packet that is laid whole, one that runs on, and padding.
-- Assumes nothing.
use Prim.Native.Nat.{ℕ, ◌+◌, ◌-◌, ◌*◌, ◌/◌, ◌%◌, ◌≤◌, ◌<◌}
use mathlib.Core.Path.{◌≡◌, refl, sym, ap, ap₂, ◌∙◌, subst}
use mathlib.Core.List.{List, [], ◌∷◌, ◌++◌, append_assoc, append-nil}
use native.Mathlib.Decide.{dec_lt}
use native.Mathlib.Nat.{zero-add}
use native.Mathlib.Omega.{arith}
use lib.ListN.{length, take, drop, replicate, length-append, drop_of_length-le}
use lib.Seq.{take_all, take_at, drop_at, drop-drop, take-take, take-append-add, length-take-le}
use Rattle.std.specs.Int.{w16, to_be_bytes}
use Rattle.bits.specs.Lists.{bits, pack}
use Rattle.bits.proofs.Numbers.{bits_join, pack_16}
use Rattle.byte_runs.specs.Runs.{copied, filled_from}
use Rattle.byte_runs.proofs.Runs.{copied_is, copied_length}
use Rattle.ip.specs.Packet.{Packet, Fit, header_bits, header, whole}
use Rattle.ip.specs.Write.{Filled, behind, filler, fill}
use Rattle.ip.specs.Memory.{Queue, queue}
use Rattle.ip.proofs.Walk.{header_length, whole_length}
use Rattle.ip.proofs.Fill.{may_begin, fill_ends, fill_runs, fill_waits, cut}
use Rattle.ip_queue.specs.Places.{queue_at, length_at, packet_at}
use Rattle.ip_write.specs.Steps.{header_number, begun_with, Waits, fill_at, Laid, Same, Ended}
use Rattle.ip_queue.proofs.Places.{Waiting, waiting, place_end, queue_length}

-- ---- the header of a packet is one number
pub header_is : (p : Packet) → Fit p
    → header p ≡ header_number p.kind p.error (length p.bytes) / 256 % 256 ∷ header_number p.kind p.error (length p.bytes) % 256 ∷ []
unfolding header header_bits
header_is p f =
    let t : ℕ = p.kind in
    let e : ℕ = p.error in
    let n : ℕ = length p.bytes in
    let a : bits 12 n ++ bits 1 0 ≡ bits 13 (n * 2 + 0) = sym (bits_join 12 1 n 0 (omega arith)) in
    let b : bits 1 e ++ bits 13 (n * 2 + 0) ≡ bits 14 (e * 8192 + (n * 2 + 0)) = sym (bits_join 1 13 e (n * 2 + 0) (omega (arith, f.most))) in
    let c : bits 2 t ++ bits 14 (e * 8192 + (n * 2 + 0)) ≡ bits 16 (t * 16384 + (e * 8192 + (n * 2 + 0))) =
    sym (bits_join 2 14 t (e * 8192 + (n * 2 + 0)) (omega (arith, f.most, f.error_bit))) in
    let v : t * 16384 + (e * 8192 + (n * 2 + 0)) ≡ header_number t e n = omega arith in
    ap (pack 2)
    (ap (λ (l : List ℕ). bits 2 t ++ (bits 1 e ++ l)) a ∙ ap (λ (l : List ℕ). bits 2 t ++ l) b ∙ c ∙ ap (bits 16) v)
    ∙ pack_16 (header_number t e n)

-- ---- runs in the payload

module _ (x m : List ℕ) (at : ℕ) (h : at + length x ≤ length m) where
  front : length (take at m ++ x) ≡ at + length x
  front = length-append (take at m) x ∙ ap (λ (k : ℕ). k + length x) (length-take-le at m (omega arith))

  -- what stands before its end, and behind it
  pub copied_take : take (at + length x) (copied x m at) ≡ take at m ++ x
  copied_take = ap (take (at + length x)) (copied_is x m at h) ∙ take_at (take at m ++ x) (drop (at + length x) m) (at + length x) front

  pub copied_drop : drop (at + length x) (copied x m at) ≡ drop (at + length x) m
  copied_drop = ap (drop (at + length x)) (copied_is x m at h) ∙ drop_at (take at m ++ x) (drop (at + length x) m) (at + length x) front

  -- up to the end of the payload
  pub copied_last : length m ≤ at + length x → copied x m at ≡ take at m ++ x
  copied_last k = copied_is x m at h ∙ ap (λ (l : List ℕ). take at m ++ x ++ l) (drop_of_length-le m k) ∙ append-nil (take at m ++ x)

-- one run behind another
pub copied_both : (x y m : List ℕ) (at : ℕ) → at + length x + length y ≤ length m → copied y (copied x m at) (at + length x) ≡ copied (x ++ y) m at
copied_both x y m at h =
    let a : ℕ = at + length x in
    let n : List ℕ = copied x m at in
    let hx : at + length x ≤ length m = omega arith in
    let hn : a + length y ≤ length n = omega (arith, copied_length x m at) in
    let hb : at + length (x ++ y) ≤ length m = omega (arith, length-append x y) in
    let e : a + length y ≡ at + length (x ++ y) = omega (arith, length-append x y) in
    let d : drop (a + length y) n ≡ drop (at + length (x ++ y)) m =
    sym (drop-drop (length y) a n) ∙ ap (drop (length y)) (copied_drop x m at hx) ∙ drop-drop (length y) a m ∙ ap (λ (k : ℕ). drop k m) e in
    copied_is y n a hn
    ∙ ap₂ (λ (l r : List ℕ). l ++ y ++ r) (copied_take x m at hx) d
    ∙ ap (λ (l : List ℕ). l ++ drop (at + length (x ++ y)) m) (append_assoc (take at m) x y)
    ∙ sym (copied_is (x ++ y) m at hb)

-- ---- the packet at a place of the queue
module _ (q : List ℕ) (from : ℕ) (waits : Waits q from) where
  w : Waiting q from
  w = waiting q from waits.0 waits.1

  -- its header, of which v is the number
  module _ (v : ℕ) (is : v ≡ header_number (packet_at q from).kind (packet_at q from).error (length_at q from)) where
    pub header_small : v < 65536
    unfolding w
    header_small = omega (arith, w.fit.error_bit, w.kind_most, w.most)

    pub header_put_lem : (m m' : List ℕ) (at : ℕ) → m' ≡ copied (to_be_bytes w16 v) m at → m' ≡ copied (header (packet_at q from)) m at
    unfolding w
    header_put_lem m m' at e =
        let p : Packet = packet_at q from in
        let i : v ≡ header_number p.kind p.error (length p.bytes) = is ∙ ap (header_number p.kind p.error) (sym w.long) in
        e ∙ ap (λ (x : ℕ). copied (x / 256 % 256 ∷ x % 256 ∷ []) m at) i ∙ ap (λ (l : List ℕ). copied l m at) (sym (header_is p w.fit))

  -- its header and its first n bytes
  pub packet_put : (m m' m'' : List ℕ) (at n : ℕ) → n ≤ length_at q from → at + 2 + n ≤ length m → m' ≡ copied (header (packet_at q from)) m at
      → m'' ≡ copied (take n (drop (from + 4) q)) m' (at + 2) → m'' ≡ copied (begun_with n (packet_at q from)) m at
  unfolding w
  packet_put m m' m'' at n h r e e' =
      let p : Packet = packet_at q from in
      let hl : length (header p) ≡ 2 = header_length p w.fit in
      let d : take n (drop (from + 4) q) ≡ take n p.bytes = sym (take-take n (length_at q from) (drop (from + 4) q) h) in
      let s : at + 2 ≡ at + length (header p) = omega arith in
      let y : length (take n p.bytes) ≡ n = length-take-le n p.bytes (omega (arith, w.long)) in
      e' ∙ ap₂ (λ (l : List ℕ) (k : List ℕ). copied l k (at + 2)) d e ∙ ap (copied (take n p.bytes) (copied (header p) m at)) s
      ∙ copied_both (header p) (take n p.bytes) m at (omega arith)

-- ---- from place to place

nothing : (k : ℕ) → k + length (queue []) ≡ k
unfolding queue
nothing k = omega arith

-- where nothing is laid yet
pub same_none : (q m : List ℕ) (at from : ℕ) → Same q m at from m at from
same_none q m at from = record { bytes = refl; done = refl; sent = refl }

module _ (q m : List ℕ) (at from : ℕ) (l : Laid q m at from) (h : from < length q) where
  next : Waiting q from
  next = waiting q from l.clean h

  packets : (queue_at q from).packets ≡ packet_at q from ∷ (queue_at q (from + 4 + length_at q from)).packets
  unfolding next
  packets = ap (λ (c : Queue). c.packets) next.next

  -- how the rest of the payload is filled: a packet that fits is laid, and the rest behind it
  ends : length_at q from + 2 ≤ 1504 - at
      → fill_at q at from ≡ behind (whole (packet_at q from)) (fill_at q (at + (length_at q from + 2)) (from + (length_at q from + 4)))
  unfolding next packets
  ends r =
      let p : Packet = packet_at q from in
      let g : List Packet = (queue_at q (from + 4 + length_at q from)).packets in
      let k : length (whole p) ≡ length_at q from + 2 = whole_length p next.fit ∙ omega (arith, next.long) in
      let a : 1504 - at - length (whole p) ≡ 1504 - (at + (length_at q from + 2)) = omega arith in
      let b : from + 4 + length_at q from ≡ from + (length_at q from + 4) = omega arith in
      ap (fill (1504 - at) 0) packets
      ∙ fill_ends (1504 - at) 0 p g (may_begin (1504 - at) 0 (omega arith)) (omega arith)
      ∙ ap₂ (λ (x y : ℕ). behind (whole p) (fill x 0 (queue_at q y).packets)) a b

  runs : 1504 - at < length_at q from + 2 → at ≤ 1502 → fill_at q at from ≡ cut (1504 - at) 0 (packet_at q from)
  unfolding next packets
  runs r k =
      let p : Packet = packet_at q from in
      ap (fill (1504 - at) 0) packets
      ∙ fill_runs (1504 - at) 0 p (queue_at q (from + 4 + length_at q from)).packets (may_begin (1504 - at) 0 (omega arith))
      (omega (arith, whole_length p next.fit, next.long))

  -- the place behind a packet that fits
  laid_more : (m' : List ℕ) → length_at q from + 2 ≤ 1504 - at → m' ≡ copied (whole (packet_at q from)) m at
      → Laid q m' (at + (length_at q from + 2)) (from + (length_at q from + 4))
  unfolding next
  laid_more m' r e =
      let b : from + 4 + length_at q from ≡ from + (length_at q from + 4) = omega arith in
      record {
        size = ap length e ∙ copied_length (whole (packet_at q from)) m at ∙ l.size;
        at_most = omega arith;
        from_most = omega (arith, next.ends);
        small = omega (arith, l.small);
        clean = sym (ap (λ (k : ℕ). (queue_at q k).number) b) ∙ next.clean;
      }

  same_more : (m₀ : List ℕ) (at₀ from₀ : ℕ) (m' : List ℕ) → length_at q from + 2 ≤ 1504 - at → m' ≡ copied (whole (packet_at q from)) m at
      → Same q m₀ at₀ from₀ m at from → Same q m₀ at₀ from₀ m' (at + (length_at q from + 2)) (from + (length_at q from + 4))
  unfolding next packets
  same_more m₀ at₀ from₀ m' r e s =
      let p : Packet = packet_at q from in
      let at' : ℕ = at + (length_at q from + 2) in
      let from' : ℕ = from + (length_at q from + 4) in
      let b : from + 4 + length_at q from ≡ from' = omega arith in
      let k : length (whole p) ≡ length_at q from + 2 = whole_length p next.fit ∙ omega (arith, next.long) in
      let t : take at' m' ≡ take at m ++ whole p =
      ap₂ take (ap (λ (x : ℕ). at + x) (sym k)) e ∙ copied_take (whole p) m at (omega (arith, l.size)) in
      let d : queue (take (fill_at q at from).done (queue_at q from).packets) ≡ queue (p ∷ take (fill_at q at' from').done (queue_at q from').packets) =
      ap₂ (λ (x : ℕ) (y : List Packet). queue (take x y)) (ap (λ (f : Filled). f.done) (ends r)) (packets ∙ ap (λ (x : ℕ). p ∷ (queue_at q x).packets) b) in
      record {
        bytes =
            ap (λ (x : List ℕ). x ++ (fill_at q at' from').bytes) t ∙ append_assoc (take at m) (whole p) (fill_at q at' from').bytes
            ∙ sym (ap (λ (f : Filled). take at m ++ f.bytes) (ends r)) ∙ s.bytes;
        done =
            omega (arith, ap length d, queue_length p (take (fill_at q at' from').done (queue_at q from').packets), next.long, s.done);
        sent = sym (ap (λ (f : Filled). f.sent) (ends r)) ∙ s.sent;
      }

  pub packet_more : (m₀ : List ℕ) (at₀ from₀ : ℕ) (m' : List ℕ) (n : ℕ) → n ≡ length_at q from → n + 2 ≤ 1504 - at → m' ≡ copied (begun_with n (packet_at q from)) m at
      → Same q m₀ at₀ from₀ m at from → Laid q m' (at + (n + 2)) (from + (n + 4)) × Same q m₀ at₀ from₀ m' (at + (n + 2)) (from + (n + 4))
  unfolding next
  packet_more m₀ at₀ from₀ m' n i r e s =
      let k : length_at q from + 2 ≤ 1504 - at = omega arith in
      let all : m' ≡ copied (whole (packet_at q from)) m at =
      e ∙ ap (λ (l : List ℕ). copied (header (packet_at q from) ++ l) m at) (take_all n (packet_at q from).bytes (omega (arith, next.long))) in
      subst (λ (x : ℕ). Laid q m' (at + (x + 2)) (from + (x + 4)) × Same q m₀ at₀ from₀ m' (at + (x + 2)) (from + (x + 4))) (sym i)
      (laid_more m' k all, same_more m₀ at₀ from₀ m' k all s)

  -- the end: a packet that runs on
  pub begun_last : (m' : List ℕ) → 1504 - at < length_at q from + 2 → at ≤ 1502
      → m' ≡ copied (begun_with (1502 - at) (packet_at q from)) m at → Ended q m at from m' from (1504 - at)
  unfolding next
  begun_last m' r k e =
      let p : Packet = packet_at q from in
      let x : List ℕ = begun_with (1502 - at) p in
      let hl : length (header p) ≡ 2 = header_length p next.fit in
      let len : length x ≡ 1504 - at =
      length-append (header p) (take (1502 - at) p.bytes) ∙ omega (arith, length-take-le (1502 - at) p.bytes (omega (arith, next.long))) in
      let z : length (header p) + (1502 - at) ≡ 1504 - at = omega arith in
      let c : x ≡ take (1504 - at) (whole p) = sym (take-append-add (header p) p.bytes (1502 - at)) ∙ ap (λ (i : ℕ). take i (whole p)) z in
      record {
        bytes =
            e ∙ copied_last x m at (omega (arith, l.size)) (omega (arith, l.size)) ∙ ap (λ (y : List ℕ). take at m ++ y) c
            ∙ sym (ap (λ (f : Filled). take at m ++ f.bytes) (runs r k));
        done = sym (ap (λ (f : Filled). from + length (queue (take f.done (queue_at q from).packets))) (runs r k) ∙ nothing from);
        sent = sym (ap (λ (f : Filled). f.sent) (runs r k) ∙ zero-add (1504 - at));
      }

-- the end: padding, where no packet waits or no header fits
pub padding_last : (q m : List ℕ) (at from : ℕ) → Laid q m at from → (from < length q → 1502 < at) → (m' : List ℕ)
    → m' ≡ filled_from m at 255 → Ended q m at from m' from 0
unfolding fill filled_from
padding_last q m at from l w m' e =
    let f : fill_at q at from ≡ filler (1504 - at) =
    elim (dec_lt from (length q)) [
      | no h ↦ ap (λ (c : Queue). fill (1504 - at) 0 c.packets) (place_end q from (omega arith))
      | yes h ↦
          let a : 1502 < at = w h in
          ap (fill (1504 - at) 0) (packets q m at from l h)
          ∙ fill_waits (1504 - at) (packet_at q from) (queue_at q (from + 4 + length_at q from)).packets (omega arith)
    ] in
    record {
      bytes = e ∙ ap (λ (k : ℕ). take at m ++ replicate (k - at) 255) l.size ∙ sym (ap (λ (x : Filled). take at m ++ x.bytes) f);
      done = sym (ap (λ (x : Filled). from + length (queue (take x.done (queue_at q from).packets))) f ∙ nothing from);
      sent = sym (ap (λ (x : Filled). x.sent) f);
    }

-- what is filled from a later place on is filled from the first
pub ended_from : (q m m' m'' : List ℕ) (at from at' from' d s : ℕ) → Same q m at from m' at' from' → Ended q m' at' from' m'' d s → Ended q m at from m'' d s
ended_from q m m' m'' at from at' from' d s a e = record { bytes = e.bytes ∙ a.bytes; done = e.done ∙ a.done; sent = e.sent ∙ a.sent }
