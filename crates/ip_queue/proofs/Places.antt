-- Laws of a queue by the places of its packets: what a place shows, what waits there, two queues in one, and what is left behind packets
-- that are done with.
-- Assumes nothing.
use Prim.Native.Nat.{ℕ, zero, suc, ◌+◌, ◌*◌, ◌≤◌, ◌<◌}
use mathlib.Core.Path.{◌≡◌, refl, sym, ap, ap₂, ◌∙◌, subst}
use mathlib.Core.Bool.{Bool, true, false}
use mathlib.Core.List.{List, [], ◌∷◌, ◌++◌}
use native.Mathlib.Decide.{dec_le, dec_lt}
use native.Mathlib.Omega.{arith}
use lib.Dec.{eqb, ltb}
use lib.ListN.{length, get_or, take, drop, length-append, length-drop, drop_of_length-le}
use lib.Seq.{drop-cons, drop-drop, length-take-le, take-append-le}
use borrow.Author.Tests.{lt-ltb, le-ltb, ltb-false}
use Rattle.ground.specs.Choice.{choose}
use Rattle.ground.proofs.Choice.{choose_true, choose_false}
use Rattle.ip.specs.Packet.{Packet, Fit, AllFit}
use Rattle.ip.specs.Write.{address, word_fill, InPlace}
use Rattle.ip.specs.Read.{Got, reading, room}
use Rattle.ip.specs.Stream.{open_of, in_step}
use Rattle.ip.specs.Memory.{queue, Queue, holds, wrong, joins, unfit, queue_in}
use Rattle.ip.proofs.Any.{open_sound, room_enough}
use Rattle.ip.proofs.Fill.{fill_length}
use Rattle.ip.proofs.Word.{word_in_step}
use Rattle.ip.proofs.Memory.{queue_skip, queue_fit, tested_fit}
use Rattle.ip_queue.specs.Places.{queue_at, length_at, packet_at}

-- what comes of a packet's four bytes and of what stands behind them
abbrev taken : ℕ → ℕ → ℕ → List ℕ → Queue
taken t e n l =
    choose (unfit t n) (wrong 19) (choose (ltb (length l) n) (wrong 1) (joins (record { kind = t; error = choose (eqb e 0) 0 1; bytes = take n l }) (queue_in n l)))

pub not_both : {b : Bool} → b ≡ true → b ≡ false → ⊥
not_both e f = let z : ◌≡◌ {A = ℕ} 0 1 = cc in omega arith

module _ (q : List ℕ) (at : ℕ) where
  -- the four bytes at a place
  four : at + 4 ≤ length q → drop at q ≡ get_or q at 0 ∷ get_or q (at + 1) 0 ∷ get_or q (at + 2) 0 ∷ get_or q (at + 3) 0 ∷ drop (at + 4) q
  four h =
      let a : suc at ≡ at + 1 = omega arith in
      let b : suc (at + 1) ≡ at + 2 = omega arith in
      let c : suc (at + 2) ≡ at + 3 = omega arith in
      let d : suc (at + 3) ≡ at + 4 = omega arith in
      drop-cons q at 0 (omega arith)
      ∙ ap (λ (l : List ℕ). get_or q at 0 ∷ l)
      (ap (λ (i : ℕ). drop i q) a ∙ drop-cons q (at + 1) 0 (omega arith)
      ∙ ap (λ (l : List ℕ). get_or q (at + 1) 0 ∷ l)
      (ap (λ (i : ℕ). drop i q) b ∙ drop-cons q (at + 2) 0 (omega arith)
      ∙ ap (λ (l : List ℕ). get_or q (at + 2) 0 ∷ l)
      (ap (λ (i : ℕ). drop i q) c ∙ drop-cons q (at + 3) 0 (omega arith) ∙ ap (λ (i : ℕ). get_or q (at + 3) 0 ∷ drop i q) d)))

  seen : at + 4 ≤ length q → queue_at q at ≡ taken (get_or q at 0) (get_or q (at + 1) 0) (length_at q at) (drop (at + 4) q)
  unfolding queue_in
  seen h = ap (queue_in 0) (four h)

  -- the end of the queue
  pub place_end : length q ≤ at → queue_at q at ≡ holds []
  unfolding queue_in
  place_end h = ap (queue_in 0) (drop_of_length-le q h)

  -- four bytes that are not all there
  pub place_short : at < length q → length q < at + 4 → queue_at q at ≡ wrong 1
  unfolding queue_in
  place_short h k = go (drop at q) (omega (arith, length-drop at q)) (omega (arith, length-drop at q))
    where
      go : (l : List ℕ) → 1 ≤ length l → length l < 4 → queue_in 0 l ≡ wrong 1
      go [] a b = absurd (omega arith)
      go (t ∷ []) a b = refl
      go (t ∷ e ∷ []) a b = refl
      go (t ∷ e ∷ h ∷ []) a b = refl
      go (t ∷ e ∷ h ∷ g ∷ l) a b = absurd (omega arith)

  module _ (h : at + 4 ≤ length q) where
    -- a packet that is not sent
    pub place_unfit : unfit (get_or q at 0) (length_at q at) ≡ true → queue_at q at ≡ wrong 19
    place_unfit u = seen h ∙ choose_true (wrong 19) _ u

    -- one that is not all there
    pub place_cut : unfit (get_or q at 0) (length_at q at) ≡ false → length q < at + 4 + length_at q at → queue_at q at ≡ wrong 1
    place_cut u k =
        seen h ∙ choose_false (wrong 19) _ u
        ∙ choose_true (wrong 1) _ (lt-ltb (length (drop (at + 4) q)) (length_at q at) (omega (arith, length-drop (at + 4) q)))

    -- and one that is, with what follows
    pub place_packet : unfit (get_or q at 0) (length_at q at) ≡ false → at + 4 + length_at q at ≤ length q
        → queue_at q at ≡ joins (packet_at q at) (queue_at q (at + 4 + length_at q at))
    place_packet u k =
        seen h ∙ choose_false (wrong 19) _ u
        ∙ choose_false (wrong 1) _ (le-ltb (length (drop (at + 4) q)) (length_at q at) (omega (arith, length-drop (at + 4) q)))
        ∙ ap (joins (packet_at q at))
        (queue_skip (length_at q at) (drop (at + 4) q) ∙ ap (queue_in 0) (drop-drop (length_at q at) (at + 4) q))

-- ---- the packet that waits at a place of a queue in which nothing is wrong
pub record Waiting (q : List ℕ) (at : ℕ) : Type 0 where
  pub ends : at + 4 + length_at q at ≤ length q
  pub next : queue_at q at ≡ joins (packet_at q at) (queue_at q (at + 4 + length_at q at))
  pub fit : Fit (packet_at q at)
  pub long : length (packet_at q at).bytes ≡ length_at q at
  pub some : 1 ≤ length_at q at
  pub most : length_at q at ≤ 4095
  pub kind_most : get_or q at 0 ≤ 2
  pub clean : (queue_at q (at + 4 + length_at q at)).number ≡ 0

module _ (q : List ℕ) (at : ℕ) (clean : (queue_at q at).number ≡ 0) where
  no_wrong : (n : ℕ) → queue_at q at ≡ wrong (suc n) → ⊥
  no_wrong n e = omega (arith, ap (λ (c : Queue). c.number) e)

  pub waiting : at < length q → Waiting q at
  waiting h =
      let four : at + 4 ≤ length q =
      elim (dec_le (at + 4) (length q)) [
        | yes k ↦ k
        | no k ↦ absurd (no_wrong 0 (place_short q at h (omega arith)))
      ] in
      go four (unfit (get_or q at 0) (length_at q at)) refl
    where
      go : at + 4 ≤ length q → (b : Bool) → unfit (get_or q at 0) (length_at q at) ≡ b → Waiting q at
      go f true u = absurd (no_wrong 18 (place_unfit q at f u))
      go f false u =
          elim (dec_le (at + 4 + length_at q at) (length q)) [
            | yes k ↦
                let e : queue_at q at ≡ joins (packet_at q at) (queue_at q (at + 4 + length_at q at)) = place_packet q at f u k in
                let t = tested_fit (get_or q at 0) (length_at q at) u in
                record {
                  ends = k;
                  next = e;
                  fit = (subst (λ (c : Queue). AllFit c.packets) e (queue_fit 0 (drop at q))).0;
                  long = length-take-le (length_at q at) (drop (at + 4) q) (omega (arith, length-drop (at + 4) q));
                  some = t.2;
                  most = t.3;
                  kind_most = t.1;
                  clean = sym (ap (λ (c : Queue). c.number) e) ∙ clean;
                }
            | no k ↦ absurd (no_wrong 0 (place_cut q at f u (omega arith)))
          ]

-- ---- two whole queues, one behind the other, are one

join_wrong : {P : Type 0} (b : Bool) (n : ℕ) (x : Queue) → (choose b (wrong (suc n)) x).number ≡ 0 → (b ≡ false → x.number ≡ 0 → P) → P
join_wrong true n x e go = absurd (omega arith)
join_wrong false n x e go = go refl e

-- from k bytes on, which are all there
joined_from : (k : ℕ) (b b' : List ℕ) (ps' : List Packet) → k ≤ length b → (queue_in k b).number ≡ 0 → queue_in 0 b' ≡ holds ps'
    → queue_in k (b ++ b') ≡ holds ((queue_in k b).packets ++ ps')
unfolding queue_in
joined_from zero [] b' ps' h e e' = e'
joined_from (suc k) [] b' ps' h e e' = absurd (omega arith)
joined_from (suc k) (a ∷ l) b' ps' h e e' = joined_from k l b' ps' (omega arith) e e'
joined_from zero (t ∷ []) b' ps' h e e' = absurd (omega arith)
joined_from zero (t ∷ f ∷ []) b' ps' h e e' = absurd (omega arith)
joined_from zero (t ∷ f ∷ g ∷ []) b' ps' h e e' = absurd (omega arith)
joined_from zero (t ∷ f ∷ g ∷ i ∷ l) b' ps' h e e' = go (joined_from (g * 256 + i) l b' ps')
  where
    go : (g * 256 + i ≤ length l → (queue_in (g * 256 + i) l).number ≡ 0 → queue_in 0 b' ≡ holds ps' → queue_in (g * 256 + i) (l ++ b') ≡ holds ((queue_in (g * 256 + i) l).packets ++ ps'))
        → taken t f (g * 256 + i) (l ++ b') ≡ holds ((taken t f (g * 256 + i) l).packets ++ ps')
    go ih =
        let n : ℕ = g * 256 + i in
        let p : List ℕ → Packet = λ (m : List ℕ). record { kind = t; error = choose (eqb f 0) 0 1; bytes = take n m } in
        let x : Queue = joins (p l) (queue_in n l) in
        let y : Queue = joins (p (l ++ b')) (queue_in n (l ++ b')) in
        join_wrong (unfit t n) 18 (choose (ltb (length l) n) (wrong 1) x) e
        (λ u c. join_wrong (ltb (length l) n) 0 x c
        (λ v z.
        let m : n ≤ length l = ltb-false (length l) n v in
        let r : choose (unfit t n) (wrong 19) (choose (ltb (length l) n) (wrong 1) x) ≡ x =
        choose_false (wrong 19) (choose (ltb (length l) n) (wrong 1) x) u ∙ choose_false (wrong 1) x v in
        choose_false (wrong 19) (choose (ltb (length (l ++ b')) n) (wrong 1) y) u
        ∙ choose_false (wrong 1) y (le-ltb (length (l ++ b')) n (omega (arith, length-append l b')))
        ∙ ap₂ (λ (d : List ℕ) (c : Queue). joins (record { kind = t; error = choose (eqb f 0) 0 1; bytes = d }) c) (take-append-le n l b' m) (ih m z e')
        ∙ sym (ap (λ (c : Queue). holds (c.packets ++ ps')) r)))

pub queue_join : (b b' : List ℕ) (ps ps' : List Packet) → queue_in 0 b ≡ holds ps → queue_in 0 b' ≡ holds ps' → queue_in 0 (b ++ b') ≡ holds (ps ++ ps')
queue_join b b' ps ps' e e' =
    joined_from 0 b b' ps' (omega arith) (ap (λ (c : Queue). c.number) e) e' ∙ ap (λ (c : Queue). holds (c.packets ++ ps')) e

-- ---- what is left of a queue behind packets that are done with

-- how many bytes packets take in the queue
pub queue_length : (p : Packet) (ps : List Packet) → length (queue (p ∷ ps)) ≡ 4 + length p.bytes + length (queue ps)
unfolding queue
queue_length p ps = omega (arith, length-append p.bytes (queue ps))

-- as many as packets take that are handed out
pub queue_room : (ps : List Packet) → length (queue ps) ≡ room ps
unfolding queue room
queue_room [] = refl
queue_room (p ∷ ps) = queue_length p ps ∙ ap (λ (k : ℕ). 4 + length p.bytes + k) (queue_room ps)

-- a word is done with at most 6,604 bytes of the queue
pub done_most : (s : ℕ) (q : List Packet) → AllFit q → InPlace s q → length (queue (take (word_fill s q).done q)) ≤ 6604
done_most s q fit at =
    let g : Got = reading (open_of s q) (address s q) (word_fill s q).bytes in
    let e : g ≡ in_step (word_fill s q) q = word_in_step s q fit at in
    let r : room g.packets ≤ 6604 = room_enough (open_of s q) (address s q) (word_fill s q).bytes (open_sound s q fit at) (fill_length q 1504 s) in
    omega (arith, r, queue_room (take (word_fill s q).done q), ap (λ (x : Got). room x.packets) e)

-- a queue that holds a packet begins with it
pub queue_first : (b : List ℕ) (p : Packet) (ps : List Packet) → queue_in 0 b ≡ holds (p ∷ ps)
    → (packet_at b 0 ≡ p) × (length_at b 0 ≡ length p.bytes) × (queue_in 0 (drop (4 + length p.bytes) b) ≡ holds ps)
unfolding queue_in
queue_first b p ps e =
    let some : 0 < length b =
    elim (dec_lt 0 (length b)) [
      | yes h ↦ h
      | no h ↦
          let z : [] ≡ p ∷ ps = ap (λ (c : Queue). c.packets) (sym (place_end b 0 (omega arith)) ∙ e) in
          let x : ◌≡◌ {A = ℕ} 0 1 = cc in absurd (omega arith)
    ] in
    let w : Waiting b 0 = waiting b 0 (ap (λ (c : Queue). c.number) e) some in
    let j : joins (packet_at b 0) (queue_at b (0 + 4 + length_at b 0)) ≡ holds (p ∷ ps) = sym w.next ∙ e in
    let l : packet_at b 0 ∷ (queue_at b (0 + 4 + length_at b 0)).packets ≡ p ∷ ps = ap (λ (c : Queue). c.packets) j in
    let i : packet_at b 0 ≡ p = cc in
    let n : length_at b 0 ≡ length p.bytes = sym w.long ∙ ap (λ (x : Packet). length x.bytes) i in
    let r : (queue_at b (0 + 4 + length_at b 0)).packets ≡ ps = cc in
    let k : 0 + 4 + length_at b 0 ≡ 4 + length p.bytes = omega arith in
    let q : queue_at b (0 + 4 + length_at b 0) ≡ holds ps = ap₂ (λ (x : ℕ) (y : List Packet). record { number = x; packets = y }) w.clean r in
    (i, n, sym (ap (queue_at b) k) ∙ q)

pub queue_drop : (k : ℕ) (b : List ℕ) (ps : List Packet) → queue_in 0 b ≡ holds ps → queue_in 0 (drop (length (queue (take k ps))) b) ≡ holds (drop k ps)
unfolding queue
queue_drop zero b ps e = e
queue_drop (suc k) b [] e = e
queue_drop (suc k) b (p ∷ ps) e =
    let f = queue_first b p ps e in
    let n : ℕ = 4 + length p.bytes in
    let d : ℕ = length (queue (take k ps)) in
    ap (λ (i : ℕ). queue_in 0 (drop i b)) (queue_length p (take k ps)) ∙ ap (queue_in 0) (sym (drop-drop d n b))
    ∙ queue_drop k (drop n b) ps f.2
