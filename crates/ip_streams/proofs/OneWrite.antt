-- One call of the writer: what it leaves, and where the queue then stands.
-- Assumes nothing.
use Prim.Native.Nat.{ℕ, zero, suc, ◌≤◌, ◌<◌}
use mathlib.Core.Bool.{false, not}
use mathlib.Core.Path.{◌≡◌, refl, sym, ap, ap₂, ◌∙◌, subst}
use mathlib.Core.List.{List, [], ◌∷◌, ◌++◌}
use native.Mathlib.Decide.{dec_lt}
use native.Mathlib.Omega.{arith}
use borrow.Author.Tests.{eq-eqb, ne_eqb, le-ltb}
use lib.Dec.{eqb}
use lib.ListN.{length, take, drop}
use lib.Seq.{take_at, drop_at, take-append-le}
use Rattle.ground.specs.Outcome.{Is}
use Rattle.ground.specs.Choice.{Fault, refuse, first_of}
use Rattle.ground.proofs.Choice.{choose_true, skip, no_difference, first_clear, first_found, all_clear}
use Rattle.bits.specs.Lists.{bits, num, unpack, pack}
use Rattle.bits.proofs.Lists.{bits_length, bits_below, num_bits, unpack_pack, pack_length}
use Rattle.infoword.specs.Word.{ip_word}
use Rattle.ip.specs.Packet.{Packet, AllFit}
use Rattle.ip.specs.Write.{Filled, address, word_fill, to_come, fill, InPlace}
use Rattle.ip.specs.Stream.{kept}
use Rattle.ip.specs.Memory.{queue, Queue, holds, queue_in}
use Rattle.ip.proofs.Front.{word_front}
use Rattle.ip.proofs.Memory.{queue_fit}
use Rattle.ip.proofs.Step.{place_after, done_most as done_few}
use Rattle.ip.proofs.Stream.{fit_append, fit_drop, place_append}
use Rattle.ip_queue.specs.Looking.{misplaced}
use Rattle.ip_queue.proofs.Places.{done_most, queue_join, queue_drop}
use Rattle.ip_queue.proofs.First.{in_place}
use Rattle.ip_write.specs.Writing.{write_faults, progress_of, written}
use Rattle.ip_write.proofs.Refusals.{none_wrong}
use Rattle.ip_streams.specs.Calls.{WriteCall, done_of, sent_of}
use Rattle.ip_streams.specs.Streams.{NothingToCarry, Front}

-- a call that had the outcome that the writer's promise gives
abbrev pub Wrote : WriteCall → Type 0
Wrote c = Is (written c.id c.sent c.queue c.word c.progress) c.answer (c.left_word, c.left_progress) × (c.id < 256)

-- `sent` in its place is not out of it
placed : (s : ℕ) (q : List Packet) → InPlace s q → misplaced s q ≡ false
unfolding misplaced
placed zero q at = refl
placed (suc s) [] at = absurd at
placed (suc s) (p ∷ q) at = skip (ne_eqb s 0 (λ z. omega (arith, at.0, z))) (le-ltb (length p.bytes) s at.1)

-- and no more than 4,096
small : (s : ℕ) (q : List Packet) → AllFit q → InPlace s q → s ≤ 4096
small zero q fit at = omega arith
small (suc s) [] fit at = absurd at
small (suc s) (p ∷ q) fit at = omega (arith, at.1, fit.0.most)

-- whole packets
pub whole_held : (j : List ℕ) → (queue_in 0 j).number ≡ 0 → queue_in 0 j ≡ holds (queue_in 0 j).packets
whole_held j e = ap (λ (n : ℕ). record { number = n; packets = (queue_in 0 j).packets }) e

-- what is still to come does not depend on what waits behind
address_append : (s : ℕ) (q x : List Packet) → InPlace s q → address s (q ++ x) ≡ address s q
unfolding to_come
address_append zero q x at = refl
address_append (suc s) [] x at = absurd at
address_append (suc s) (p ∷ q) x at = refl

-- a number of four bytes
four_back : (v : ℕ) → v < 4294967296 → num (unpack (pack 4 (bits 32 v))) ≡ v
four_back v h = ap num (unpack_pack 4 (bits 32 v) (bits_below 32 v) (bits_length 32 v)) ∙ num_bits 32 v h

module _ (c : WriteCall) (did : Wrote c) (q : List Packet) (held : queue_in 0 c.queue ≡ holds q) (fit : AllFit q) (at : InPlace c.sent q)
    (word_is : length c.word ≡ 1536) (progress_is : length c.progress ≡ 8) where
  abbrev k : Queue
  k = queue_in 0 c.queue

  abbrev refused : ℕ
  refused = first_of (write_faults c.sent k (length c.word) (length c.progress))

  packets_are : k.packets ≡ q
  packets_are = ap (λ (x : Queue). x.packets) held

  none : refused ≡ 0
  none =
      sym (none_wrong c.sent k (length c.word) (length c.progress) (ap (λ (x : Queue). x.number) held)
      (ap (misplaced c.sent) packets_are ∙ placed c.sent q at) word_is progress_is)

  pub wrote : c.answer ≡ 0
  unfolding written
  wrote = did.0.answer ∙ none

  abbrev after : List ℕ × List ℕ
  after = (c.left_word, c.left_progress)

  abbrev before : List ℕ × List ℕ
  before = (c.word, c.progress)

  abbrev from : List Packet → List ℕ × List ℕ
  from x = (ip_word c.id (address c.sent x) (word_fill c.sent x).bytes, progress_of c.sent x)

  left : after ≡ from q
  unfolding written
  left = did.0.memory ∙ choose_true (from k.packets) before (eq-eqb refused 0 none) ∙ ap from packets_are

  pub word_left : c.left_word ≡ ip_word c.id (address c.sent q) (word_fill c.sent q).bytes
  word_left = ap (λ x. x.0) left

  pub progress_left : c.left_progress ≡ progress_of c.sent q
  progress_left = ap (λ x. x.1) left

  abbrev done : ℕ
  done = length (queue (take (word_fill c.sent q).done q))

  pub done_is : done_of c ≡ done
  unfolding progress_of
  done_is =
      ap (λ (l : List ℕ). num (unpack (take 4 l))) progress_left
      ∙ ap (λ (l : List ℕ). num (unpack l)) (take_at (pack 4 (bits 32 done)) (pack 4 (bits 32 (word_fill c.sent q).sent)) 4 (pack_length 4 (bits 32 done)))
      ∙ four_back done (omega (arith, done_most c.sent q fit at))

  pub sent_is : sent_of c ≡ (word_fill c.sent q).sent
  unfolding progress_of
  sent_is =
      let s : ℕ = (word_fill c.sent q).sent in
      ap (λ (l : List ℕ). num (unpack (drop 4 l))) progress_left
      ∙ ap (λ (l : List ℕ). num (unpack l)) (drop_at (pack 4 (bits 32 done)) (pack 4 (bits 32 s)) 4 (pack_length 4 (bits 32 done)))
      ∙ four_back s (omega (arith, small s (kept c.sent q) (fit_drop (word_fill c.sent q).done q fit) (place_after c.sent q fit at)))

  -- what then waits
  pub queue_left : queue_in 0 (drop (done_of c) c.queue) ≡ holds (kept c.sent q)
  queue_left = ap (λ (n : ℕ). queue_in 0 (drop n c.queue)) done_is ∙ queue_drop (word_fill c.sent q).done c.queue q held

-- nothing to carry
pub nothing_to_carry : (c : WriteCall) → Wrote c → NothingToCarry c
unfolding queue_in progress_of fill to_come pack bits num queue
nothing_to_carry c did s e l p =
    let held : queue_in 0 c.queue ≡ holds [] = ap (queue_in 0) e in
    let at : InPlace c.sent [] = subst (λ (x : ℕ). InPlace x []) (sym s) tt in (
      wrote c did [] held tt at l p,
      word_left c did [] held tt at l p ∙ ap (λ (x : ℕ). ip_word c.id (address x []) (word_fill x []).bytes) s,
      progress_left c did [] held tt at l p ∙ ap (λ (x : ℕ). progress_of x []) s,
    )

-- what the writer asks
record Taken (sent : ℕ) (c : Queue) (word progress : ℕ) : Type 0 where
  whole : c.number ≡ 0
  placed : misplaced sent c.packets ≡ false
  word_is : word ≡ 1536
  progress_is : progress ≡ 8

taken : (sent : ℕ) (c : Queue) (word progress : ℕ) → first_of (write_faults sent c word progress) ≡ 0 → Taken sent c word progress
taken sent c word progress e =
    elim (dec_lt 0 c.number) [
      | yes h ↦ absurd (omega (arith, h, e, first_found (refuse c.number (not (eqb c.number 0))) rest (ap not (ne_eqb c.number 0 (λ n. omega (arith, h, n))))))
      | no h ↦ (
          let z : c.number ≡ 0 = omega arith in
          let a = all_clear rest tt (sym (first_clear (refuse c.number (not (eqb c.number 0))) rest (ap not (eq-eqb c.number 0 z))) ∙ e) in
          record { whole = z; placed = a.0; word_is = no_difference word 1536 a.1.0; progress_is = no_difference progress 8 a.1.1.0 })
    ]
  where
    rest : List Fault
    rest = refuse 1 (misplaced sent c.packets) ∷ refuse 1 (not (eqb word 1536)) ∷ refuse 1 (not (eqb progress 8)) ∷ []

-- what a call that answered 0 was lent
module _ (c : WriteCall) (did : Wrote c) (z : c.answer ≡ 0) where
  asked : Taken c.sent (queue_in 0 c.queue) (length c.word) (length c.progress)
  unfolding written
  asked = taken c.sent (queue_in 0 c.queue) (length c.word) (length c.progress) (sym did.0.answer ∙ z)

  abbrev waits : List Packet
  waits = (queue_in 0 c.queue).packets

  -- the word that it left
  pub word_then : c.left_word ≡ ip_word c.id (address c.sent waits) (word_fill c.sent waits).bytes
  word_then =
      word_left c did waits (whole_held c.queue asked.whole) (queue_fit 0 c.queue) (in_place c.sent waits asked.placed) asked.word_is asked.progress_is

  -- the front of a long queue
  pub front_enough : (d : WriteCall) → Wrote d → Front c d → (d.answer ≡ 0) × (d.left_word ≡ c.left_word) × (d.left_progress ≡ c.left_progress)
  unfolding progress_of
  front_enough d did' f =
      let q : List Packet = (queue_in 0 c.queue).packets in
      let x : List Packet = (queue_in 0 f.more).packets in
      let s : ℕ = c.sent in
      let held : queue_in 0 c.queue ≡ holds q = whole_held c.queue asked.whole in
      let held' : queue_in 0 d.queue ≡ holds (q ++ x) = ap (queue_in 0) f.queues ∙ queue_join c.queue f.more q x held (whole_held f.more f.whole) in
      let fit : AllFit q = queue_fit 0 c.queue in
      let fit' : AllFit (q ++ x) = fit_append q x fit (queue_fit 0 f.more) in
      let at : InPlace s q = in_place s q asked.placed in
      let at' : InPlace d.sent (q ++ x) = subst (λ (n : ℕ). InPlace n (q ++ x)) (sym f.sent) (place_append s q x at) in
      let w : word_fill s (q ++ x) ≡ word_fill s q = word_front q x s at f.enough in
      let lw : length d.word ≡ 1536 = f.word ∙ asked.word_is in
      let lp : length d.progress ≡ 8 = f.progress ∙ asked.progress_is in
      let k : take (word_fill s q).done (q ++ x) ≡ take (word_fill s q).done q = take-append-le (word_fill s q).done q x (done_few s q fit) in (
        wrote d did' (q ++ x) held' fit' at' lw lp,
        word_left d did' (q ++ x) held' fit' at' lw lp ∙ ap₂ (λ (i n : ℕ). ip_word i (address n (q ++ x)) (word_fill n (q ++ x)).bytes) f.id f.sent
            ∙ ap₂ (λ (a : ℕ) (g : Filled). ip_word c.id a g.bytes) (address_append s q x at) w ∙ sym (word_left c did q held fit at asked.word_is asked.progress_is),
        progress_left d did' (q ++ x) held' fit' at' lw lp ∙ ap (λ (n : ℕ). progress_of n (q ++ x)) f.sent
            ∙ ap (λ (g : Filled). pack 4 (bits 32 (length (queue (take g.done (q ++ x))))) ++ pack 4 (bits 32 g.sent)) w
            ∙ ap (λ (l : List Packet). pack 4 (bits 32 (length (queue l))) ++ pack 4 (bits 32 (word_fill s q).sent)) k
            ∙ sym (progress_left c did q held fit at asked.word_is asked.progress_is),
      )
