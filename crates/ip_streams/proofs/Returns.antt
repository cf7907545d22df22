-- A stream of which every word comes: all packets come back, and it ends.
-- Assumes nothing.
use Prim.Native.Nat.{ℕ, zero, suc, ◌+◌, ◌-◌, ◌*◌, ◌≤◌}
use mathlib.Core.Bool.{false}
use mathlib.Core.Path.{◌≡◌, refl, sym, ap, ◌∙◌}
use mathlib.Core.List.{List, [], ◌∷◌, ◌++◌, append-nil}
use native.Mathlib.Nat.{suc-sub-suc}
use native.Mathlib.Omega.{arith}
use borrow.Author.Tests.{ltb-false}
use lib.Dec.{ltb}
use lib.ListN.{length, take, replicate}
use lib.Seq.{length-take-le}
use Rattle.ip.specs.Packet.{Packet, AllFit}
use Rattle.ip.specs.Write.{word_fill, fill}
use Rattle.ip.specs.Read.{none, room}
use Rattle.ip.specs.Stream.{open_of, kept, stream, ended, waiting, left, all}
use Rattle.ip.specs.Memory.{Queue, queue, holds, wrong, unfit, queue_in, open_bytes}
use Rattle.ip.proofs.Any.{choose_elim}
use Rattle.ip.proofs.Memory.{queue_fit}
use Rattle.ip.proofs.Step.{place_after, left_less}
use Rattle.ip.proofs.Stream.{fit_drop, ended_waiting, all_come, quiet, none_waiting}
use Rattle.ip.proofs.Walk.{whole_length}
use Rattle.ip_streams.specs.Calls.{WriteCall, Step, AllWhole, packets_of, remains}
use Rattle.ip_streams.specs.Streams.{fresh, ComesBack, Ends}
use Rattle.ip_streams.proofs.Delivery.{AllWrote, AllDid, Sent, Result, carried, received, joined_fit}

empty_held : (q : List Packet) → holds q ≡ holds [] → q ≡ []
empty_held q e = ap (λ (c : Queue). c.packets) e

pub comes_back : (js : List (List ℕ)) (cs : List WriteCall) (ss : List Step) → AllWrote cs → AllDid ss → ComesBack js cs ss
unfolding queue_in open_bytes open_of
comes_back js cs ss wrote did whole sends hears e =
    let ps : List (List Packet) = packets_of js in
    let sent : Sent ps 0 [] [] cs = carried js cs 0 [] [] refl tt tt whole sends wrote in
    let r : Result none all (stream ps 0 []) ss = received ss ps cs all false 0 [] fresh tt (joined_fit js) tt sent.0 refl hears did in
    let none_left : waiting ps 0 [] ≡ [] = empty_held (waiting ps 0 []) (sym sent.1 ∙ ap (queue_in 0) e) in
    r.1 ∙ ap queue (all_come ps 0 [] tt (joined_fit js) tt ∙ sym (append-nil (ended ps 0 [])) ∙ ap (λ (l : List Packet). ended ps 0 [] ++ l) (sym none_left) ∙ ended_waiting ps 0 [])

-- ---- how much there is to be sent

abbrev Within : ℕ → Queue → Type 0
Within m c = room c.packets ≤ m

-- the packets of a queue take no more room than it has bytes
queue_within : (k : ℕ) (l : List ℕ) → Within (length l - k) (queue_in k l)
unfolding queue_in room
queue_within k [] = omega arith
queue_within (suc k) (a ∷ l) = rw suc-sub-suc (queue_within k l)
queue_within zero (t ∷ []) = omega arith
queue_within zero (t ∷ e ∷ []) = omega arith
queue_within zero (t ∷ e ∷ h ∷ []) = omega arith
queue_within zero (t ∷ e ∷ h ∷ g ∷ l) =
    choose_elim (Within (suc (suc (suc (suc (length l)))) - 0)) (unfit t (h * 256 + g)) (wrong 19) _ (λ i. omega arith)
    (λ i. choose_elim (Within (suc (suc (suc (suc (length l)))) - 0)) (ltb (length l) (h * 256 + g)) (wrong 1) _ (λ j. omega arith) (λ j. go j (queue_within (h * 256 + g) l)))
  where
    go : ltb (length l) (h * 256 + g) ≡ false → Within (length l - (h * 256 + g)) (queue_in (h * 256 + g) l)
        → 4 + length (take (h * 256 + g) l) + room (queue_in (h * 256 + g) l).packets ≤ suc (suc (suc (suc (length l)))) - 0
    go j ih =
        let n : ℕ = h * 256 + g in
        let m : length (take n l) ≡ n = length-take-le n l (ltb-false (length l) n j) in
        omega (arith, ltb-false (length l) n j)

-- and they are sent in less
left_within : (q : List Packet) → AllFit q → left 0 q ≤ room q
unfolding left room
left_within [] fit = omega arith
left_within (p ∷ q) fit = omega (arith, whole_length p fit.0, left_within q fit.1)

no_packets : (n : ℕ) → packets_of (replicate n []) ≡ quiet n
unfolding packets_of queue_in
no_packets zero = refl
no_packets (suc n) = ap (λ (l : List (List Packet)). [] ∷ l) (no_packets n)

-- a queue that holds nothing has no bytes
abbrev Some : Queue → Type 0
Some c = c.number ≡ 0 → c.packets ≡ [] → ⊥

no_bytes : (b : List ℕ) → (queue_in 0 b).number ≡ 0 → (queue_in 0 b).packets ≡ [] → b ≡ []
unfolding queue_in
no_bytes [] e f = refl
no_bytes (t ∷ []) e f = absurd (omega (arith, e))
no_bytes (t ∷ u ∷ []) e f = absurd (omega (arith, e))
no_bytes (t ∷ u ∷ h ∷ []) e f = absurd (omega (arith, e))
no_bytes (t ∷ u ∷ h ∷ g ∷ l) e f =
    absurd (choose_elim Some (unfit t (h * 256 + g)) (wrong 19) _ (λ i x y. omega (arith, x))
    (λ i. choose_elim Some (ltb (length l) (h * 256 + g)) (wrong 1) _ (λ j x y. omega (arith, x)) (λ j x y. omega (arith, ap length y))) e f)

all_quiet : (n : ℕ) → AllWhole (replicate n [])
unfolding queue_in
all_quiet zero = tt
all_quiet (suc n) = (refl, all_quiet n)

-- a word leaves no more than there was
left_after : (q : List Packet) → AllFit q → left (word_fill 0 q).sent (kept 0 q) ≤ left 0 q
unfolding left fill
left_after [] fit = omega arith
left_after (p ∷ q) fit = omega (arith, left_less 0 p q fit tt)

pub ends : (q : List ℕ) (cs : List WriteCall) → AllWrote cs → Ends q cs
unfolding packets_of waiting queue_in
ends q cs wrote n e sends l =
    let x : List Packet = (queue_in 0 q).packets in
    let fit : AllFit x = queue_fit 0 q in
    let s : ℕ = (word_fill 0 x).sent in
    let sent : Sent (packets_of (q ∷ replicate n [])) 0 [] [] cs = carried (q ∷ replicate n []) cs 0 [] [] refl tt tt (e, all_quiet n) sends wrote in
    let few : left s (kept 0 x) ≤ n = omega (arith, left_after x fit, left_within x fit, queue_within 0 q, l) in
    let none_left : waiting (packets_of (replicate n [])) s (kept 0 x) ≡ [] =
    ap (λ (ps : List (List Packet)). waiting ps s (kept 0 x)) (no_packets n) ∙ none_waiting n s (kept 0 x) (fit_drop (word_fill 0 x).done x fit) (place_after 0 x fit tt) few in
    no_bytes (remains [] cs) (ap (λ (c : Queue). c.number) sent.1) (ap (λ (c : Queue). c.packets) sent.1 ∙ none_left)
