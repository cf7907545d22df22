-- A stream of calls: the writer's words are those of the sender, and what the reader hands out of them is what the receiver gets.
-- Assumes nothing.
use Prim.Native.Nat.{ℕ, suc, ◌≤◌, ◌<◌}
use mathlib.Core.Bool.{Bool, true, false}
use mathlib.Core.Path.{◌≡◌, refl, sym, ap, ap₂, ◌∙◌, subst}
use mathlib.Core.List.{List, [], ◌∷◌, ◌++◌, append_assoc}
use native.Mathlib.Omega.{arith}
use native.Mathlib.Decide.{ℕ_discrete, dec_le}
use borrow.Author.Tests.{le-leb, lt-leb, le-ltb}
use lib.ListN.{length, take, drop}
use Rattle.ground.specs.Choice.{choose}
use Rattle.ground.proofs.Choice.{choose_true, choose_false, both_first}
use Rattle.infoword.specs.Suffix.{kind_of, address_of}
use Rattle.infoword.specs.Word.{ip_word}
use Rattle.fields.specs.Report.{no_header_at}
use Rattle.fields.proofs.Faults.{Readable}
use Rattle.both_ways.proofs.IpWords.{ip_kind, ip_address, ip_payload, ip_readable}
use Rattle.ip.specs.Packet.{Packet, AllFit}
use Rattle.ip.specs.Write.{announced, address, word_fill, InPlace, to_come}
use Rattle.ip.specs.Read.{Open, none, Sound, gives, reading}
use Rattle.ip.specs.Stream.{Word, word_of, kept, stream, waiting, joined, Heard, heard, lost, receive, arrives, select}
use Rattle.ip.specs.Memory.{queued, queue, holds, queue_in, open_bytes, open_in}
use Rattle.ip.proofs.Any.{open_sound}
use Rattle.ip.proofs.Fill.{fill_length}
use Rattle.ip.proofs.Late.{state, followed, word_late}
use Rattle.ip.proofs.Losses.{handed_out}
use Rattle.ip.proofs.Memory.{queue_fit, open_back, open_length}
use Rattle.ip.proofs.Step.{place_after}
use Rattle.ip.proofs.Stream.{fit_append, fit_left, fit_right, fit_drop, place_append, open_append, receive_heard}
use Rattle.ip_look.specs.Looking.{got_of}
use Rattle.ip_queue.proofs.Places.{queue_join}
use Rattle.ip_streams.specs.Calls.{WriteCall, ReadCall, Step, reads, loses, passes, done_of, sent_of, handed_by, Lent, Sends, remains, words_of, AllWhole, packets_of, AllWritten, Hears, AllRead, handed}
use Rattle.ip_streams.specs.Streams.{fresh, Delivers}
use Rattle.ip_streams.proofs.OneWrite.{Wrote, whole_held, wrote, word_left, sent_is, queue_left}
use Rattle.ip_streams.proofs.OneRead.{Did, Dropped, refused_leaves, others_pass, accepted, dropped}

abbrev pub AllWrote : List WriteCall → Type 0
AllWrote [] = Unit
AllWrote (c ∷ cs) = Wrote c × AllWrote cs

abbrev pub AllDid : List Step → Type 0
AllDid [] = Unit
AllDid (reads a ∷ ss) = Did a × AllDid ss
AllDid (loses b ∷ ss) = Dropped b × AllDid ss
AllDid (passes a ∷ ss) = Did a × AllDid ss

-- an address that is announced may stand in a word
pub announced_fits : (r : ℕ) → (announced r < 4096) × (no_header_at (announced r) ≡ false)
announced_fits r =
    elim (dec_le r 1502) [
      | yes h ↦ (
          let e : announced r ≡ r = choose_true r 4095 (le-leb r 1502 h) in
          (omega arith, ap no_header_at e ∙ both_first _ (le-ltb 1502 r h)))
      | no h ↦ (
          let e : announced r ≡ 4095 = choose_false r 4095 (lt-leb r 1502 (omega arith)) in
          (omega arith, ap no_header_at e))
    ]

-- ---- the packets that join

pub joined_fit : (js : List (List ℕ)) → AllFit (joined (packets_of js))
unfolding joined packets_of
joined_fit [] = tt
joined_fit (j ∷ js) = fit_append (queue_in 0 j).packets (joined (packets_of js)) (queue_fit 0 j) (joined_fit js)

-- ---- the head-end

-- each call wrote the word of the sender
abbrev pub Carried : List Word → List WriteCall → Type 0
Carried [] [] = Unit
Carried [] (c ∷ cs) = ⊥
Carried (w ∷ ws) [] = ⊥
Carried (w ∷ ws) (c ∷ cs) = (c.answer ≡ 0) × (c.id < 256) × (c.left_word ≡ ip_word c.id w.address w.payload) × Carried ws cs

-- what the calls wrote, and what then waits
abbrev pub Sent : List (List Packet) → ℕ → List Packet → List ℕ → List WriteCall → Type 0
Sent ps s q b cs = Carried (stream ps s q) cs × (queue_in 0 (remains b cs) ≡ holds (waiting ps s q))

pub carried : (js : List (List ℕ)) (cs : List WriteCall) (s : ℕ) (b : List ℕ) (q : List Packet) → queue_in 0 b ≡ holds q → AllFit q → InPlace s q
    → AllWhole js → Sends s b js cs → AllWrote cs → Sent (packets_of js) s q b cs
unfolding stream packets_of waiting remains
carried [] [] s b q held fit at whole sends did = (tt, held)
carried [] (c ∷ cs) s b q held fit at whole sends did = absurd sends
carried (j ∷ js) [] s b q held fit at whole sends did = absurd sends
carried (j ∷ js) (c ∷ cs) s b q held fit at whole sends did =
    let x : List Packet = (queue_in 0 j).packets in
    let Q : List Packet = q ++ x in
    let held-q : queue_in 0 c.queue ≡ holds Q = ap (queue_in 0) sends.1 ∙ queue_join b j q x held (whole_held j whole.0) in
    let fit-q : AllFit Q = fit_append q x fit (queue_fit 0 j) in
    let at-q : InPlace c.sent Q = subst (λ (n : ℕ). InPlace n Q) (sym sends.0) (place_append s q x at) in
    let one : c.sent ≡ s = sends.0 in
    let next : sent_of c ≡ (word_fill c.sent Q).sent = sent_is c did.0 Q held-q fit-q at-q sends.2 sends.3 in
    let b' : List ℕ = drop (done_of c) c.queue in
    let rest : Sent (packets_of js) (sent_of c) (kept c.sent Q) b' cs =
    carried js cs (sent_of c) b' (kept c.sent Q) (queue_left c did.0 Q held-q fit-q at-q sends.2 sends.3)
    (fit_drop (word_fill c.sent Q).done Q fit-q) (subst (λ (n : ℕ). InPlace n (kept c.sent Q)) (sym next) (place_after c.sent Q fit-q at-q))
    whole.1 sends.4 did.1 in
    let more : Sent (packets_of js) (word_fill s Q).sent (kept s Q) b' cs =
    subst (λ (n : ℕ). Sent (packets_of js) (word_fill n Q).sent (kept n Q) b' cs) one (subst (λ (n : ℕ). Sent (packets_of js) n (kept c.sent Q) b' cs) next rest) in (
      (
        wrote c did.0 Q held-q fit-q at-q sends.2 sends.3,
        did.0.1,
        word_left c did.0 Q held-q fit-q at-q sends.2 sends.3 ∙ ap (λ (n : ℕ). ip_word c.id (address n Q) (word_fill n Q).bytes) one,
        more.0,
      ),
      more.1,
    )

all_written : (ws : List Word) (cs : List WriteCall) → Carried ws cs → AllWritten cs
all_written [] [] h = tt
all_written [] (c ∷ cs) h = absurd h
all_written (w ∷ ws) [] h = absurd h
all_written (w ∷ ws) (c ∷ cs) h = (h.0, all_written ws cs h.3)

-- ---- the receiver

queue_append : (l m : List Packet) → queue (l ++ m) ≡ queue l ++ queue m
unfolding queue
queue_append [] m = refl
queue_append (p ∷ l) m = ap (λ (x : List ℕ). queued p ++ x) (queue_append l m) ∙ sym (append_assoc (queued p) (queue l) (queue m))

state_sound : (w : Bool) (s : ℕ) (q : List Packet) → AllFit q → InPlace s q → Sound (state w s q)
state_sound true s q fit at = open_sound s q fit at
state_sound false s q fit at = tt

state_append : (w : Bool) (s : ℕ) (q x : List Packet) → InPlace s q → state w s q ≡ state w s (q ++ x)
state_append w s q x at = ap (λ (o : Open). choose w o none) (sym (open_append s q x at))

-- a word that is none of the stream changes nothing
passed : (a : ReadCall) → Did a → (m : List ℕ) → Lent m a → (a.answer ≡ 0 → kind_of a.word ≤ 2) → a.left_held ≡ m
passed a did m l h =
    elim (ℕ_discrete a.answer 0) [
      | yes z ↦ (others_pass a did (h z)).0 ∙ l.held
      | no n ↦ (refused_leaves a did n).held ∙ l.held
    ]

-- one word of the stream
module _ (w : Bool) (s : ℕ) (q x : List Packet) (fit : AllFit (q ++ x)) (at : InPlace s q) where
  abbrev Q : List Packet
  Q = q ++ x

  abbrev here : Open
  here = state w s q

  abbrev there : Open
  there = state (followed w s (word_fill s Q).done) (word_fill s Q).sent (kept s Q)

  abbrev given : List Packet
  given = select (followed w s) (take (word_fill s Q).done Q)

  in_q : InPlace s Q
  in_q = place_append s q x at

  one_read : reading here (address s Q) (word_fill s Q).bytes ≡ gives given there
  one_read = ap (λ (o : Open). reading o (address s Q) (word_fill s Q).bytes) (state_append w s q x at) ∙ word_late w s Q fit in_q

  -- read out of the memory that holds what is open
  one_heard : (a : ReadCall) → Did a → (id : ℕ) → id < 256 → a.word ≡ ip_word id (address s Q) (word_fill s Q).bytes → Sound here → Lent (open_bytes here) a
      → (a.answer ≡ 0) × (a.left_held ≡ open_bytes there) × (handed_by a ≡ queue given)
  unfolding got_of
  one_heard a did id i e sound l =
      let A : ℕ = address s Q in
      let P : List ℕ = (word_fill s Q).bytes in
      let f = announced_fits (to_come s Q) in
      let n : length P ≡ 1504 = fill_length Q 1504 s in
      let got : reading (open_in (open_bytes here)) (address_of (ip_word id A P)) (take 1504 (ip_word id A P)) ≡ gives given there =
      ap (λ (o : Open). reading o (address_of (ip_word id A P)) (take 1504 (ip_word id A P))) (open_back here sound)
      ∙ ap₂ (reading here) (ip_address id A P i f.0 n) (ip_payload id A P i f.0 n) ∙ one_read in
      accepted a did (open_bytes here) l (open_length here sound) (subst Readable (sym e) (ip_readable id A P i f.0 n f.1)) (ap kind_of e ∙ ip_kind id A P i f.0 n)
      there given (ap (λ (v : List ℕ). reading (open_in (open_bytes here)) (address_of v) (take 1504 v)) e ∙ got)

-- what is handed out, and that nothing is refused
abbrev pub Result : Open → (ℕ → Bool) → List Word → List Step → Type 0
Result o c ws ss = AllRead ss × (handed ss ≡ queue (receive o (arrives c ws)))

-- the sender's state (s, q), and whether the receiver followed what is open (w); m is the memory
pub received : (ss : List Step) (ps : List (List Packet)) (cs : List WriteCall) (c : ℕ → Bool) (w : Bool) (s : ℕ) (q : List Packet) (m : List ℕ)
    → AllFit q → AllFit (joined ps) → InPlace s q → Carried (stream ps s q) cs → m ≡ open_bytes (state w s q) → Hears c (words_of cs) m ss → AllDid ss
    → Result (state w s q) c (stream ps s q) ss
unfolding stream words_of handed receive arrives joined queue
received [] [] [] c w s q m fit fits at carry e hears did = (tt, refl)
received [] [] (d ∷ cs) c w s q m fit fits at carry e hears did = absurd carry
received [] (x ∷ ps) [] c w s q m fit fits at carry e hears did = absurd carry
received [] (x ∷ ps) (d ∷ cs) c w s q m fit fits at carry e hears did = absurd hears
received (passes a ∷ ss) [] [] c w s q m fit fits at carry e hears did =
    received ss [] [] c w s q a.left_held fit fits at carry (passed a did.0 m hears.0 hears.1 ∙ e) hears.2 did.1
received (passes a ∷ ss) [] (d ∷ cs) c w s q m fit fits at carry e hears did = absurd carry
received (passes a ∷ ss) (x ∷ ps) [] c w s q m fit fits at carry e hears did = absurd carry
received (passes a ∷ ss) (x ∷ ps) (d ∷ cs) c w s q m fit fits at carry e hears did =
    received ss (x ∷ ps) (d ∷ cs) c w s q a.left_held fit fits at carry (passed a did.0 m hears.0 hears.1 ∙ e) hears.2 did.1
received (reads a ∷ ss) [] [] c w s q m fit fits at carry e hears did = absurd hears
received (reads a ∷ ss) [] (d ∷ cs) c w s q m fit fits at carry e hears did = absurd carry
received (reads a ∷ ss) (x ∷ ps) [] c w s q m fit fits at carry e hears did = absurd carry
received (reads a ∷ ss) (x ∷ ps) (d ∷ cs) c w s q m fit fits at carry e hears did =
    let Q : List Packet = q ++ x in
    let ok : AllFit Q = fit_append q x fit (fit_left x (joined ps) fits) in
    let v : Bool = followed w s (word_fill s Q).done in
    let l : Lent (open_bytes (state w s q)) a = subst (λ (y : List ℕ). Lent y a) e hears.2 in
    let h = one_heard w s q x ok at a did.0 d.id carry.1 (hears.1 ∙ carry.2) (state_sound w s q fit at) l in
    let r = received ss ps cs (λ i. c (suc i)) v (word_fill s Q).sent (kept s Q) a.left_held (fit_drop (word_fill s Q).done Q ok) (fit_right x (joined ps) fits)
    (place_after s Q ok (place_append s q x at)) carry.3 h.1 hears.3 did.1 in
    let ws : List Heard = arrives (λ i. c (suc i)) (stream ps (word_fill s Q).sent (kept s Q)) in
    let given : List Packet = select (followed w s) (take (word_fill s Q).done Q) in (
      (h.0, r.0),
      ap₂ (λ (y z : List ℕ). y ++ z) h.2 r.1 ∙ sym (queue_append given (receive (state v (word_fill s Q).sent (kept s Q)) ws))
          ∙ ap queue (sym (receive_heard (state w s q) (word_of s Q) ws (one_read w s q x ok at)))
          ∙ ap (λ (b : Bool). queue (receive (state w s q) (choose b (heard (word_of s Q)) lost ∷ ws))) (sym hears.0),
    )
received (loses b ∷ ss) [] [] c w s q m fit fits at carry e hears did = absurd hears
received (loses b ∷ ss) [] (d ∷ cs) c w s q m fit fits at carry e hears did = absurd carry
received (loses b ∷ ss) (x ∷ ps) [] c w s q m fit fits at carry e hears did = absurd carry
received (loses b ∷ ss) (x ∷ ps) (d ∷ cs) c w s q m fit fits at carry e hears did =
    let Q : List Packet = q ++ x in
    let ok : AllFit Q = fit_append q x fit (fit_left x (joined ps) fits) in
    let n : length b.held ≡ 4104 = ap length (hears.1 ∙ e) ∙ open_length (state w s q) (state_sound w s q fit at) in
    let r = received ss ps cs (λ i. c (suc i)) false (word_fill s Q).sent (kept s Q) b.left_held (fit_drop (word_fill s Q).done Q ok) (fit_right x (joined ps) fits)
    (place_after s Q ok (place_append s q x at)) carry.3 (dropped b did.0 n) hears.2 did.1 in
    let ws : List Heard = arrives (λ i. c (suc i)) (stream ps (word_fill s Q).sent (kept s Q)) in
    (r.0, r.1 ∙ ap (λ (t : Bool). queue (receive (state w s q) (choose t (heard (word_of s Q)) lost ∷ ws))) (sym hears.0))

-- the stream from its beginning
pub delivers : (js : List (List ℕ)) (cs : List WriteCall) (ss : List Step) → AllWrote cs → AllDid ss → Delivers js cs ss
unfolding queue_in open_bytes
delivers js cs ss wrote did c whole sends hears =
    let ps : List (List Packet) = packets_of js in
    let carry : Carried (stream ps 0 []) cs = (carried js cs 0 [] [] refl tt tt whole sends wrote).0 in
    let r : Result none c (stream ps 0 []) ss = received ss ps cs c false 0 [] fresh tt (joined_fit js) tt carry refl hears did in
    record {
      written = all_written (stream ps 0 []) cs carry;
      read = r.0;
      packets = r.1 ∙ ap queue (handed_out ps (joined_fit js) c);
    }
