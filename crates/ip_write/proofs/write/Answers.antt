-- `ip_write::write` meets its contract. Assumes nothing.
use Prim.Native.Nat.{ℕ, ◌≤◌, ◌<◌}
use mathlib.Core.Path.{◌≡◌, sym, ap, ap₂, ◌∙◌, subst}
use mathlib.Core.List.{List, ◌++◌}
use mathlib.Core.Logic.{inl, inr}
use native.Mathlib.Omega.{arith}
use lib.ListN.{length, take}
use lib.Seq.{length-take-le, take_at}
use Rattle.std.proofs.lemmas.Result.{err_from_is_err_and}
use Rattle.ground.proofs.Refusals.{number_not_0}
use Rattle.ground.proofs.Refusing.{refusal_leaves, acceptance_leaves}
use Rattle.bits.specs.Lists.{bits, pack}
use Rattle.infoword.specs.Word.{ip_word}
use Rattle.ip.specs.Packet.{Packet}
use Rattle.ip.specs.Write.{address, word_fill}
use Rattle.ip.specs.Memory.{queue, queue_in}
use Rattle.ip.proofs.Fill.{fill_length}
use Rattle.ip_queue.specs.Looking.{Front}
use Rattle.ip_queue.proofs.Seen.{address_is, address_small}
use Rattle.ip_write.specs.Writing.{progress_of, written}
use Rattle.ip_write.proofs.Refusals.{front_wrong, ready, length_wrong, none_wrong}
use Rattle.ip_write.proofs.write.Goals as goal

pub returns-in_err-address : goal.returns-in_err-address
unfolding written
returns-in_err-address c =
    let a = c.args in
    let p = err_from_is_err_and c.from_residual.result c.from_residual.ensures.1 in
    rw (p.1, p.2)
    (refusal_leaves _ _ _ (front_wrong a.sent a.queue.now (length a.word.now) (length a.progress.now) _ c.in_err-address.ensures) (number_not_0 _), omega (arith, c.ranges.id))

pub returns-in_default : goal.returns-in_default
unfolding written
returns-in_default c =
    let a = c.args in
    let wrong = length_wrong a.sent a.queue.now (length a.word.now) (length a.progress.now) _ c.in_ok-address.ensures (inl c.in_default.ensures.cases) in
    (refusal_leaves _ _ _ wrong (λ z. omega arith), omega (arith, c.ranges.id))

pub returns-in_default-as_mut_array : goal.returns-in_default-as_mut_array
unfolding written
returns-in_default-as_mut_array c =
    let a = c.args in
    let whole = c.in-Some.ensures.cases in
    let wrong = length_wrong a.sent a.queue.now (length a.word.now) (length a.progress.now) _ c.in_ok-address.ensures (inr (whole.long, c.in_default-as_mut_array.ensures.cases)) in
    rw (whole.same) (refusal_leaves _ _ _ wrong (λ z. omega arith), omega (arith, c.ranges.id))

pub fill-done-requires : goal.fill-done-requires
fill-done-requires c =
    let a = c.args in
    let whole = c.in-Some.ensures.cases in
    let long : 1504 ≤ length c.in-Some.word.now = omega (arith, whole.long, ap length whole.same) in
    (ready a.sent a.queue.now (length a.word.now) (length a.progress.now) _ c.in_ok-address.ensures, length-take-le 1504 c.in-Some.word.now long)

pub close-requires : goal.close-requires
close-requires c = let a = c.args in subst (λ (v : Front). v.address < 4096) (sym c.in_ok-address.ensures) (address_small a.sent a.queue.now)

pub returns : goal.returns
unfolding written progress_of
returns c =
    let a = c.args in
    let q : List Packet = (queue_in 0 a.queue.now).packets in
    let p : List ℕ = c.fill-done.new.payload in
    let payload_length : length p ≡ 1504 = ap length c.fill-done.ensures.bytes ∙ fill_length q 1504 a.sent in
    let k = ready a.sent a.queue.now (length a.word.now) (length a.progress.now) _ c.in_ok-address.ensures in
    let h : c.in_ok-address.address ≡ address a.sent q =
    ap (λ (v : Front). v.address) c.in_ok-address.ensures ∙ address_is a.sent a.queue.now (ap (λ (v : Front). v.refusal) (sym c.in_ok-address.ensures)) in
    let x : c.close.new.word ≡ ip_word a.id (address a.sent q) (word_fill a.sent q).bytes =
    c.close.ensures ∙ ap₂ (ip_word a.id) h (take_at p _ 1504 payload_length ∙ c.fill-done.ensures.bytes) in
    let y : c.put_progress.new.progress ≡ pack 4 (bits 32 (length (queue (take (word_fill a.sent q).done q)))) ++ pack 4 (bits 32 (word_fill a.sent q).sent) =
    c.put_progress.ensures ∙ ap₂ (λ (d t : ℕ). pack 4 (bits 32 d) ++ pack 4 (bits 32 t)) c.fill-done.ensures.done c.fill-done.ensures.rest in
    let z = none_wrong a.sent (queue_in 0 a.queue.now) (length a.word.now) (length a.progress.now) k.0 k.1 c.in-Some.ensures.cases.long c.in-Some-as_mut_array.ensures.cases.long in
    (acceptance_leaves _ _ _ (sym z) (ap₂ (λ (g t : List ℕ). (g, t)) x y), omega (arith, c.ranges.id))
