-- What is read of a word that a call of the writer left, and of one that differs from it in a bit of its header.
-- Assumes nothing.
use Prim.Native.Nat.{ℕ}
use mathlib.Core.Path.{◌≡◌, sym, ap, ◌∙◌, subst}
use mathlib.Core.List.{List}
use native.Mathlib.Omega.{arith}
use lib.ListN.{length}
use Rattle.fields.specs.Report.{read_refusal, header_of}
use Rattle.fields.proofs.Faults.{Readable}
use Rattle.both_ways.specs.Damage.{OneBit}
use Rattle.both_ways.proofs.IpWords.{ip_readable, ip_header_lem}
use Rattle.both_ways.proofs.IpDamage.{ip_damaged}
use Rattle.ip.specs.Packet.{Packet}
use Rattle.ip.specs.Write.{address, word_fill, to_come}
use Rattle.ip.specs.Memory.{queue_in}
use Rattle.ip.proofs.Fill.{fill_length}
use Rattle.ip_look.proofs.Faults.{word_wrong}
use Rattle.ip_streams.specs.Calls.{WriteCall, ReadCall}
use Rattle.ip_streams.specs.Streams.{ip_header, DamageRefused}
use Rattle.ip_streams.proofs.OneWrite.{Wrote, word_then}
use Rattle.ip_streams.proofs.OneRead.{Did, answer_is, refused_leaves}
use Rattle.ip_streams.proofs.Delivery.{announced_fits}

module _ (c : WriteCall) (did : Wrote c) (z : c.answer ≡ 0) where
  abbrev q : List Packet
  q = (queue_in 0 c.queue).packets

  abbrev A : ℕ
  A = address c.sent q

  abbrev P : List ℕ
  P = (word_fill c.sent q).bytes

  long : length P ≡ 1504
  long = fill_length q 1504 c.sent

  -- it is accepted, and its fields are reported
  pub written_readable : Readable c.left_word
  written_readable =
      let f = announced_fits (to_come c.sent q) in
      subst Readable (sym (word_then c did z)) (ip_readable c.id A P did.1 f.0 long f.1)

  pub written_header_lem : header_of c.left_word ≡ ip_header c
  written_header_lem = ap header_of (word_then c did z) ∙ ip_header_lem c.id A P did.1 (announced_fits (to_come c.sent q)).0 long

  -- another bit of its header
  pub written_damaged : (v : List ℕ) (i : ℕ) → OneBit c.left_word v i → 5 ≡ read_refusal v
  written_damaged v i d =
      let f = announced_fits (to_come c.sent q) in
      ip_damaged c.id A P did.1 f.0 long f.1 v i (subst (λ (w : List ℕ). OneBit w v i) (word_then c did z) d)

pub damage_refused : (c : WriteCall) (a : ReadCall) → Wrote c → Did a → DamageRefused c a
damage_refused c a wrote did i d z m r h =
    let five : a.answer ≡ 5 =
    answer_is a did ∙ sym (word_wrong a.word a.held (length a.packets) (length a.header) m r h 5 (written_damaged c wrote z a.word i d) (λ z. omega arith)) in
    (five, refused_leaves a did (λ e. omega (arith, five, e)))
