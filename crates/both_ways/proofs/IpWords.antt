-- Laws of a word of stream type 3 (table 5): what is read of it.
-- Assumes nothing.
use Prim.Native.Nat.{ℕ, ◌+◌, ◌-◌, ◌*◌, ◌^◌, ◌<◌}
use mathlib.Core.Bool.{false}
use mathlib.Core.Path.{◌≡◌, refl, sym, ap, ap₂, ◌∙◌, subst}
use mathlib.Core.List.{List}
use native.Mathlib.Omega.{arith}
use borrow.Author.Tests.{eq-eqb}
use lib.Dec.{eqb}
use lib.ListN.{length, take}
use Rattle.ground.specs.Choice.{choose, both}
use Rattle.ground.proofs.Choice.{choose_true, both_second}
use Rattle.bits.specs.Lists.{bits}
use Rattle.bits.specs.Places.{bit_at, field_at}
use Rattle.bits.proofs.Places.{number_append, field_is, field_lt}
use Rattle.infoword.specs.Suffix.{id_of, kind_of, version_of, has_parity, lead_bits, rfu_of, address_of}
use Rattle.infoword.specs.Word.{word_with, ip_word}
use Rattle.infoword.proofs.Ending.{lead_long, lead_of, rfu_of_3}
use Rattle.infoword.proofs.Sealing.{address_lead}
use Rattle.infoword.proofs.Written.{word_length, id_back, kind_back, version_back, lead_back, packet_first}
use Rattle.fields.specs.Report.{no_header_at, holding_of, header_of}
use Rattle.fields.proofs.Faults.{Readable}
use Rattle.both_ways.proofs.WaysBack.{readable_back, parity_back}

module _ (id address : ℕ) (p : List ℕ) (i : id < 256) (a : address < 4096) (n : length p ≡ 1504) where
  abbrev word : List ℕ
  word = ip_word id address p

  word_is : word ≡ word_with 3 id (bits (lead_bits 3) address) p
  word_is = ap (λ (l : List ℕ). word_with 3 id l p) (address_lead address a ∙ ap (λ (r : ℕ). bits r address) (sym (lead_long 3 refl)))

  -- a law of such a word is one of this
  law : (P : List ℕ → Type 0) → P (word_with 3 id (bits (lead_bits 3) address) p) → P word
  law P h = subst P (sym word_is) h

  pub ip_length : length word ≡ 1536
  ip_length = law (λ (w : List ℕ). length w ≡ 1536) (word_length 3 id address p (omega arith))

  pub ip_kind : kind_of word ≡ 3
  ip_kind = law (λ (w : List ℕ). kind_of w ≡ 3) (kind_back 3 id address p (omega arith) (omega arith))

  pub ip_payload : take 1504 word ≡ p
  ip_payload = ap (λ (k : ℕ). take k word) (sym n) ∙ law (λ (w : List ℕ). take (length p) w ≡ p) (packet_first 3 id address p (omega arith))

  small : address < 2 ^ lead_bits 3
  small = subst (λ (r : ℕ). address < 2 ^ r) (sym (lead_long 3 refl)) (omega arith)

  -- the 32 bits before STS_ID
  pub ip_before : field_at word 12228 32 ≡ address
  unfolding lead_of
  ip_before =
      law (λ (w : List ℕ). field_at w 12228 32 ≡ address)
      (let w : List ℕ = word_with 3 id (bits (lead_bits 3) address) p in
      let k : kind_of w ≡ 3 = kind_back 3 id address p (omega arith) (omega arith) in
      ap (λ (r : ℕ). field_at w (12260 - r) r) (sym (lead_long (kind_of w) (ap has_parity k))) ∙ lead_back 3 id address p (omega arith) (omega arith) small)

  parts : field_at word 12228 32 ≡ field_at word 12228 20 * 4096 + address_of word
  parts =
      field_is word 12228 32 (omega arith) ∙ number_append (bit_at word) 12228 20 12
      ∙ ap₂ (λ (x y : ℕ). x * 4096 + y) (sym (field_is word 12228 20 (omega arith))) (sym (field_is word 12248 12 (omega arith)))

  address_low : address_of word < 4096
  address_low = field_lt word 12248 12 (omega arith)

  pub ip_address : address_of word ≡ address
  ip_address = omega (arith, parts, ip_before, address_low, a)

  pub ip_rfu : rfu_of word ≡ 0
  ip_rfu = rfu_of_3 word ip_kind ∙ omega (arith, parts, ip_before, address_low, a)

  -- it is accepted where its address is one that may stand there
  pub ip_readable : no_header_at address ≡ false → Readable word
  ip_readable h =
      law Readable
      (readable_back 3 id address p (omega arith) i n
      (subst (λ (w : List ℕ). both (eqb (kind_of w) 3) (no_header_at (address_of w)) ≡ false) word_is
      (both_second (eqb (kind_of word) 3) (ap no_header_at ip_address ∙ h))))

  -- what is reported of it: the stream id, the address, and that all four parts hold
  pub ip_header_lem : header_of word ≡ record { rfu = 0; id = id; kind = 3; version = 0; parity = 15; address = address }
  unfolding header_of
  ip_header_lem =
      let h : holding_of word ≡ 15 = law (λ (w : List ℕ). holding_of w ≡ 15) (parity_back 3 id address p (omega arith) i n) in
      let d : id_of word ≡ id = law (λ (w : List ℕ). id_of w ≡ id) (id_back 3 id address p (omega arith) i) in
      let v : version_of word ≡ 0 = law (λ (w : List ℕ). version_of w ≡ 0) (version_back 3 id address p (omega arith)) in
      let e : choose (eqb (kind_of word) 3) (address_of word) 0 ≡ address = choose_true (address_of word) 0 (eq-eqb (kind_of word) 3 ip_kind) ∙ ip_address in
      cc (ip_rfu, d, ip_kind, v, h, e)
