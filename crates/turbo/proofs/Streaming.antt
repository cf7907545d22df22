-- Laws of the stream: what the tables tell of six bit periods is what the standard sends of them, and one run of six more.
-- Assumes nothing.
use Prim.Native.Nat.{ℕ, zero, suc, ◌+◌, ◌-◌, ◌*◌, ◌/◌, ◌%◌, ◌^◌, ◌≤◌, ◌<◌}
use mathlib.Core.Path.{◌≡◌, refl, sym, ap, ap₂, ◌∙◌, subst}
use mathlib.Core.List.{List}
use native.Mathlib.Nat.{add-zero, mul-one, not-suc-le-zero}
use native.Mathlib.Decide.{ℕ_discrete}
use native.Mathlib.Omega.{arith}
use lib.Bits.{bit_xor}
use lib.ListN.{length, get_or}
use lib.Pow.{high, low}
use borrow.Author.Tests.{lt-ltb, eq-eqb, ne_eqb}
use Rattle.ground.specs.Outcome.{Outcome, Is}
use Rattle.ground.proofs.Choice.{choose_true, choose_false}
use Rattle.bits.specs.Places.{bit_at, number}
use Rattle.bits.proofs.Places.{bit_lt, number_lt, number_cong}
use Rattle.wide.specs.Held.{place_of}
use Rattle.wide.proofs.Widens.{wide_put}
use Rattle.patterns.specs.Rows.{digit, copies}
use Rattle.puncturing.specs.Entries.{entries}
use Rattle.patterns.specs.Sent.{places, spread, total}
use Rattle.patterns.proofs.Totals.{total_cong, total_add, total_mono, total_zero}
use Rattle.patterns.proofs.Blocks.{coded_bounds}
use Rattle.patterns.proofs.Groups.{data_once}
use Rattle.puncturing.proofs.Lanes.{data_digit}
use Rattle.constituent.specs.Constituent.{next, state}
use Rattle.constituent.specs.Symbols.{data_symbols}
use Rattle.turbo.specs.Lane.{second, group, lane_bit}
use Rattle.turbo.specs.Encode.{code_bits}
use Rattle.constituent.proofs.Linear.{Bits}
use Rattle.constituent.specs.Six.{state_of, bit_of, after, registers, joint}
use Rattle.constituent.specs.Segment.{digit_at, segment}
use Rattle.tables.specs.Plan.{half_at, coded, plan_of}
use Rattle.tables.specs.declared.Plan.{Plan}
use Rattle.turbo.specs.Stream.{code_bit, told, half_bits, chunked, thrice, both, Prepared, Sent}
use Rattle.constituent.specs.declared.State.{State}
use Rattle.turbo.specs.declared.stream.Coder.{Coder}
use Rattle.constituent.proofs.Segments.{segment_cong, segment_append, segment_number, spread_number}
use Rattle.constituent.proofs.Joint.{six_data, six_then, bit_mod, joins_apart}
use Rattle.tables.proofs.Weighing.{half_data, half_then, half_six, half_most}
use Rattle.tables.proofs.Looking.{coded_sum, plan_at}
use Rattle.turbo.proofs.Reading.{second_lt, six_bit, sixes, last_six}
use Rattle.turbo.proofs.CodeBits.{code_lt}

-- ---- bits
pub code_bit_lem : (p n : ℕ) (w : List ℕ) (k : ℕ) → code_bit p n w k < 2
unfolding code_bit
code_bit_lem p n w k = code_lt p n w k

pub state_bits : (f : ℕ → ℕ) (i : ℕ) → Bits (state f i)
unfolding state next
state_bits f zero = record { one = omega arith; two = omega arith; three = omega arith }
state_bits f (suc i) = let r = state_bits f i in record { one = omega arith; two = r.one; three = r.two }

pub both_lt : (s t : State) → Bits s → Bits t → both s t < 64
both_lt s t h k = omega (arith, h.one, h.two, h.three, k.one, k.two, k.three)

-- the register after b of six bits that are those of f
run : (f : ℕ → ℕ) (i x : ℕ) → ((b : ℕ) → b < 6 → bit_of x b ≡ f (i + b)) → (b : ℕ) → b ≤ 6 → after (state f i) x b ≡ state f (i + b)
unfolding after state
run f i x h zero l = ap (state f) (sym (add-zero i))
run f i x h (suc b) l =
    let e : suc (i + b) ≡ i + suc b = omega arith in
    ap₂ next (h b (omega arith)) (run f i x h b (omega arith)) ∙ ap (state f) e

-- ---- the parts of a number that holds six bits, six bits and two registers
same_state : (a b c a' b' c' : ℕ) → a ≡ a' → b ≡ b' → c ≡ c' → ◌≡◌ {A = State} (record { a1 = a; a2 = b; a3 = c }) (record { a1 = a'; a2 = b'; a3 = c' })
same_state a b c a' b' c' p q r = cc

pub three_bits : (m : ℕ) (r : State) → Bits r → state_of (m * 8 + (r.a1 * 4 + r.a2 * 2 + r.a3)) ≡ r
three_bits m r h =
    same_state _ _ _ r.a1 r.a2 r.a3 (omega (arith, h.one, h.two, h.three)) (omega (arith, h.one, h.two, h.three)) (omega (arith, h.one, h.two, h.three))

module _ (u v : ℕ) (s t : State) (hv : v < 64) (hs : Bits s) (ht : Bits t) where
  part_first : (u * 4096 + v * 64 + both s t) / 4096 ≡ u
  part_first = omega (arith, both_lt s t hs ht)

  second_bits : (b : ℕ) → b < 6 → bit_of ((u * 4096 + v * 64 + both s t) / 64) b ≡ bit_of v b
  second_bits b h =
      let e : (u * 4096 + v * 64 + both s t) / 64 ≡ u * 64 + v = omega (arith, both_lt s t hs ht) in
      ap (λ (x : ℕ). bit_of x b) e ∙ bit_mod (u * 64 + v) (5 - b) 6 (omega arith) ∙ ap (λ (x : ℕ). x / 2 ^ (5 - b) % 2) (low u 6 hv)

  part_one : state_of ((u * 4096 + v * 64 + both s t) / 8) ≡ s
  part_one =
      let T : ℕ = t.a1 * 4 + t.a2 * 2 + t.a3 in
      let l : T < 8 = omega (arith, ht.one, ht.two, ht.three) in
      let e : (u * 4096 + v * 64 + both s t) / 8 ≡ (u * 64 + v) * 8 + (s.a1 * 4 + s.a2 * 2 + s.a3) = omega (arith, l) in
      ap state_of e ∙ three_bits (u * 64 + v) s hs

  part_two : state_of (u * 4096 + v * 64 + both s t) ≡ t
  part_two =
      let e : u * 4096 + v * 64 + both s t ≡ (u * 512 + v * 8 + (s.a1 * 4 + s.a2 * 2 + s.a3)) * 8 + (t.a1 * 4 + t.a2 * 2 + t.a3) = omega arith in
      ap state_of e ∙ three_bits (u * 512 + v * 8 + (s.a1 * 4 + s.a2 * 2 + s.a3)) t ht

-- ---- six bit periods of two sequences of bits
module _ (f g : ℕ → ℕ) (hf : (k : ℕ) → f k < 2) (hg : (k : ℕ) → g k < 2) (i u v : ℕ) (eu : u ≡ number f i 6) (ev : v ≡ number g i 6) where
  abbrev held : ℕ
  held = u * 4096 + v * 64 + both (state f i) (state g i)

  v_lt : v < 64
  v_lt = subst (λ (x : ℕ). x < 64) (sym ev) (number_lt g hg i 6)

  first_bits : (b : ℕ) → b < 6 → bit_of (held / 4096) b ≡ f (i + b)
  first_bits b h =
      ap (λ (x : ℕ). bit_of x b) (part_first u v (state f i) (state g i) v_lt (state_bits f i) (state_bits g i) ∙ eu) ∙ six_bit f hf i b h

  last_bits_lem : (b : ℕ) → b < 6 → bit_of (held / 64) b ≡ g (i + b)
  last_bits_lem b h = second_bits u v (state f i) (state g i) v_lt (state_bits f i) (state_bits g i) b h ∙ ap (λ (x : ℕ). bit_of x b) ev ∙ six_bit g hg i b h

  one_after : (b : ℕ) → b ≤ 6 → after (state_of (held / 8)) (held / 4096) b ≡ state f (i + b)
  one_after b h =
      ap (λ (s : State). after s (held / 4096) b) (part_one u v (state f i) (state g i) v_lt (state_bits f i) (state_bits g i)) ∙ run f i (held / 4096) first_bits b h

  two_after : (b : ℕ) → b ≤ 6 → after (state_of held) (held / 64) b ≡ state g (i + b)
  two_after b h =
      ap (λ (s : State). after s (held / 64) b) (part_two u v (state f i) (state g i) v_lt (state_bits f i) (state_bits g i)) ∙ run g i (held / 64) last_bits_lem b h

  pub joint_data : (k : ℕ) → k < 30
      → joint held k ≡ get_or (data_symbols (f (i + k / 5)) (state f (i + k / 5)) (g (i + k / 5)) (state g (i + k / 5))) (k % 5) 0
  unfolding joint
  joint_data k h =
      let b : ℕ = k / 5 in
      let l : b < 6 = omega arith in
      six_data (state_of (held / 8)) (held / 4096) (state_of held) (held / 64) k h
      ∙ ap₂ (λ (x : ℕ) (s : State). get_or (data_symbols x s (bit_of (held / 64) b) (after (state_of held) (held / 64) b)) (k % 5) 0) (first_bits b l) (one_after b (omega arith))
      ∙ ap₂ (λ (x : ℕ) (s : State). get_or (data_symbols (f (i + b)) (state f (i + b)) x s) (k % 5) 0) (last_bits_lem b l) (two_after b (omega arith))

  joint_then : (k : ℕ) → k < 6 → joint held (30 + k) ≡ get_or (registers (state f (i + 6)) (state g (i + 6))) k 0
  unfolding joint
  joint_then k h =
      let e : 30 + k - 30 ≡ k = omega arith in
      six_then (state_of (held / 8)) (held / 4096) (state_of held) (held / 64) (30 + k) (omega arith)
      ∙ ap₂ (λ (s t : State). get_or (registers s t) (30 + k - 30) 0) (one_after 6 (omega arith)) (two_after 6 (omega arith))
      ∙ ap (λ (j : ℕ). get_or (registers (state f (i + 6)) (state g (i + 6))) j 0) e

  registers_number : (s t : State) → number (λ k. get_or (registers s t) k 0) 0 6 ≡ both s t
  unfolding number
  registers_number s t = omega arith

  -- what is sent, and the registers then
  pub coded_parts : (rows : List ℕ) (h : ℕ) → (coded rows h held / 64 ≡ segment (half_at rows h) (joint held) 30) × (coded rows h held % 64 ≡ both (state f (i + 6)) (state g (i + 6)))
  unfolding coded
  coded_parts rows h =
      let d : ℕ → ℕ = half_at rows h in
      let B : ℕ = both (state f (i + 6)) (state g (i + 6)) in
      let six : total (λ k. d (30 + k)) 6 ≡ 6 = omega (arith, half_six rows h, total_add d 30 6) in
      let n : segment (λ k. d (30 + k)) (λ k. joint held (30 + k)) 6 ≡ B =
      segment_number (λ k. d (30 + k)) (λ k. joint held (30 + k)) 6 (λ k l. half_then rows h (30 + k) (omega arith))
      ∙ number_cong (λ k. joint held (30 + k)) (λ k. get_or (registers (state f (i + 6)) (state g (i + 6))) k 0) 0 6 (λ k l. joint_then (0 + k) (omega arith))
      ∙ registers_number (state f (i + 6)) (state g (i + 6)) in
      let e : segment d (joint held) 36 ≡ segment d (joint held) 30 * 2 ^ 6 + B =
      segment_append d (joint held) 30 6 ∙ ap₂ (λ (x y : ℕ). segment d (joint held) 30 * 2 ^ x + y) six n in
      let l : B < 64 = both_lt (state f (i + 6)) (state g (i + 6)) (state_bits f (i + 6)) (state_bits g (i + 6)) in
      (ap (λ (x : ℕ). x / 64) e ∙ high (segment d (joint held) 30) 6 l, ap (λ (x : ℕ). x % 64) e ∙ low (segment d (joint held) 30) 6 l)

-- ---- the six groups from 6 q on, of a block of n bits
module _ (p n : ℕ) (w : List ℕ) (q h : ℕ) (hp : p < 28) (hq : 6 * q + 6 ≤ n) (eh : h ≡ q % 2) where
  sent_as : (t : ℕ) → t < 30 → half_at (entries p) h t ≡ copies p n (30 * q + t)
  unfolding digit_at
  sent_as t ht =
      let i : ℕ = 6 * q + t / 5 in
      let e1 : (30 * h + t) / 5 ≡ i % 12 = omega arith in
      let e2 : (30 * h + t) % 5 ≡ t % 5 = omega arith in
      let e3 : 5 * i + t % 5 ≡ 30 * q + t = omega arith in
      let c : digit_at (entries p) (30 * h + t) ≡ copies p n (30 * q + t) =
      ap₂ (λ (x y : ℕ). digit (get_or (entries p) x 0) y) e1 e2 ∙ data_digit p n i (t % 5) hp (omega arith) (omega arith) ∙ ap (copies p n) e3 in
      half_data (entries p) h t ht ∙ omega (arith, c, data_once p n (30 * q + t) hp (omega arith))

  pub bits_sent : total (half_at (entries p) h) 30 ≡ total (λ t. copies p n (30 * q + t)) 30
  bits_sent = total_cong (half_at (entries p) h) (λ t. copies p n (30 * q + t)) 30 sent_as

  -- the symbol k of them
  symbol_at : (k : ℕ) → k < 30
      → lane_bit w n (30 * q + k) ≡ get_or (data_symbols (bit_at w (6 * q + k / 5)) (state (bit_at w) (6 * q + k / 5)) (second w n (6 * q + k / 5)) (state (second w n) (6 * q + k / 5))) (k % 5) 0
  unfolding lane_bit group
  symbol_at k hk =
      let e1 : (30 * q + k) / 5 ≡ 6 * q + k / 5 = omega arith in
      let e2 : (30 * q + k) % 5 ≡ k % 5 = omega arith in
      ap₂ (λ (x y : ℕ). get_or (group w n x) y 0) e1 e2 ∙ ap (λ (x : List ℕ). get_or x (k % 5) 0) (choose_true _ _ (lt-ltb (6 * q + k / 5) n (omega arith)))

  pub segment_sent : (y : ℕ → ℕ)
      → ((k : ℕ) → k < 30 → y k ≡ get_or (data_symbols (bit_at w (6 * q + k / 5)) (state (bit_at w) (6 * q + k / 5)) (second w n (6 * q + k / 5)) (state (second w n) (6 * q + k / 5))) (k % 5) 0)
      → segment (half_at (entries p) h) y 30 ≡ number (code_bit p n w) (total (copies p n) (30 * q)) (total (half_at (entries p) h) 30)
  unfolding code_bit code_bits
  segment_sent y e =
      segment_cong (half_at (entries p) h) (λ t. copies p n (30 * q + t)) y (λ t. lane_bit w n (30 * q + t)) 30 sent_as (λ t l. e t l ∙ sym (symbol_at t l))
      ∙ sym (spread_number (copies p n) (lane_bit w n) (places n) (30 * q) 30 (omega arith))
      ∙ ap (number (λ k. get_or (spread (copies p n) (lane_bit w n) (places n)) k 0) (total (copies p n) (30 * q))) (sym bits_sent)

-- ---- six groups more
pub sent_none : (p n : ℕ) (w out : List ℕ) → total (copies p n) (places n) ≡ 8 * length out → Sent p n w out (record { sink = record { acc = 0; used = 0; at = 0 }; both = 0 }) 0
unfolding number state
sent_none p n w out full = record {
  registers = refl;
  room = omega arith;
  words = refl;
  at = sym (total_zero (copies p n));
  full = full;
  held = record { bytes = λ k h. absurd (not-suc-le-zero h); part = refl };
}

pub sent_both : (p n : ℕ) (w out : List ℕ) (c : Coder) (q : ℕ) → Sent p n w out c q → c.both < 64
sent_both p n w out c q S =
    subst (λ (x : ℕ). x < 64) (sym S.registers) (both_lt (state (bit_at w) (6 * q)) (state (second w n) (6 * q)) (state_bits (bit_at w) (6 * q)) (state_bits (second w n) (6 * q)))

-- the registers after six bit periods are six bits, whatever was in the tables
pub chunked_both : (out : List ℕ) (t : Plan) (h : ℕ) (c : Coder) (u v : ℕ) (r : Coder) (m : List ℕ) → Is (chunked out t h c u v) r m → r.both < 64
unfolding chunked
chunked_both out t h c u v r m K = subst (λ (x : ℕ). x < 64) (sym (ap (λ (d : Coder). d.both) K.answer)) (omega arith)

pub thrice_both : (out : List ℕ) (t : Plan) (c : Coder) (x y : ℕ) (r : Coder) (m : List ℕ) → Is (thrice out t c x y) r m → r.both < 64
unfolding thrice
thrice_both out t c x y r m K = chunked_both _ t 0 _ _ _ r m K

module _ (p n : ℕ) (w out : List ℕ) (t : Plan) (c : Coder) (q u v h : ℕ) (hp : p < 28) (T : t ≡ plan_of (entries p)) (S : Sent p n w out c q) (hq : 6 * q + 6 ≤ n)
    (eu : u ≡ number (bit_at w) (6 * q) 6) (ev : v ≡ number (second w n) (6 * q) 6) (eh : h ≡ q % 2) where
  abbrev whole : ℕ
  whole = u * 4096 + v * 64 + both (state (bit_at w) (6 * q)) (state (second w n) (6 * q))

  u_small : u < 64
  u_small = subst (λ (x : ℕ). x < 64) (sym eu) (number_lt (bit_at w) (bit_lt w) (6 * q) 6)

  v_small : v < 64
  v_small = subst (λ (x : ℕ). x < 64) (sym ev) (number_lt (second w n) (second_lt w n) (6 * q) 6)

  at : (h i x : ℕ) → h < 2 → i < 3 → x < 64 → get_or t.look (192 * h + 64 * i + x) 0 ≡ coded (entries p) h (x * 2 ^ (6 * i))
  at h i x hh hi hx = ap (λ (r : Plan). get_or r.look (192 * h + 64 * i + x) 0) T ∙ plan_at (entries p) h i x hh hi hx

  told_is : told t.look (192 * h) u v c.both ≡ coded (entries p) h whole
  told_is =
      let hh : h < 2 = omega arith in
      let b : ℕ = c.both in
      let a2 : get_or t.look (192 * h + 128 + u) 0 ≡ coded (entries p) h (u * 4096) = at h 2 u hh (omega arith) u_small in
      let a1 : get_or t.look (192 * h + 64 + v) 0 ≡ coded (entries p) h (v * 64) = at h 1 v hh (omega arith) v_small in
      let a0 : get_or t.look (192 * h + b) 0 ≡ coded (entries p) h b =
      ap (λ (x : ℕ). get_or t.look (x + b) 0) (sym (add-zero (192 * h))) ∙ at h 0 b hh (omega arith) (sent_both p n w out c q S) ∙ ap (coded (entries p) h) (mul-one b) in
      let j1 : coded (entries p) h (u * 4096 + v * 64) ≡ bit_xor (coded (entries p) h (u * 4096)) (coded (entries p) h (v * 64)) =
      coded_sum (entries p) h (u * 4096) (v * 64) (u * 4096 + v * 64) (joins_apart 12 u (v * 64) (omega (arith, v_small))) in
      let m : (u * 64 + v) * 64 ≡ u * 4096 + v * 64 = omega arith in
      let j0 : coded (entries p) h ((u * 64 + v) * 64 + b) ≡ bit_xor (coded (entries p) h ((u * 64 + v) * 64)) (coded (entries p) h b) =
      coded_sum (entries p) h ((u * 64 + v) * 64) b ((u * 64 + v) * 64 + b) (joins_apart 6 (u * 64 + v) b (sent_both p n w out c q S)) in
      ap₂ bit_xor (ap₂ bit_xor a2 a1 ∙ sym j1 ∙ ap (coded (entries p) h) (sym m)) a0 ∙ sym j0 ∙ ap (coded (entries p) h) (ap₂ ◌+◌ m S.registers)

  -- as many bits are sent as the half's places count
  bits_are : half_bits t h ≡ total (half_at (entries p) h) 30
  unfolding plan_of
  bits_are =
      ap (λ (r : Plan). half_bits r h) T ∙ elim (ℕ_discrete h 0) [
        | yes e ↦ choose_true _ _ (eq-eqb h 0 e) ∙ sym (ap (λ (j : ℕ). total (half_at (entries p) j) 30) e)
        | no e ↦ choose_false _ _ (ne_eqb h 0 e) ∙ ap (λ (j : ℕ). total (half_at (entries p) j) 30) {x = 1} {y = h} (omega arith)
      ]

  value_is : told t.look (192 * h) u v c.both / 64 ≡ number (code_bit p n w) (place_of c.sink) (half_bits t h)
  value_is =
      ap (λ (x : ℕ). x / 64) told_is ∙ (coded_parts (bit_at w) (second w n) (bit_lt w) (second_lt w n) (6 * q) u v eu ev (entries p) h).0
      ∙ segment_sent p n w q h hp hq eh (joint whole) (joint_data (bit_at w) (second w n) (bit_lt w) (second_lt w n) (6 * q) u v eu ev)
      ∙ ap₂ (number (code_bit p n w)) (sym S.at) (sym bits_are)

  sent_to : total (copies p n) (30 * (q + 1)) ≡ total (copies p n) (30 * q) + half_bits t h
  sent_to =
      let e : 30 * (q + 1) ≡ 30 * q + 30 = omega arith in
      ap (total (copies p n)) e ∙ total_add (copies p n) (30 * q) 30 ∙ ap (λ (x : ℕ). total (copies p n) (30 * q) + x) (sym (bits_are ∙ bits_sent p n w q h hp hq eh))

  pub sent_more : (r : Coder) (m : List ℕ) → Is (chunked out t h c u v) r m → Sent p n w m r (q + 1) × (length m ≡ length out)
  unfolding chunked
  sent_more r m K =
      let e : 6 * q + 6 ≡ 6 * (q + 1) = omega arith in
      let z : ℕ = told t.look (192 * h) u v c.both in
      let P = wide_put (z / 64) (half_bits t h) out c.sink r.sink m S.room (omega (arith, bits_are, half_most (entries p) h))
      (subst (λ (x : ℕ). x < 2 ^ half_bits t h) (sym value_is) (number_lt (code_bit p n w) (code_bit_lem p n w) (place_of c.sink) (half_bits t h)))
      (omega (arith, S.at, S.full, sent_to, total_mono (copies p n) (30 * (q + 1)) (places n) (omega arith)))
      (record { answer = ap (λ (x : Coder). x.sink) K.answer; memory = K.memory }) in (
        record {
          registers = ap (λ (x : Coder). x.both) K.answer ∙ ap (λ (x : ℕ). x % 64) told_is
              ∙ (coded_parts (bit_at w) (second w n) (bit_lt w) (second_lt w n) (6 * q) u v eu ev (entries p) h).1
              ∙ ap (λ (x : ℕ). both (state (bit_at w) x) (state (second w n) x)) e;
          room = P.room;
          words = P.step ∙ S.words;
          at = P.moved ∙ omega (arith, S.at, sent_to);
          full = S.full ∙ ap (λ (x : ℕ). 8 * x) (sym P.len);
          held = P.keeps (code_bit p n w) (code_bit_lem p n w) S.held value_is;
        },
        P.len,
      )

-- ---- the six groups of a turn: those of half 0, and those of half 1
module _ (p n : ℕ) (w z : List ℕ) (t : Plan) (P : Prepared p n w z t) (out : List ℕ) (c : Coder) (q u v : ℕ) (S : Sent p n w out c q) (hq : 6 * q + 6 ≤ n)
    (eu : u ≡ number (bit_at w) (6 * q) 6) (ev : v ≡ number (second w n) (6 * q) 6) where
  hp : p < 28
  hp = (coded_bounds p n P.coded).0

  pub half_gives : (h : ℕ) → h ≡ q % 2 → (r : Coder) (m : List ℕ) → Is (chunked out t h c u v) r m → Sent p n w m r (q + 1) × (length m ≡ length out)
  half_gives h e = sent_more p n w out t c q u v h hp P.tables S hq eu ev e

-- ---- three bytes of both: their upper eighteen bits, and the last six
module _ (p n : ℕ) (w z : List ℕ) (t : Plan) (P : Prepared p n w z t) (i x y : ℕ)
    (ex : x ≡ get_or w (3 * i) 0 * 65536 + get_or w (3 * i + 1) 0 * 256 + get_or w (3 * i + 2) 0) (ey : y ≡ get_or z (3 * i) 0 * 65536 + get_or z (3 * i + 1) 0 * 256 + get_or z (3 * i + 2) 0)
    (room : 24 * i + 18 ≤ n) where
  hi : i < 512
  hi = omega (arith, (coded_bounds p n P.coded).2)

  pub eighteen_sent : (out : List ℕ) (c : Coder) → Sent p n w out c (4 * i) → (r : Coder) (m : List ℕ) → Is (thrice out t c x y) r m
      → Sent p n w m r (4 * i + 3) × (length m ≡ length out)
  unfolding thrice
  eighteen_sent out c S r m K =
      let s0 = sixes p n w z t P i x y hi ex ey 0 (omega arith) (omega arith) in
      let s1 = sixes p n w z t P i x y hi ex ey 1 (omega arith) (omega arith) in
      let s2 = sixes p n w z t P i x y hi ex ey 2 (omega arith) (omega arith) in
      let a : Outcome Coder (List ℕ) = chunked out t 0 c (x / 262144 % 64) (y / 262144 % 64) in
      let b : Outcome Coder (List ℕ) = chunked a.memory t 1 a.answer (x / 4096 % 64) (y / 4096 % 64) in
      let S0 : Sent p n w out c (4 * i + 0) = subst (Sent p n w out c) (sym (add-zero (4 * i))) S in
      let A = half_gives p n w z t P out c (4 * i + 0) (x / 262144 % 64) (y / 262144 % 64) S0 (omega arith) s0.0 s0.1 0 (omega arith) a.answer a.memory (record { answer = refl; memory = refl }) in
      let S1 : Sent p n w a.memory a.answer (4 * i + 1) = subst (Sent p n w a.memory a.answer) {x = 4 * i + 0 + 1} {y = 4 * i + 1} (omega arith) A.0 in
      let B = half_gives p n w z t P a.memory a.answer (4 * i + 1) (x / 4096 % 64) (y / 4096 % 64) S1 (omega arith) s1.0 s1.1 1 (omega arith) b.answer b.memory (record { answer = refl; memory = refl }) in
      let S2 : Sent p n w b.memory b.answer (4 * i + 2) = subst (Sent p n w b.memory b.answer) {x = 4 * i + 1 + 1} {y = 4 * i + 2} (omega arith) B.0 in
      let C = half_gives p n w z t P b.memory b.answer (4 * i + 2) (x / 64 % 64) (y / 64 % 64) S2 (omega arith) s2.0 s2.1 0 (omega arith) r m K in
      (subst (Sent p n w m r) {x = 4 * i + 2 + 1} {y = 4 * i + 3} (omega arith) C.0, C.1 ∙ B.1 ∙ A.1)

  pub last_sent : 24 * i + 24 ≤ n → (out : List ℕ) (c : Coder) → Sent p n w out c (4 * i + 3) → (r : Coder) (m : List ℕ) → Is (chunked out t 1 c (x % 64) (y % 64)) r m
      → Sent p n w m r (4 * (i + 1)) × (length m ≡ length out)
  last_sent l out c S r m K =
      let s = last_six p n w z t P i x y hi ex ey l in
      let A = half_gives p n w z t P out c (4 * i + 3) (x % 64) (y % 64) S (omega arith) s.0 s.1 1 (omega arith) r m K in
      (subst (Sent p n w m r) {x = 4 * i + 3 + 1} {y = 4 * (i + 1)} (omega arith) A.0, A.1)

-- an outcome from that of a call before
pub then : (o : Outcome Coder (List ℕ)) (f : List ℕ → Coder → Outcome Coder (List ℕ)) (c : Coder) (m : List ℕ) (r : Coder) (m' : List ℕ) → Is o c m → Is (f m c) r m'
    → Is (f o.memory o.answer) r m'
then o f c m r m' h k = record {
  answer = k.answer ∙ ap₂ (λ (a : List ℕ) (b : Coder). (f a b).answer) h.memory h.answer;
  memory = k.memory ∙ ap₂ (λ (a : List ℕ) (b : Coder). (f a b).memory) h.memory h.answer;
}
