-- The test that the code makes: the parity of a part holds exactly where its 49 bits spell the part of its message.
-- Assumes nothing.
use Prim.Native.Nat.{ℕ, ◌+◌, ◌*◌}
use mathlib.Core.Path.{◌≡◌, sym, ap, ap₂, ◌∙◌}
use mathlib.Core.List.{List, ◌++◌}
use borrow.Author.Tests.{eqb-true, eq-eqb}
use lib.Dec.{eqb, lit≤}
use lib.ListN.{drop}
use lib.Seq.{take_at, drop_at}
use Rattle.ground.specs.Table.{tab}
use Rattle.ground.proofs.Choice.{same_test}
use Rattle.ground.proofs.Table.{length_tab}
use Rattle.bits.specs.Lists.{bits, num}
use Rattle.bits.specs.Places.{bit_at, number, field_at}
use Rattle.bits.proofs.Lists.{bits_num, num_bits}
use Rattle.bits.proofs.Places.{number_append, field_is}
use Rattle.bits.proofs.Joined.{run_below, num_tab}
use Rattle.parity.specs.Part.{parity_of, codeword, parity_holds, message_at, part_of, received}
use Rattle.parity.specs.Claims.{Bits}
use Rattle.parity.proofs.Laws.{part_lt, append_bits}
use Rattle.parity.proofs.Sound.{written, one_to_one}

-- generator and parity bit both agree exactly where the 49 bits are the part of the message
holds_is : (m q : List ℕ) → Bits 3008 m → Bits 49 q → parity_holds (m ++ q) ≡ eqb (num q) (parity_of m)
unfolding codeword
holds_is m q b d =
    let v : ℕ = parity_of m in
    same_test (parity_holds (m ++ q)) (eqb (num q) v)
    (λ h.
    let e : m ++ q ≡ m ++ bits 49 v = one_to_one (m ++ q) (append_bits m q b d) h ∙ ap codeword (take_at m q 3008 b.count) in
    let f : q ≡ bits 49 v = sym (drop_at m q 3008 b.count) ∙ ap (drop 3008) e ∙ drop_at m (bits 49 v) 3008 b.count in
    eq-eqb (num q) v (ap num f ∙ num_bits 49 v (part_lt m b.each)))
    (λ h.
    let f : q ≡ bits 49 v = sym (bits_num q d.each) ∙ ap₂ bits d.count (eqb-true (num q) v h) in
    ap (λ (l : List ℕ). parity_holds (m ++ l)) f ∙ (written m b).1)

run : (w : List ℕ) (at n : ℕ) → Bits n (tab (bit_at w) at n)
run w at n = record { count = length_tab (bit_at w) at n; each = run_below w at n }

pub received_bits : (w : List ℕ) (k : ℕ) → Bits 3057 (received w k)
unfolding received
received_bits w k =
    append_bits (message_at w (376 * k)) (tab (bit_at w) (12032 + 49 * k) 49) (run w (8 * (376 * k)) 3008) (run w (12032 + 49 * k) 49)

pub holds_at : (w : List ℕ) (k : ℕ) → parity_holds (received w k) ≡ eqb (number (bit_at w) (12032 + 49 * k) 49) (part_of w (376 * k))
unfolding received part_of
holds_at w k =
    let f : List ℕ = message_at w (376 * k) in
    let b : List ℕ = tab (bit_at w) (12032 + 49 * k) 49 in
    holds_is f b (run w (8 * (376 * k)) 3008) (run w (12032 + 49 * k) 49) ∙ ap (λ (x : ℕ). eqb x (parity_of f)) (num_tab (bit_at w) (12032 + 49 * k) 49)

-- the same of the 49 bits read in two fields
pub holds_by : (w : List ℕ) (k v : ℕ) {at high low : ℕ} → high ≡ field_at w at 32 → low ≡ field_at w (at + 32) 17 → v ≡ part_of w (376 * k) → at ≡ 12032 + 49 * k
    → parity_holds (received w k) ≡ eqb (high * 0x20000 + low) v
holds_by w k v {at} {high} {low} h l e a =
    let f : number (bit_at w) (12032 + 49 * k) 49 ≡ high * 0x20000 + low =
    ap (λ (i : ℕ). number (bit_at w) i 49) (sym a) ∙ number_append (bit_at w) at 32 17
    ∙ ap₂ (λ (x y : ℕ). x * 0x20000 + y) (sym (h ∙ field_is w at 32 (lit≤ tt))) (sym (l ∙ field_is w (at + 32) 17 (lit≤ tt))) in
    holds_at w k ∙ ap₂ eqb f (sym e)
