-- A mixed codeword in order again is the codeword.
-- Assumes nothing.
use Prim.Native.Nat.{ℕ, ◌*◌, ◌/◌, ◌<◌}
use mathlib.Core.Path.{◌≡◌, sym, ap, ◌∙◌, subst}
use mathlib.Core.List.{List}
use native.Mathlib.Omega.{arith}
use lib.ListN.{length}
use Rattle.ground.specs.Outcome.{Is}
use Rattle.bits.specs.Places.{bit_at, packed}
use Rattle.bits.proofs.Places.{bit_lt, packed_cong, packed_length}
use Rattle.bits.proofs.Joined.{packed_bits, bit_packed}
use Rattle.patterns.specs.Sent.{code_length}
use Rattle.patterns.specs.Blocks.{Coded}
use Rattle.patterns.proofs.Length.{length_rule}
use Rattle.mixer.specs.Mixer.{mixed, mixed_from, increment}
use Rattle.mixer.specs.Unmixer.{unmixed, inverse}
use Rattle.mixer.specs.Wanted.{Unmixes, Moved}
use Rattle.mixer.specs.Mixing.{block_of, mixing}
use Rattle.mixer.proofs.Mixer.{mixed_once}
use Rattle.mixer.proofs.Mixes.{mix_accepted}

pub mixed_length : (p n : ℕ) (c : List ℕ) → length (mixed p n c) ≡ code_length p n / 8
unfolding mixed
mixed_length p n c = packed_length (λ i. bit_at c (mixed_from (increment p n) (code_length p n) i)) (code_length p n / 8)

-- each bit of a codeword at its place
pub bit_moved : (p n : ℕ) → Coded p n → (c : List ℕ) (i : ℕ) → i < code_length p n → bit_at (mixed p n c) (mixed_from (inverse p n) (code_length p n) i) ≡ bit_at c i
unfolding mixed
bit_moved p n h c i k =
    let len : ℕ = code_length p n in
    let whole : 8 * (len / 8) ≡ len = omega (arith, (length_rule p n h).bytes) in
    let to : (ℕ → ℕ) = mixed_from (increment p n) len in
    let from : (ℕ → ℕ) = mixed_from (inverse p n) len in
    bit_packed (λ j. bit_at c (to j)) (λ j. bit_lt c (to j)) (len / 8) (from i) (subst (λ (z : ℕ). from i < z) (sym whole) ((mixed_once p n h).back_inside i k))
    ∙ ap (bit_at c) ((mixed_once p n h).again i k)

pub unmixes : Unmixes
unfolding unmixed
unmixes p n h c b e =
    let len : ℕ = code_length p n in
    let whole : 8 * (len / 8) ≡ len = omega (arith, (length_rule p n h).bytes) in
    let from : (ℕ → ℕ) = mixed_from (inverse p n) len in
    let m : List ℕ = mixed p n c in
    packed_cong (λ i. bit_at m (from i)) (bit_at c) (len / 8)
    (λ i l. bit_moved p n h c i (subst (λ (z : ℕ). i < z) whole l))
    ∙ ap (packed (bit_at c)) (sym e)
    ∙ packed_bits c b

-- of an accepted call
pub call_moves : (p : ℕ) (c out m : List ℕ) (r : ℕ) → Is (mixing p c out) r m → r ≡ 0 → Moved p c m
unfolding mixing
call_moves p c out m r i z =
    let a = mix_accepted p c out (sym i.answer ∙ z) in
    let h = bit_moved p (block_of p c) a.coded c in
    (block_of p c, a.coded, a.long, λ j k. ap (λ (x : List ℕ). bit_at x (mixed_from (inverse p (block_of p c)) (code_length p (block_of p c)) j)) (i.memory ∙ a.left) ∙ h j k)
