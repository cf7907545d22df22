-- What was gathered of a word's bits is what encoder 2 reads.
-- Assumes nothing.
use Prim.Native.Nat.{ℕ, ◌+◌, ◌*◌, ◌%◌, ◌^◌, ◌<◌}
use mathlib.Core.Path.{◌≡◌, refl, sym, ap, ◌∙◌, subst}
use mathlib.Core.Logic.{inr}
use mathlib.Core.List.{List}
use native.Mathlib.Decide.{dec_lt}
use native.Mathlib.Omega.{arith}
use lib.Dec.{ltb}
use lib.Pow.{pow_pos}
use lib.ListN.{length, get_or}
use borrow.Author.Tests.{eq-eqb, ne_eqb, lt-ltb, le-ltb}
use Rattle.ground.specs.Choice.{choose}
use Rattle.ground.proofs.Choice.{choose_true, choose_false}
use Rattle.bits.specs.Places.{bit_at}
use Rattle.bits.proofs.Places.{number_cong, packed_cong, packed_ext}
use Rattle.order.specs.Order.{parameter, order}
use Rattle.order.specs.Once.{Block}
use Rattle.order.proofs.Once.{order_permutes}
use Rattle.pairs.specs.Pairs.{pairs_of, unpacked, Paired}
use Rattle.pairs.proofs.Coupling.{paired_bit, paired}
use Rattle.pairs.proofs.Copying.{unpacked_long}
use Rattle.listed.specs.Listed.{listed_bit, listed}
use Rattle.interleaver.specs.Read.{block_for, interleaved_bit, interleaved}
use Rattle.interleaver.specs.Inside.{read_bit, Gathered}
use Rattle.interleaver.proofs.Gathering.{sized}

-- ---- which block a number of bits stands for
pub block_long : (n : ℕ) → n ≡ 12282 → block_for n ≡ 12282
unfolding block_for
block_long n e = choose_true 12282 762 (eq-eqb n 12282 e)

pub block_short : (n : ℕ) → (n ≡ 12282 → ⊥) → block_for n ≡ 762
unfolding block_for
block_short n h = choose_false 12282 762 (ne_eqb n 12282 h)

-- ---- what encoder 2 reads
module _ (N : ℕ) (b : Block N) (w d out : List ℕ) (e : d ≡ pairs_of w (2 ^ parameter N)) (g : Gathered N d out) where
  read_same : (p : ℕ) → read_bit N d p ≡ interleaved_bit w N p
  unfolding read_bit interleaved_bit
  read_same p =
      elim (dec_lt p N) [
        | yes h ↦ (
            let a : ℕ = get_or (order N) p 0 in
            let below : a < N = (order_permutes N b).below p h in
            choose_true (get_or d a 0 % 64) 0 (lt-ltb p N h) ∙ ap (λ (l : List ℕ). get_or l a 0 % 64) e ∙ paired_bit w (2 ^ parameter N) (pow_pos (parameter N)) a (omega (arith, (sized N b).bits))
            ∙ sym (choose_true (bit_at w a) 0 (lt-ltb p N h)))
        | no h ↦ choose_false (get_or d (get_or (order N) p 0) 0 % 64) 0 (le-ltb p N (omega arith)) ∙ sym (choose_false (bit_at w (get_or (order N) p 0)) 0 (le-ltb p N (omega arith)))
      ]

  pub read_is : out ≡ interleaved N w
  unfolding interleaved
  read_is = packed_ext (interleaved_bit w N) out 1536 g.len (λ k h. g.bytes k h ∙ number_cong (read_bit N d) (interleaved_bit w N) (8 * k) 8 (λ t q. read_same (8 * k + t)))

-- the pairs that were unpacked are pairs
pub pairs_long : (w d m : List ℕ) → length d ≡ 12288 → m ≡ unpacked w d → (m ≡ pairs_of w 512) × Paired 512 m
pairs_long w d m e u = let f : m ≡ pairs_of w 512 = u ∙ unpacked_long w d e in (f, subst (Paired 512) (sym f) (paired w 512 (omega arith)))

-- ---- what the stored list reads is the order's
pub listed_is : (w : List ℕ) → listed (order 762) w ≡ interleaved 762 w
unfolding listed listed_bit interleaved interleaved_bit
listed_is w =
    let size : length (order 762) ≡ 762 = (order_permutes 762 (inr refl)).size in
    packed_cong (listed_bit (order 762) w) (interleaved_bit w 762) 1536 (λ i h. ap (λ (n : ℕ). choose (ltb i n) (bit_at w (get_or (order 762) i 0)) 0) size)
