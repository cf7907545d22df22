-- Laws of the bits that both encoders read: bytes, three of them, and six bits.
-- Assumes nothing.
use Prim.Native.Nat.{ℕ, ◌+◌, ◌-◌, ◌*◌, ◌/◌, ◌%◌, ◌^◌, ◌≤◌, ◌<◌}
use mathlib.Core.Path.{◌≡◌, ap, ap₂, ◌∙◌, subst}
use mathlib.Core.Bool.{Bool, true, false}
use mathlib.Core.List.{List}
use native.Mathlib.Nat.{zero-add}
use native.Mathlib.Omega.{arith}
use lib.Dec.{ltb}
use lib.Pow.{high, low}
use lib.ListN.{length, get_or}
use borrow.Author.Tests.{lt-ltb}
use Rattle.ground.specs.Choice.{choose}
use Rattle.ground.proofs.Choice.{choose_true}
use Rattle.ground.proofs.Table.{get_or_tab}
use Rattle.bits.specs.Places.{bit_at, number, packed}
use Rattle.bits.proofs.Places.{bit_lt, number_lt, number_cong, number_append, number_bit, packed_length}
use Rattle.order.specs.Order.{order}
use Rattle.interleaver.specs.Read.{interleaved_bit, interleaved}
use Rattle.turbo.specs.Lane.{second}
use Rattle.constituent.specs.Six.{bit_of}
use Rattle.tables.specs.declared.Plan.{Plan}
use Rattle.turbo.specs.Stream.{Prepared}

pub second_lt : (w : List ℕ) (n i : ℕ) → second w n i < 2
unfolding second
second_lt w n i = bit_lt w (get_or (order n) i 0)

pub six_bit : (f : ℕ → ℕ) → ((k : ℕ) → f k < 2) → (i b : ℕ) → b < 6 → bit_of (number f i 6) b ≡ f (i + b)
six_bit f bit i b h =
    let e : b + 1 + (5 - b) ≡ 6 = omega arith in
    subst (λ (n : ℕ). number f i n / 2 ^ (5 - b) % 2 ≡ f (i + b)) e (number_bit f bit i b (5 - b))

-- two runs of so many bits in a number: the first, and the second
pub first_run : (f : ℕ → ℕ) → ((k : ℕ) → f k < 2) → (i m n : ℕ) → number f i (m + n) / 2 ^ n ≡ number f i m
first_run f bit i m n = ap (λ (x : ℕ). x / 2 ^ n) (number_append f i m n) ∙ high (number f i m) n (number_lt f bit (i + m) n)

pub second_run : (f : ℕ → ℕ) → ((k : ℕ) → f k < 2) → (i m n : ℕ) → number f i (m + n) % 2 ^ n ≡ number f (i + m) n
second_run f bit i m n = ap (λ (x : ℕ). x % 2 ^ n) (number_append f i m n) ∙ low (number f i m) n (number_lt f bit (i + m) n)

-- a byte is the number of its bits
byte_number : (w : List ℕ) (k : ℕ) → get_or w k 0 < 256 → get_or w k 0 ≡ number (bit_at w) (8 * k) 8
unfolding number bit_at
byte_number w k h =
    let x : ℕ = get_or w k 0 in
    let at : (j : ℕ) → j < 8 → get_or w ((8 * k + j) / 8) 0 / 2 ^ (7 - (8 * k + j) % 8) % 2 ≡ x / 2 ^ (7 - j) % 2 =
    λ j l. ap₂ (λ (a b : ℕ). get_or w a 0 / 2 ^ (7 - b) % 2) {x = (8 * k + j) / 8} {y = k} (omega arith) (omega arith) in
    eight x _ _ _ _ _ _ _ _ h (at 0 (omega arith)) (at 1 (omega arith)) (at 2 (omega arith)) (at 3 (omega arith)) (at 4 (omega arith)) (at 5 (omega arith)) (at 6 (omega arith)) (at 7 (omega arith))
  where
    more : (y s b : ℕ) → y / 2 ≡ s → b ≡ y % 2 → y ≡ s * 2 + b
    more y s b p q = omega arith

    halves : (x : ℕ) → (x / 64 / 2 ≡ x / 128) × (x / 32 / 2 ≡ x / 64) × (x / 16 / 2 ≡ x / 32) × (x / 8 / 2 ≡ x / 16) × (x / 4 / 2 ≡ x / 8) × (x / 2 / 2 ≡ x / 4) × (x / 1 / 2 ≡ x / 2)
    halves x = (omega arith, omega arith, omega arith, omega arith, omega arith, omega arith, omega arith)

    none : (x : ℕ) → x < 256 → x / 128 / 2 ≡ 0
    none x h = omega arith

    whole : (x : ℕ) → x ≡ x / 1
    whole x = omega arith

    eight : (x a b c d e f g i : ℕ) → x < 256 → a ≡ x / 128 % 2 → b ≡ x / 64 % 2 → c ≡ x / 32 % 2 → d ≡ x / 16 % 2 → e ≡ x / 8 % 2 → f ≡ x / 4 % 2 → g ≡ x / 2 % 2 → i ≡ x / 1 % 2
        → x ≡ (((((((0 * 2 + a) * 2 + b) * 2 + c) * 2 + d) * 2 + e) * 2 + f) * 2 + g) * 2 + i
    eight x a b c d e f g i h ea eb ec ed ee ef eg ei =
        let q = halves x in
        let s1 = more (x / 128) 0 a (none x h) ea in
        let s2 = more (x / 64) (0 * 2 + a) b (q.0 ∙ s1) eb in
        let s3 = more (x / 32) ((0 * 2 + a) * 2 + b) c (q.1 ∙ s2) ec in
        let s4 = more (x / 16) (((0 * 2 + a) * 2 + b) * 2 + c) d (q.2 ∙ s3) ed in
        let s5 = more (x / 8) ((((0 * 2 + a) * 2 + b) * 2 + c) * 2 + d) e (q.3 ∙ s4) ee in
        let s6 = more (x / 4) (((((0 * 2 + a) * 2 + b) * 2 + c) * 2 + d) * 2 + e) f (q.4 ∙ s5) ef in
        let s7 = more (x / 2) ((((((0 * 2 + a) * 2 + b) * 2 + c) * 2 + d) * 2 + e) * 2 + f) g (q.5 ∙ s6) eg in
        whole x ∙ more (x / 1) (((((((0 * 2 + a) * 2 + b) * 2 + c) * 2 + d) * 2 + e) * 2 + f) * 2 + g) i (q.6 ∙ s7) ei

-- three bytes
three_bytes : (f : ℕ → ℕ) (i a b c : ℕ) → a ≡ number f (8 * (3 * i)) 8 → b ≡ number f (8 * (3 * i + 1)) 8 → c ≡ number f (8 * (3 * i + 2)) 8
    → a * 65536 + b * 256 + c ≡ number f (24 * i) 24
three_bytes f i a b c ea eb ec =
    let n1 : number f (24 * i) 24 ≡ number f (24 * i) 16 * 256 + number f (24 * i + 16) 8 = number_append f (24 * i) 16 8 in
    let n2 : number f (24 * i) 16 ≡ number f (24 * i) 8 * 256 + number f (24 * i + 8) 8 = number_append f (24 * i) 8 8 in
    let e1 : number f (8 * (3 * i)) 8 ≡ number f (24 * i) 8 = ap (λ (x : ℕ). number f x 8) (omega arith) in
    let e2 : number f (8 * (3 * i + 1)) 8 ≡ number f (24 * i + 8) 8 = ap (λ (x : ℕ). number f x 8) (omega arith) in
    let e3 : number f (8 * (3 * i + 2)) 8 ≡ number f (24 * i + 16) 8 = ap (λ (x : ℕ). number f x 8) (omega arith) in
    omega arith

-- ---- a word, and what encoder 2 reads of it
module _ (p n : ℕ) (w z : List ℕ) (t : Plan) (P : Prepared p n w z t) (i : ℕ) where
  first_word : (x : ℕ) → x ≡ get_or w (3 * i) 0 * 65536 + get_or w (3 * i + 1) 0 * 256 + get_or w (3 * i + 2) 0 → x ≡ number (bit_at w) (24 * i) 24
  first_word x e =
      e ∙ three_bytes (bit_at w) i _ _ _ (byte_number w (3 * i) (P.byte (3 * i))) (byte_number w (3 * i + 1) (P.byte (3 * i + 1))) (byte_number w (3 * i + 2) (P.byte (3 * i + 2)))

  second_byte : (k : ℕ) → k < 1536 → get_or z k 0 ≡ number (interleaved_bit w n) (8 * k) 8
  unfolding interleaved packed
  second_byte k h =
      ap (λ (l : List ℕ). get_or l k 0) P.second ∙ get_or_tab (λ j. number (interleaved_bit w n) (8 * j) 8) 0 0 1536 k h ∙ ap (λ (j : ℕ). number (interleaved_bit w n) (8 * j) 8) (zero-add k)

  second_word : i < 512 → (y : ℕ) → y ≡ get_or z (3 * i) 0 * 65536 + get_or z (3 * i + 1) 0 * 256 + get_or z (3 * i + 2) 0 → y ≡ number (interleaved_bit w n) (24 * i) 24
  second_word h y e = e ∙ three_bytes (interleaved_bit w n) i _ _ _ (second_byte (3 * i) (omega arith)) (second_byte (3 * i + 1) (omega arith)) (second_byte (3 * i + 2) (omega arith))

-- within the block the bits that encoder 2 reads are those of the lane's definition
pub second_run_is : (w : List ℕ) (n i m : ℕ) → i + m ≤ n → number (interleaved_bit w n) i m ≡ number (second w n) i m
unfolding interleaved_bit second
second_run_is w n i m h =
    number_cong (interleaved_bit w n) (second w n) i m (λ k l. choose_true (bit_at w (get_or (order n) (i + k) 0)) 0 (lt-ltb (i + k) n (omega arith)))

pub interleaved_lt : (w : List ℕ) (n i : ℕ) → interleaved_bit w n i < 2
unfolding interleaved_bit
interleaved_lt w n i = either (ltb i n)
  where
    either : (b : Bool) → choose b (bit_at w (get_or (order n) i 0)) 0 < 2
    either true = bit_lt w (get_or (order n) i 0)
    either false = omega arith

-- ---- three bytes of both as four times six bits
module _ (p n : ℕ) (w z : List ℕ) (t : Plan) (P : Prepared p n w z t) (i x y : ℕ) (hi : i < 512)
    (ex : x ≡ get_or w (3 * i) 0 * 65536 + get_or w (3 * i + 1) 0 * 256 + get_or w (3 * i + 2) 0) (ey : y ≡ get_or z (3 * i) 0 * 65536 + get_or z (3 * i + 1) 0 * 256 + get_or z (3 * i + 2) 0) where
  fx : x ≡ number (bit_at w) (24 * i) 24
  fx = first_word p n w z t P i x ex

  fy : y ≡ number (interleaved_bit w n) (24 * i) 24
  fy = second_word p n w z t P i hi y ey

  -- six of 24 bits
  six_of_lem : (f : ℕ → ℕ) → ((k : ℕ) → f k < 2) → (z j : ℕ) → j < 4 → z ≡ number f (24 * i) 24 → z / 2 ^ (18 - 6 * j) % 64 ≡ number f (24 * i + 6 * j) 6
  six_of_lem f bit z j h e =
      let m : 6 * j + 6 + (18 - 6 * j) ≡ 24 = omega arith in
      ap (λ (v : ℕ). v / 2 ^ (18 - 6 * j) % 64) e
      ∙ ap (λ (v : ℕ). v % 64) (subst (λ (k : ℕ). number f (24 * i) k / 2 ^ (18 - 6 * j) ≡ number f (24 * i) (6 * j + 6)) m (first_run f bit (24 * i) (6 * j + 6) (18 - 6 * j)))
      ∙ second_run f bit (24 * i) (6 * j) 6

  pub sixes : (j : ℕ) → j < 4 → 24 * i + 6 * j + 6 ≤ n → (x / 2 ^ (18 - 6 * j) % 64 ≡ number (bit_at w) (6 * (4 * i + j)) 6) × (y / 2 ^ (18 - 6 * j) % 64 ≡ number (second w n) (6 * (4 * i + j)) 6)
  sixes j h l =
      let e : 24 * i + 6 * j ≡ 6 * (4 * i + j) = omega arith in (
        six_of_lem (bit_at w) (bit_lt w) x j h fx ∙ ap (λ (v : ℕ). number (bit_at w) v 6) e,
        six_of_lem (interleaved_bit w n) (interleaved_lt w n) y j h fy ∙ second_run_is w n (24 * i + 6 * j) 6 l ∙ ap (λ (v : ℕ). number (second w n) v 6) e,
      )

  pub last_six : 24 * i + 24 ≤ n → (x % 64 ≡ number (bit_at w) (6 * (4 * i + 3)) 6) × (y % 64 ≡ number (second w n) (6 * (4 * i + 3)) 6)
  last_six l =
      let s = sixes 3 (omega arith) (omega arith) in
      (ap (λ (v : ℕ). v % 64) (whole x) ∙ s.0, ap (λ (v : ℕ). v % 64) (whole y) ∙ s.1)
    where
      whole : (v : ℕ) → v ≡ v / 1
      whole v = omega arith

pub second_length : (p n : ℕ) (w z : List ℕ) (t : Plan) → Prepared p n w z t → length z ≡ 1536
unfolding interleaved
second_length p n w z t P = ap length P.second ∙ packed_length (interleaved_bit w n) 1536
