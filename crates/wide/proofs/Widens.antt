-- Laws of the wide sink: each case of bits that go in, and what it then holds.
-- Assumes nothing.
use Prim.Native.Nat.{ℕ, ◌+◌, ◌-◌, ◌*◌, ◌/◌, ◌%◌, ◌^◌, ◌≤◌, ◌<◌}
use mathlib.Core.Path.{◌≡◌, refl, sym, ap, ap₂, ◌∙◌, subst, subst₂}
use mathlib.Core.List.{List}
use native.Mathlib.Nat.{add-mul, mul_assoc}
use native.Mathlib.Decide.{dec_lt, ℕ_discrete}
use native.Mathlib.Omega.{arith}
use lib.ListN.{length, get_or, set, length-set}
use lib.Seq.{get_or-set_same, get_or-set_other}
use lib.Pow.{pow-add, pow_mono, high, low, split, field, mod-mod-pow, shl_exact}
use borrow.Author.Tests.{lt-ltb, le-ltb}
use Rattle.ground.specs.Outcome.{Is}
use Rattle.ground.proofs.Outcome.{gave}
use Rattle.ground.proofs.Choice.{choose_true, choose_false}
use Rattle.bits.specs.Places.{number}
use Rattle.wide.specs.Wide.{stored, widened, waiting, wider}
use Rattle.wide.specs.Held.{place_of, Held, Put}
use Rattle.wide.specs.declared.Wide.{Wide}
use Rattle.bits.proofs.Places.{number_append, number_lt}

-- ---- the four cases
module _ (out : List ℕ) (s : Wide) (v k : ℕ) where
  pub wider_many : 32 < k → Is (wider out s v k) s out
  unfolding wider
  wider_many h = gave (choose_true _ _ (lt-ltb 32 k h))

  pub wider_part : k ≤ 32 → waiting s k < 32 → (acc : ℕ) → acc ≡ widened s v k → Is (wider out s v k) (record { acc = acc; used = waiting s k; at = s.at }) out
  unfolding wider
  wider_part h l acc e =
      gave (choose_false _ _ (le-ltb 32 k h) ∙ choose_true _ _ (lt-ltb (waiting s k) 32 l)
      ∙ ap (λ (x : ℕ). record { answer = record { acc = x; used = waiting s k; at = s.at }; memory = out }) (sym e))

  pub wider_full : k ≤ 32 → 32 ≤ waiting s k → length out ≤ s.at + 3 → Is (wider out s v k) s out
  unfolding wider
  wider_full h l r = gave (choose_false _ _ (le-ltb 32 k h) ∙ choose_false _ _ (le-ltb (waiting s k) 32 l) ∙ choose_false _ _ (le-ltb (s.at + 3) (length out) r))

  pub wider_whole : k ≤ 32 → 32 ≤ waiting s k → s.at + 3 < length out → (acc : ℕ) → acc ≡ widened s v k
      → Is (wider out s v k) (record { acc = acc; used = waiting s k - 32; at = s.at + 4 }) (stored out s.at (acc / 2 ^ (waiting s k - 32)))
  unfolding wider
  wider_whole h l r acc e =
      gave (choose_false _ _ (le-ltb 32 k h) ∙ choose_false _ _ (le-ltb (waiting s k) 32 l) ∙ choose_true _ _ (lt-ltb (s.at + 3) (length out) r)
      ∙ ap (λ (x : ℕ). record { answer = record { acc = x; used = waiting s k - 32; at = s.at + 4 }; memory = stored out s.at (x / 2 ^ (waiting s k - 32)) }) (sym e))

-- ---- what the sink holds
module _ (f : ℕ → ℕ) (bit : (j : ℕ) → f j < 2) where
  -- k bits more behind the low `used` of a number
  pub behind : (i acc used v k : ℕ) → used ≤ 32 → v < 2 ^ k → acc % 2 ^ used ≡ number f i used → v ≡ number f (i + used) k
      → (acc % 4294967296 * 2 ^ k + v) % 2 ^ (used + k) ≡ number f i (used + k)
  behind i acc used v k hu hv ha ev =
      let A : ℕ = acc % 4294967296 in
      let w : 32 - used + used ≡ 32 = omega arith in
      let m : A % 2 ^ used ≡ acc % 2 ^ used = ap (λ (x : ℕ). acc % 2 ^ x % 2 ^ used) (sym w) ∙ mod-mod-pow acc (32 - used) used in
      let n : number f i (used + k) ≡ A % 2 ^ used * 2 ^ k + v = number_append f i used k ∙ ap₂ (λ (x y : ℕ). x * 2 ^ k + y) (sym (m ∙ ha)) (sym ev) in
      let a : A * 2 ^ k ≡ A / 2 ^ used * 2 ^ (used + k) + A % 2 ^ used * 2 ^ k =
      ap (λ (x : ℕ). x * 2 ^ k) (sym (split A used)) ∙ add-mul (A / 2 ^ used * 2 ^ used) (A % 2 ^ used) (2 ^ k)
      ∙ ap (λ (x : ℕ). x + A % 2 ^ used * 2 ^ k) (mul_assoc (A / 2 ^ used) (2 ^ used) (2 ^ k) ∙ ap (λ (x : ℕ). A / 2 ^ used * x) (sym (pow-add 2 used k))) in
      let e : A * 2 ^ k + v ≡ A / 2 ^ used * 2 ^ (used + k) + number f i (used + k) = omega (arith, a, n) in
      ap (λ (x : ℕ). x % 2 ^ (used + k)) e ∙ low (A / 2 ^ used) (used + k) (number_lt f bit i (used + k))

  -- the upper 32 of the low bits, and those that are left
  pub upper : (i acc left : ℕ) → acc % 2 ^ (32 + left) ≡ number f i (32 + left) → acc / 2 ^ left % 2 ^ 32 ≡ number f i 32
  upper i acc left h =
      sym (field acc 32 left) ∙ ap (λ (x : ℕ). x / 2 ^ left) (h ∙ number_append f i 32 left) ∙ high (number f i 32) left (number_lt f bit (i + 32) left)

  pub lower : (i acc left : ℕ) → acc % 2 ^ (32 + left) ≡ number f i (32 + left) → acc % 2 ^ left ≡ number f (i + 32) left
  lower i acc left h =
      sym (mod-mod-pow acc 32 left) ∙ ap (λ (x : ℕ). x % 2 ^ left) (h ∙ number_append f i 32 left) ∙ low (number f i 32) left (number_lt f bit (i + 32) left)

  -- the four bytes of 32 bits
  pub four : (i x : ℕ) → x % 2 ^ 32 ≡ number f i 32
      → (x / 16777216 % 256 ≡ number f i 8) × (x / 65536 % 256 ≡ number f (i + 8) 8) × (x / 256 % 256 ≡ number f (i + 16) 8) × (x % 256 ≡ number f (i + 24) 8)
  four i x h =
      let b0 : number f i 8 < 256 = number_lt f bit i 8 in
      let b1 : number f (i + 8) 8 < 256 = number_lt f bit (i + 8) 8 in
      let b2 : number f (i + 16) 8 < 256 = number_lt f bit (i + 16) 8 in
      let b3 : number f (i + 24) 8 < 256 = number_lt f bit (i + 24) 8 in
      let e0 : number f i 32 ≡ number f i 16 * 65536 + number f (i + 16) 16 = number_append f i 16 16 in
      let e1 : number f i 16 ≡ number f i 8 * 256 + number f (i + 8) 8 = number_append f i 8 8 in
      let e2 : number f (i + 16) 16 ≡ number f (i + 16) 8 * 256 + number f (i + 16 + 8) 8 = number_append f (i + 16) 8 8 in
      let e3 : number f (i + 16 + 8) 8 ≡ number f (i + 24) 8 = ap (λ (x : ℕ). number f x 8) (omega arith) in
      let r : number f (i + 16) 16 < 65536 = number_lt f bit (i + 16) 16 in
      let e : x % 4294967296 ≡ number f i 16 * 65536 + number f (i + 16) 16 = h ∙ e0 in
      let u : x / 65536 % 65536 ≡ number f i 16 = omega (arith, e, r) in
      let l : x % 65536 ≡ number f (i + 16) 16 = omega (arith, e, r) in
      let q : x / 16777216 ≡ x / 65536 / 256 = omega arith in
      let u' : x / 65536 % 65536 ≡ number f i 8 * 256 + number f (i + 8) 8 = u ∙ e1 in
      let l' : x % 65536 ≡ number f (i + 16) 8 * 256 + number f (i + 24) 8 = l ∙ e2 ∙ ap (λ (y : ℕ). number f (i + 16) 8 * 256 + y) e3 in (
        ap (λ (y : ℕ). y % 256) q ∙ bytes_high (x / 65536) (number f i 8) (number f (i + 8) 8) b0 b1 u',
        bytes_low (x / 65536) (number f i 8) (number f (i + 8) 8) b1 u',
        bytes_high x (number f (i + 16) 8) (number f (i + 24) 8) b2 b3 l',
        bytes_low x (number f (i + 16) 8) (number f (i + 24) 8) b3 l',
      )
    where
      bytes_high : (y a b : ℕ) → a < 256 → b < 256 → y % 65536 ≡ a * 256 + b → y / 256 % 256 ≡ a
      bytes_high y a b ha hb e = omega arith

      bytes_low : (y a b : ℕ) → b < 256 → y % 65536 ≡ a * 256 + b → y % 256 ≡ b
      bytes_low y a b hb e = omega arith

-- the number with room made for k bits, and k bits in it
pub shifted_is : (a k : ℕ) → k ≤ 32 → a % 4294967296 * 2 ^ k % 2 ^ 64 ≡ a % 4294967296 * 2 ^ k
shifted_is a k h = shl_exact {a = a % 4294967296} 32 k 64 (omega arith) (omega arith)

pub shifted_widened : (s : Wide) (v k : ℕ) → k ≤ 32 → s.acc % 4294967296 * 2 ^ k % 2 ^ 64 + v % 4294967296 ≡ widened s v k
shifted_widened s v k h = ap (λ (x : ℕ). x + v % 4294967296) (shifted_is s.acc k h)

module _ (v k : ℕ) (out : List ℕ) (s : Wide) (acc : ℕ) (hu : s.used < 32) (hk : k ≤ 32) (hv : v < 2 ^ k) (e : acc ≡ s.acc % 4294967296 * 2 ^ k + v) where
  -- the low bits with those behind them
  joined : (f : ℕ → ℕ) → ((j : ℕ) → f j < 2) → Held f out s → v ≡ number f (place_of s) k → acc % 2 ^ (s.used + k) ≡ number f (8 * s.at) (s.used + k)
  joined f bit h ev =
      ap (λ (x : ℕ). x % 2 ^ (s.used + k)) e ∙ behind f bit (8 * s.at) s.acc s.used v k (omega arith) hv h.part ev

  pub put_part : s.used + k < 32 → Put v k out s out (record { acc = acc; used = s.used + k; at = s.at })
  put_part l = record {
    room = l;
    moved = omega arith;
    step = refl;
    len = refl;
    behind = λ j l. refl;
    keeps = λ f bit h ev. record { bytes = h.bytes; part = joined f bit h ev };
  }

  pub put_whole : (left : ℕ) → left + 32 ≡ s.used + k → s.at + 4 ≤ length out → Put v k out s (stored out s.at (acc / 2 ^ left)) (record { acc = acc; used = left; at = s.at + 4 })
  unfolding stored
  put_whole left el room = record {
    room = omega arith;
    moved = omega arith;
    step = omega arith;
    len = length-set l3 (i + 3) x3 ∙ length-set l2 (i + 2) x2 ∙ length-set l1 (i + 1) x1 ∙ length-set out i x0;
    behind = λ j l.
        get_or-set_other l3 (i + 3) j x3 0 (omega arith) ∙ get_or-set_other l2 (i + 2) j x2 0 (omega arith)
        ∙ get_or-set_other l1 (i + 1) j x1 0 (omega arith) ∙ get_or-set_other out i j x0 0 (omega arith);
    keeps = λ f bit h ev. record {
      bytes = λ j hj. at_byte f bit h ev j hj;
      part = lower f bit (8 * s.at) acc left (whole f bit h ev) ∙ ap (λ (z : ℕ). number f z left) (omega arith);
    };
  }
    where
      i : ℕ
      i = s.at

      x : ℕ
      x = acc / 2 ^ left

      x0 : ℕ
      x0 = acc / 2 ^ left / 16777216 % 256

      x1 : ℕ
      x1 = acc / 2 ^ left / 65536 % 256

      x2 : ℕ
      x2 = acc / 2 ^ left / 256 % 256

      x3 : ℕ
      x3 = acc / 2 ^ left % 256

      l1 : List ℕ
      l1 = set out i x0

      l2 : List ℕ
      l2 = set l1 (i + 1) x1

      l3 : List ℕ
      l3 = set l2 (i + 2) x2

      whole : (f : ℕ → ℕ) → ((j : ℕ) → f j < 2) → Held f out s → v ≡ number f (place_of s) k → acc % 2 ^ (32 + left) ≡ number f (8 * s.at) (32 + left)
      whole f bit h ev =
          let w : s.used + k ≡ 32 + left = omega arith in
          subst (λ (z : ℕ). acc % 2 ^ z ≡ number f (8 * s.at) z) w (joined f bit h ev)

      at_byte : (f : ℕ → ℕ) → ((j : ℕ) → f j < 2) → Held f out s → v ≡ number f (place_of s) k → (j : ℕ) → j < s.at + 4 → get_or (set l3 (i + 3) x3) j 0 ≡ number f (8 * j) 8
      at_byte f bit h ev j hj =
          let b = four f bit (8 * s.at) x (upper f bit (8 * s.at) acc left (whole f bit h ev)) in
          let n1 : length l1 ≡ length out = length-set out i x0 in
          let n2 : length l2 ≡ length out = length-set l1 (i + 1) x1 ∙ n1 in
          let n3 : length l3 ≡ length out = length-set l2 (i + 2) x2 ∙ n2 in
          elim (ℕ_discrete j (i + 3)) [
            | yes e ↦ ap (λ (z : ℕ). get_or (set l3 (i + 3) x3) z 0) e ∙ get_or-set_same l3 (i + 3) x3 0 (omega (arith, n3, room)) ∙ b.3 ∙ ap (λ (z : ℕ). number f z 8) (omega arith)
            | no d3 ↦ get_or-set_other l3 (i + 3) j x3 0 (omega arith) ∙ elim (ℕ_discrete j (i + 2)) [
              | yes e ↦ ap (λ (z : ℕ). get_or (set l2 (i + 2) x2) z 0) e ∙ get_or-set_same l2 (i + 2) x2 0 (omega (arith, n2, room)) ∙ b.2 ∙ ap (λ (z : ℕ). number f z 8) (omega arith)
              | no d2 ↦ get_or-set_other l2 (i + 2) j x2 0 (omega arith) ∙ elim (ℕ_discrete j (i + 1)) [
                | yes e ↦ ap (λ (z : ℕ). get_or (set l1 (i + 1) x1) z 0) e ∙ get_or-set_same l1 (i + 1) x1 0 (omega (arith, n1, room)) ∙ b.1 ∙ ap (λ (z : ℕ). number f z 8) (omega arith)
                | no d1 ↦ get_or-set_other l1 (i + 1) j x1 0 (omega arith) ∙ elim (ℕ_discrete j i) [
                  | yes e ↦ ap (λ (z : ℕ). get_or (set out i x0) z 0) e ∙ get_or-set_same out i x0 0 (omega (arith, room)) ∙ b.0 ∙ ap (λ (z : ℕ). number f z 8) (omega arith)
                  | no d0 ↦ get_or-set_other out i j x0 0 (omega arith) ∙ h.bytes j (omega arith)
                ]
              ]
            ]
          ]

-- a put for which there is room
pub wide_put : (v k : ℕ) (out : List ℕ) (s r : Wide) (m : List ℕ) → s.used < 32 → k ≤ 32 → v < 2 ^ k → place_of s + k ≤ 8 * length out → Is (wider out s v k) r m → Put v k out s m r
wide_put v k out s r m hu hk hv room q =
    let w : waiting s k ≡ s.used + k = omega arith in
    let l : 2 ^ k ≤ 4294967296 = pow_mono {i = k} {j = 32} hk in
    let e : widened s v k ≡ s.acc % 4294967296 * 2 ^ k + v = ap (λ (x : ℕ). s.acc % 4294967296 * 2 ^ k + x) (omega arith) in
    elim (dec_lt (waiting s k) 32) [
      | yes h ↦ (
          let c = wider_part out s v k hk h (widened s v k) refl in
          let p = put_part v k out s (widened s v k) hu hk hv e (omega arith) in
          subst₂ (λ (y : List ℕ) (z : Wide). Put v k out s y z) (c.memory ∙ sym q.memory) (ap (λ (x : ℕ). record { acc = widened s v k; used = x; at = s.at }) (sym w) ∙ c.answer ∙ sym q.answer) p)
      | no h ↦ (
          let c = wider_whole out s v k hk (omega arith) (omega arith) (widened s v k) refl in
          let p = put_whole v k out s (widened s v k) hu hk hv e (waiting s k - 32) (omega arith) (omega arith) in
          subst₂ (λ (y : List ℕ) (z : Wide). Put v k out s y z) (c.memory ∙ sym q.memory) (c.answer ∙ sym q.answer) p)
    ]
