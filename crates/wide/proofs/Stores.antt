-- Laws of puts: a whole number of 32 bits into an empty sink, and two puts as one.
-- Assumes nothing.
use Prim.Native.Nat.{ℕ, suc, ◌+◌, ◌*◌, ◌/◌, ◌%◌, ◌^◌, ◌≤◌, ◌<◌}
use mathlib.Core.Path.{◌≡◌, refl, sym, ap, ◌∙◌}
use mathlib.Core.List.{List, [], ◌∷◌, ◌++◌}
use native.Mathlib.Omega.{arith}
use borrow.Rule.Slice.PartMut.{put_mid}
use Rattle.std.proofs.lemmas.Slice.{put_mid-paste}
use lib.ListN.{length, take, drop}
use lib.Seq.{sets-eq}
use lib.Pow.{high, low}
use Rattle.ground.specs.Outcome.{Is}
use Rattle.bits.specs.Lists.{bits, pack}
use Rattle.bits.specs.Places.{number}
use Rattle.bits.proofs.Numbers.{pack_32}
use Rattle.bits.proofs.Places.{number_append, number_lt}
use Rattle.wide.specs.Wide.{stored, widened, wider}
use Rattle.wide.specs.Held.{place_of, Put}
use Rattle.wide.specs.declared.Wide.{Wide}
use Rattle.wide.proofs.Widens.{wider_whole}

-- the low 32 bits of a number in four bytes
abbrev pub four_bytes : ℕ → List ℕ
four_bytes x = x / 16777216 % 256 ∷ x / 65536 % 256 ∷ x / 256 % 256 ∷ x % 256 ∷ []

-- the bytes of the low 32 bits alone
pub low_bytes : (x : ℕ) → four_bytes (x % 4294967296) ≡ four_bytes x
low_bytes x = same (omega arith) (omega arith) (omega arith) (omega arith)
  where
    same : {a b c d a' b' c' d' : ℕ} → a ≡ a' → b ≡ b' → c ≡ c' → d ≡ d' → ◌≡◌ {A = List ℕ} (a ∷ b ∷ c ∷ d ∷ []) (a' ∷ b' ∷ c' ∷ d' ∷ [])
    same e f g h = cc

-- four stores, one behind the other
stored_bytes : (l : List ℕ) (i x : ℕ) → i + 4 ≤ length l → stored l i x ≡ take i l ++ four_bytes x ++ drop (i + 4) l
unfolding stored
stored_bytes l i x h =
    let e1 : i + 1 ≡ suc i = omega arith in
    let e2 : i + 2 ≡ suc (suc i) = omega arith in
    let e3 : i + 3 ≡ suc (suc (suc i)) = omega arith in
    rw (e1, e2, e3) (sets-eq (four_bytes x) l i h)

-- four bytes copied to their place
pub stored_at_once : (l b : List ℕ) (i k x : ℕ) → i + 4 ≤ length l → k ≡ 4 → b ≡ four_bytes x → put_mid i k l b ≡ stored l i x
stored_at_once l b i k x h ek eb = put_mid-paste i k l b (four_bytes x) 4 eb (sym ek) refl ∙ sym (stored_bytes l i x h)

pub stored_is : (l : List ℕ) (i x : ℕ) → i + 4 ≤ length l → stored l i x ≡ take i l ++ pack 4 (bits 32 x) ++ drop (i + 4) l
stored_is l i x h = stored_bytes l i x h ∙ ap (λ (b : List ℕ). take i l ++ b ++ drop (i + 4) l) (sym (pack_32 x))

-- a sink in which nothing waits
abbrev pub empty : ℕ → Wide
empty at = record { acc = 0; used = 0; at = at }

-- 32 bits into it are four bytes
pub put_four : (out : List ℕ) (at v : ℕ) (r : Wide) (m : List ℕ) → at + 4 ≤ length out → v < 4294967296 → Is (wider out (empty at) v 32) r m
    → m ≡ take at out ++ pack 4 (bits 32 v) ++ drop (at + 4) out
put_four out at v r m h l o =
    let e : v ≡ widened (empty at) v 32 = omega arith in
    let c = wider_whole out (empty at) v 32 (omega arith) (omega arith) (omega arith) v e in
    let one : v / 2 ^ 0 ≡ v = omega arith in
    o.memory ∙ sym c.memory ∙ ap (stored out at) one ∙ stored_is out at v h

-- two puts are one of both numbers
pub puts_join : (v a k b n : ℕ) (out : List ℕ) (s : Wide) (m : List ℕ) (h : Wide) (m' : List ℕ) (r : Wide) → a ≡ v / 2 ^ n → b ≡ v % 2 ^ n
    → Put a k out s m h → Put b n m h m' r → Put v (k + n) out s m' r
puts_join v a k b n out s m h m' r ea eb p q = record {
  room = q.room;
  moved = omega (arith, p.moved, q.moved);
  step = q.step ∙ p.step;
  len = q.len ∙ p.len;
  behind = λ j l. q.behind j l ∙ p.behind j (omega (arith, p.moved, q.moved, p.room, q.room, l));
  keeps = λ f bit held e.
      let x : ℕ = number f (place_of s) k in
      let y : ℕ = number f (place_of s + k) n in
      let t : y < 2 ^ n = number_lt f bit (place_of s + k) n in
      let j : v ≡ x * 2 ^ n + y = e ∙ number_append f (place_of s) k n in
      let u : a ≡ x = ea ∙ ap (λ (z : ℕ). z / 2 ^ n) j ∙ high x n t in
      let w : b ≡ y = eb ∙ ap (λ (z : ℕ). z % 2 ^ n) j ∙ low x n t in
      q.keeps f bit (p.keeps f bit held u) (w ∙ ap (λ (z : ℕ). number f z n) (sym p.moved));
}
