-- Laws of what the writer's stores leave: the payload filled up with zeros, null packets behind it, and the steps that lead to the word.
-- Assumes nothing.
use Prim.Native.Nat.{ℕ, zero, suc, ◌+◌, ◌-◌, ◌*◌, ◌≤◌, ◌<◌}
use mathlib.Core.Path.{◌≡◌, refl, sym, ap, ap₂, ◌∙◌}
use mathlib.Core.List.{List, ◌++◌, append-nil, append_assoc}
use native.Mathlib.Omega.{arith}
use borrow.Rule.Slice.PartMut.{put_mid, Post-is}
use lib.ListN.{length, take, drop, replicate, take-append-drop, length-append, length-drop}
use lib.Seq.{take_at, drop_at, paste, length-take-le}
use native.Mathlib.Nat.{zero-add}
use Rattle.ground.proofs.Copy.{paste_behind}
use Rattle.byte_runs.specs.Runs.{copied}
use Rattle.byte_runs.proofs.Runs.{copied_is, copied_all}
use Rattle.infoword.specs.Word.{filled}
use Rattle.encapsulation.specs.Writing.{repeated}
use Rattle.encapsulation.specs.Steps.{filled_up}

-- the payload, and zeros behind it, put over the first bytes of a word
pub filled_by : (p m zeros w : List ℕ) → length p ≤ 1532 → length w ≡ 1536 → m ≡ copied p w 0
    → zeros ≡ replicate (length (take (1532 - length p) (drop (length p) m))) 0
    → put_mid (length p) (1532 - length p) m zeros ≡ filled 1532 p ++ drop 1532 w
unfolding filled
filled_by p m zeros w h l e z =
    let n : ℕ = length p in
    let front : m ≡ p ++ drop n w = e ∙ copied_is p w 0 (omega arith) ∙ ap (λ (k : ℕ). p ++ drop k w) (zero-add n) in
    let behind : drop n (p ++ drop n w) ≡ drop n w = drop_at p (drop n w) n refl in
    let room : length (take (1532 - n) (drop n w)) ≡ 1532 - n = length-take-le (1532 - n) (drop n w) (rw length-drop (omega arith)) in
    let filling : zeros ≡ replicate (1532 - n) 0 =
    z ∙ ap (λ (y : List ℕ). replicate (length (take (1532 - n) (drop n y))) 0) front
    ∙ ap (λ (y : List ℕ). replicate (length (take (1532 - n) y)) 0) behind ∙ ap (λ (k : ℕ). replicate k 0) room in
    ap (λ (y : List ℕ). put_mid n (1532 - n) y zeros) front
    ∙ ap₂ (λ (y k : List ℕ). y ++ k) (take_at p (drop n w) n refl)
    (ap₂ (λ (y k : List ℕ). y ++ k) filling (ap (drop (1532 - n)) behind ∙ Post-is n 1532 w h))
    ∙ sym (append_assoc p (replicate (1532 - n) 0) (drop 1532 w))

-- one null packet more
repeated_more : (n : ℕ) (p : List ℕ) → repeated (n + 1) p ≡ repeated n p ++ p
unfolding repeated
repeated_more zero p = append-nil p
repeated_more (suc n) p =
    let e : suc n + 1 ≡ suc (n + 1) = omega arith in
    ap (λ (k : ℕ). repeated k p) e ∙ ap (λ (l : List ℕ). p ++ l) (repeated_more n p) ∙ sym (append_assoc p (repeated n p) p)

pub repeated_length : (n : ℕ) (p : List ℕ) → length p ≡ 188 → length (repeated n p) ≡ 188 * n
unfolding repeated
repeated_length zero p h = refl
repeated_length (suc n) p h = length-append p (repeated n p) ∙ omega (arith, repeated_length n p h)

-- the word after null packets in the places of packets count to k
pub record Filled (w null : List ℕ) (count k : ℕ) (m : List ℕ) : Type 0 where
  pub least : count ≤ k
  pub most : k ≤ 8
  pub is : m ≡ take (188 * count) w ++ repeated (k - count) null ++ drop (188 * k) w

module _ (w null : List ℕ) (count : ℕ) (room : length w ≡ 1536) (one : length null ≡ 188) where
  pub fill_none : count ≤ 8 → Filled w null count count w
  unfolding repeated
  fill_none h = record {
    least = omega arith;
    most = h;
    is = sym (ap (λ (n : ℕ). take (188 * count) w ++ repeated n null ++ drop (188 * count) w) none
        ∙ ap (λ (l : List ℕ). l ++ drop (188 * count) w) (append-nil (take (188 * count) w)) ∙ take-append-drop (188 * count) w);
  }
    where
      none : count - count ≡ 0
      none = omega arith

  front_length : (k : ℕ) → count ≤ k → k ≤ 8 → length (take (188 * count) w ++ repeated (k - count) null) ≡ 188 * k
  front_length k l h =
      let a : length (take (188 * count) w) ≡ 188 * count = length-take-le (188 * count) w (omega arith) in
      let b : length (repeated (k - count) null) ≡ 188 * (k - count) = repeated_length (k - count) null one in
      length-append (take (188 * count) w) (repeated (k - count) null) ∙ omega arith

  pub fill_more : (k : ℕ) (m m' : List ℕ) → k < 8 → Filled w null count k m → m' ≡ copied null m (188 * k) → Filled w null count (k + 1) m'
  fill_more k m m' h f e =
      let long : length m ≡ 1536 =
      ap length f.is ∙ length-append (take (188 * count) w ++ repeated (k - count) null) (drop (188 * k) w)
      ∙ omega (arith, front_length k f.least f.most, length-drop (188 * k) w) in
      let pasted : m' ≡ paste m (188 * k) null 188 = e ∙ sym (copied_all null m (188 * k) (omega arith) 188 (sym one)) in
      let n : k - count + 1 ≡ k + 1 - count = omega (arith, f.least) in
      let j : 188 * k + 188 ≡ 188 * (k + 1) = omega arith in
      let r : (take (188 * count) w ++ repeated (k - count) null) ++ null ≡ take (188 * count) w ++ repeated (k + 1 - count) null =
      append_assoc (take (188 * count) w) (repeated (k - count) null) null
      ∙ ap (λ (l : List ℕ). take (188 * count) w ++ l) (sym (repeated_more (k - count) null) ∙ ap (λ (i : ℕ). repeated i null) n) in
      record {
        least = omega (arith, f.least);
        most = omega arith;
        is =
            pasted ∙ ap (λ (l : List ℕ). paste l (188 * k) null 188) f.is
            ∙ paste_behind w (take (188 * count) w ++ repeated (k - count) null) null (188 * k) 188 (front_length k f.least f.most) one
            ∙ ap₂ (λ (l : List ℕ) (i : ℕ). l ++ drop i w) r j;
      }

  pub fill_all : (k : ℕ) (m : List ℕ) → 8 ≤ k → Filled w null count k m → m ≡ filled_up count null w
  unfolding filled_up
  fill_all k m h f =
      let e : k ≡ 8 = omega (arith, f.most) in
      f.is ∙ ap (λ (j : ℕ). take (188 * count) w ++ repeated (j - count) null ++ drop (188 * j) w) e
