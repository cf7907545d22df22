-- Laws of text put into a buffer: one piece behind another, and what has room from the start is the front.
-- Assumes nothing.
use Prim.Native.Nat.{ℕ, ◌+◌, ◌-◌, ◌≤◌, ◌<◌}
use mathlib.Core.Path.{◌≡◌, refl, sym, ap, ap₂, ◌∙◌, subst}
use mathlib.Core.List.{List, [], ◌∷◌, ◌++◌, append-nil, append_assoc}
use native.Mathlib.Nat.{add-zero, zero-add}
use native.Mathlib.Numerals.{add-one}
use native.Mathlib.Decide.{dec_lt}
use native.Mathlib.Omega.{arith}
use lib.ListN.{length, take, drop, set, length-append, length-drop, take-append-drop}
use lib.Seq.{take_all, take-nil, take_at, drop_at, drop-drop, length-take-le, set_split, take-append-le, take-append-add}
use Rattle.ground.specs.Outcome.{Is}
use Rattle.words.specs.Words.{laid, put}

-- ---- laid
laid_none : (o : List ℕ) (at : ℕ) → Is (laid o at []) at o
laid_none o at = record {
  answer = sym (add-zero at);
  memory = sym (ap₂ (λ (x : List ℕ) (k : ℕ). x ++ drop k o) (append-nil (take at o)) (add-zero at) ∙ take-append-drop at o);
}

-- a piece behind a piece, and the buffer's length
module _ (o : List ℕ) (at : ℕ) (x : List ℕ) (h : at + length x ≤ length o) {r : ℕ} {o' : List ℕ} (p : Is (laid o at x) r o') where
  abbrev a : List ℕ
  a = take at o ++ x

  l : length a ≡ r
  l = length-append (take at o) x ∙ ap (λ (k : ℕ). k + length x) (length-take-le at o (omega arith)) ∙ sym p.answer

  m : o' ≡ a ++ drop r o
  m = p.memory ∙ ap (λ (k : ℕ). a ++ drop k o) (sym p.answer)

  laid_long : length o' ≡ length o
  laid_long = ap length m ∙ length-append a (drop r o) ∙ omega (arith, l, length-drop r o, p.answer)

  laid_more : (y : List ℕ) {r' : ℕ} {o'' : List ℕ} → Is (laid o' r y) r' o'' → Is (laid o at (x ++ y)) r' o''
  laid_more y q =
      let n : length (x ++ y) ≡ length x + length y = length-append x y in
      let t : take r o' ≡ a = ap (take r) m ∙ take_at a (drop r o) r l in
      let d : drop (r + length y) o' ≡ drop (r + length y) o =
      sym (drop-drop (length y) r o') ∙ ap (λ (z : List ℕ). drop (length y) (drop r z)) m
      ∙ ap (drop (length y)) (drop_at a (drop r o) r l) ∙ drop-drop (length y) r o in
      let e : r + length y ≡ at + length (x ++ y) = omega (arith, p.answer, n) in
      record {
        answer = q.answer ∙ e;
        memory =
            q.memory ∙ ap₂ (λ (u v : List ℕ). u ++ y ++ v) t (d ∙ ap (λ (k : ℕ). drop k o) e)
            ∙ ap (λ (u : List ℕ). u ++ drop (at + length (x ++ y)) o) (append_assoc (take at o) x y);
      }

-- ---- put
pub put_none : (o : List ℕ) (at : ℕ) → Is (put o at []) at o
unfolding put
put_none o at = subst (λ (x : List ℕ). Is (laid o at x) at o) (sym (take-nil (length o - at))) (laid_none o at)

-- the same text
pub put_same : (o : List ℕ) (at : ℕ) {x y : List ℕ} → x ≡ y → {r : ℕ} {o' : List ℕ} → Is (put o at x) r o' → Is (put o at y) r o'
put_same o at e {r} {o'} p = subst (λ (z : List ℕ). Is (put o at z) r o') e p

-- from the end on nothing is put
pub put_past : (o : List ℕ) (at : ℕ) (x : List ℕ) → length o ≤ at → Is (put o at x) at o
unfolding put
put_past o at x h = let z : length o - at ≡ 0 = omega arith in subst (λ (k : ℕ). Is (laid o at (take k x)) at o) (sym z) (laid_none o at)

-- one byte
pub put_one : (o : List ℕ) (at b : ℕ) → at < length o → Is (put o at (b ∷ [])) (at + 1) (set o at b)
unfolding put
put_one o at b h =
    subst (λ (x : List ℕ). Is (laid o at x) (at + 1) (set o at b)) (sym (take_all (length o - at) (b ∷ []) (omega arith)))
    (record {
      answer = refl;
      memory =
          set_split o at b h ∙ ap (λ (k : ℕ). take at o ++ b ∷ drop k o) (sym (add-one at))
          ∙ sym (append_assoc (take at o) (b ∷ []) (drop (at + 1) o));
    })

-- where x has room, y gets what is left; where it has not, y has none
both_fit : (x y : List ℕ) (n m : ℕ) → n ≡ length (take n x) + m → take n (x ++ y) ≡ take n x ++ take m y
both_fit x y n m e =
    elim (dec_lt (length x) n) [
      | yes h ↦ (
          let w : take n x ≡ x = take_all n x (omega arith) in
          let k : n ≡ length x + m = e ∙ ap (λ (z : List ℕ). length z + m) w in
          ap (λ (i : ℕ). take i (x ++ y)) k ∙ take-append-add x y m ∙ ap (λ (z : List ℕ). z ++ take m y) (sym w))
      | no h ↦ (
          let k : m ≡ 0 = omega (arith, e, length-take-le n x (omega arith)) in
          take-append-le n x y (omega arith) ∙ sym (append-nil (take n x)) ∙ ap (λ (i : ℕ). take n x ++ take i y) (sym k))
    ]

take_most : (n : ℕ) (x : List ℕ) → length (take n x) ≤ n
take_most n x =
    elim (dec_lt (length x) n) [
      | yes h ↦ omega (arith, ap length (take_all n x (omega arith)))
      | no h ↦ omega (arith, length-take-le n x (omega arith))
    ]

-- the buffer keeps its length
pub put_long : (o : List ℕ) (at : ℕ) (x : List ℕ) {r : ℕ} {o' : List ℕ} → Is (put o at x) r o' → length o' ≡ length o
unfolding put
put_long o at x {r} {o'} p =
    elim (dec_lt (length o) at) [
      | yes h ↦ (let f : Is (put o at x) at o = put_past o at x (omega arith) in ap length (p.memory ∙ sym f.memory))
      | no h ↦ (
          let n : ℕ = length o - at in
          let b : length (take n x) ≤ n = take_most n x in
          laid_long o at (take n x) (omega arith) p)
    ]

-- a piece behind a piece
pub put_more : (o : List ℕ) (at : ℕ) (x y : List ℕ) {r r' : ℕ} {o' o'' : List ℕ} → Is (put o at x) r o' → Is (put o' r y) r' o'' → Is (put o at (x ++ y)) r' o''
unfolding put
put_more o at x y {r} {r'} {o'} {o''} p q =
    elim (dec_lt (length o) at) [
      | yes h ↦ (
          let f : Is (put o at x) at o = put_past o at x (omega arith) in
          let e : o' ≡ o = p.memory ∙ sym f.memory in
          let g : r ≡ at = p.answer ∙ sym f.answer in
          let s : Is (put o at y) r' o'' = subst (λ (k : ℕ). Is (put o k y) r' o'') g (subst (λ (u : List ℕ). Is (put u r y) r' o'') e q) in
          let t : Is (put o at y) at o = put_past o at y (omega arith) in
          let u : Is (put o at (x ++ y)) at o = put_past o at (x ++ y) (omega arith) in
          record { answer = s.answer ∙ sym t.answer ∙ u.answer; memory = s.memory ∙ sym t.memory ∙ u.memory })
      | no h ↦ (
          let n : ℕ = length o - at in
          let b : length (take n x) ≤ n = take_most n x in
          let w : length o' ≡ length o = put_long o at x p in
          let e : n ≡ length (take n x) + (length o' - r) = omega (arith, p.answer) in
          subst (λ (z : List ℕ). Is (laid o at z) r' o'') (sym (both_fit x y n (length o' - r) e)) (laid_more o at (take n x) (omega arith) p (take (length o' - r) y) q))
    ]

-- where there is room from the start, the text is the front
pub put_front : (o x : List ℕ) → length x ≤ length o → {r : ℕ} {o' : List ℕ} → Is (put o 0 x) r o' → (r ≡ length x) × (o' ≡ x ++ drop (length x) o)
unfolding put
put_front o x h {r} {o'} p =
    let q = subst (λ (z : List ℕ). Is (laid o 0 z) r o') (take_all (length o - 0) x (omega arith)) p in
    (q.answer ∙ zero-add (length x), q.memory ∙ ap (λ (k : ℕ). x ++ drop k o) (zero-add (length x)))
