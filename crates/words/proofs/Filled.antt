-- What is put of a number, of a sign and of a text with numbers.
-- Assumes nothing.
use Prim.Native.Nat.{ℕ, ◌+◌, ◌/◌, ◌%◌, ◌≤◌, ◌<◌}
use Rattle.std.specs.Option.{option_copied, unwrap_or}
use Rattle.std.specs.Slice.Iter.{iter_rest, iter_steps}
use Rattle.std.proofs.Common.{Iter, Option, Some, None}
use denote.Bor.{Bor}
use mathlib.Core.Path.{◌≡◌, refl, sym, ap, ◌∙◌, subst}
use mathlib.Core.List.{List, [], ◌∷◌, ◌++◌, append-nil, append_assoc}
use native.Mathlib.Numerals.{add-one}
use native.Mathlib.Omega.{arith}
use borrow.Author.Tests.{eq-eqb, ne_eqb}
use lib.ListN.{length, get_or, drop, drop_of_length-le}
use lib.Seq.{drop-cons}
use Rattle.ground.specs.Outcome.{Is}
use Rattle.ground.proofs.Choice.{choose_true, choose_false}
use Rattle.words.specs.Words.{decimal, spelled, taken, filled, put}
use Rattle.words.proofs.Puts.{put_none, put_same, put_more}
use Rattle.words.proofs.Decimal.{decimal_one, decimal_more}

-- ---- a number: its one digit, or the digits of its tenth and its last
pub number_one : (o : List ℕ) (at v : ℕ) {r : ℕ} {o' : List ℕ} → v < 10 → Is (put o at ((48 + v) ∷ [])) r o' → Is (put o at (decimal v)) r o'
number_one o at v h p = put_same o at (sym (decimal_one v h)) p

pub number_more : (o : List ℕ) (at v : ℕ) {r r' : ℕ} {o' o'' : List ℕ} → 10 ≤ v → Is (put o at (decimal (v / 10))) r o' → Is (put o' r ((48 + v % 10) ∷ [])) r' o''
    → Is (put o at (decimal v)) r' o''
number_more o at v h p q = put_same o at (sym (decimal_more v h)) (put_more o at (decimal (v / 10)) ((48 + v % 10) ∷ []) p q)

-- ---- the next number, 0 past the last, and those behind it
none_left : (ns : List ℕ) → length ns ≡ 0 → (0 ≡ get_or ns 0 0) × (ns ≡ drop 1 ns)
none_left [] e = (refl, refl)
none_left (n ∷ ns) e = absurd (omega arith)

pub next_number : (s t : Iter ℕ) (r : Option (Bor ℕ)) → iter_steps s r t
    → (unwrap_or (option_copied r) 0 ≡ get_or (iter_rest s) 0 0) × (iter_rest t ≡ drop 1 (iter_rest s))
next_number s t None h = let n = none_left (iter_rest s) h.0 in (n.0, ap iter_rest h.1 ∙ n.1)
next_number s t (Some x) h = rw h (refl, refl)

-- ---- the loop: after i signs, with the numbers that are left
pub record Passed (o : List ℕ) (at : ℕ) (text ns new : List ℕ) (to : ℕ) (rest : List ℕ) (i : ℕ) : Type 0 where
  pub done : List ℕ
  pub so_far : Is (put o at done) to new
  pub left : filled text ns ≡ done ++ filled (drop i text) rest

pub passed_none : (o : List ℕ) (at : ℕ) (text ns : List ℕ) → Passed o at text ns o at ns 0
passed_none o at text ns = record { done = []; so_far = put_none o at; left = refl }

-- a sign more
filled_at : (text rest : List ℕ) (i : ℕ) → i < length text
    → filled (drop i text) rest ≡ spelled (get_or text i 0) (get_or rest 0 0) ++ filled (drop (i + 1) text) (drop (taken (get_or text i 0)) rest)
unfolding filled
filled_at text rest i h =
    let c : ℕ = get_or text i 0 in
    ap (λ (t : List ℕ). filled t rest) (drop-cons text i 0 h ∙ ap (λ (k : ℕ). c ∷ drop k text) (sym (add-one i)))

passed_more : {o : List ℕ} {at : ℕ} {text ns new new' rest : List ℕ} {to i to' v k : ℕ} → Passed o at text ns new to rest i → i < length text
    → v ≡ get_or rest 0 0 → k ≡ taken (get_or text i 0) → Is (put new to (spelled (get_or text i 0) v)) to' new' → Passed o at text ns new' to' (drop k rest) (i + 1)
passed_more {o} {at} {text} {ns} {new} {new'} {rest} {to} {i} {to'} {v} {k} p h e f q =
    let c : ℕ = get_or text i 0 in
    let next : List ℕ = spelled c (get_or rest 0 0) in
    let more : List ℕ = filled (drop (i + 1) text) (drop k rest) in
    let g : filled (drop i text) rest ≡ next ++ more = filled_at text rest i h ∙ ap (λ (x : ℕ). next ++ filled (drop (i + 1) text) (drop x rest)) (sym f) in
    let t : Is (put o at (p.done ++ next)) to' new' = put_more o at p.done next p.so_far (subst (λ (x : ℕ). Is (put new to (spelled c x)) to' new') e q) in
    record {
      done = p.done ++ next;
      so_far = t;
      left = p.left ∙ ap (λ (x : List ℕ). p.done ++ x) g ∙ sym (append_assoc p.done next more);
    }

-- a number, where the sign is #, and else the sign itself
pub passed_number : {o : List ℕ} {at : ℕ} {text ns new new' rest : List ℕ} {to i to' v : ℕ} → Passed o at text ns new to rest i → i < length text
    → get_or text i 0 ≡ 35 → v ≡ get_or rest 0 0 → Is (put new to (decimal v)) to' new' → Passed o at text ns new' to' (drop 1 rest) (i + 1)
passed_number {new = new} {to = to} {v = v} p h c e q =
    let s = eq-eqb _ 35 c in
    passed_more p h e (sym (choose_true 1 0 s)) (put_same new to (sym (choose_true (decimal v) _ s)) q)

pub passed_self : {o : List ℕ} {at : ℕ} {text ns new new' rest : List ℕ} {to i to' : ℕ} → Passed o at text ns new to rest i → i < length text
    → (get_or text i 0 ≡ 35 → ⊥) → Is (put new to (get_or text i 0 ∷ [])) to' new' → Passed o at text ns new' to' rest (i + 1)
passed_self {new = new} {rest = rest} {to = to} p h c q =
    let s = ne_eqb _ 35 c in
    passed_more p h refl (sym (choose_false 1 0 s)) (put_same new to (sym (choose_false (decimal (get_or rest 0 0)) _ s)) q)

-- all signs
pub passed_all : {o : List ℕ} {at : ℕ} {text ns new rest : List ℕ} {to i : ℕ} → Passed o at text ns new to rest i → length text ≤ i → Is (put o at (filled text ns)) to new
unfolding filled
passed_all {o} {at} {text} {ns} {new} {rest} {to} {i} p h =
    let e : filled text ns ≡ p.done = p.left ∙ ap (λ (t : List ℕ). p.done ++ filled t rest) (drop_of_length-le text h) ∙ append-nil p.done in
    put_same o at (sym e) p.so_far
