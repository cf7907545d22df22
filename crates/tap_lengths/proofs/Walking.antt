-- From tap to tap through the sections.
-- Assumes nothing.
use Prim.Native.Nat.{ℕ, zero, suc, ◌+◌, ◌-◌, ◌*◌, ◌≤◌, ◌<◌}
use mathlib.Core.Path.{◌≡◌, refl, sym, ap, ap₂, ◌∙◌, subst}
use mathlib.Core.List.{List, [], ◌∷◌}
use native.Mathlib.Nat.{suc-mul, zero-mul, add-zero, zero-add}
use native.Mathlib.Numerals.{add-one}
use native.Mathlib.Decide.{dec_lt, dec_le}
use native.Mathlib.Omega.{arith}
use borrow.Author.Tests.{lt-ltb, le-ltb, le-leb, lt-leb}
use lib.Dec.{ltb}
use lib.ListN.{length, get_or, drop, replicate}
use lib.Seq.{drop-cons, drop-length}
use Rattle.ground.specs.Choice.{choose}
use Rattle.ground.specs.Table.{tab}
use Rattle.ground.proofs.Choice.{choose_true, choose_false}
use Rattle.description.specs.Fields.{tap_diff, table19}
use Rattle.description.specs.Rules.{taps}
use Rattle.description.proofs.Rows.{row_at_lem}
use Rattle.views.specs.Rows.{row_at, rows_at}
use Rattle.views.proofs.Rows.{rows_length, rows_get}
use Rattle.tap_lengths.specs.declared.Tap.{Tap}
use Rattle.tap_lengths.specs.declared.Section.{Section}
use Rattle.tap_lengths.specs.Lengths.{length_after, intermed_len}
use Rattle.tap_lengths.specs.Sections.{sections_at, section_of, section_at}
use Rattle.tap_lengths.specs.Inside.{Narrow, within, over, onward_of}
use Rattle.tap_lengths.proofs.Sections.{section_row}

-- the lengths from a tap on
pub lengths_from : List (List ℕ) → Tap → ℕ → ℕ
lengths_from sections t m =
    choose (ltb m t.left) (t.len + m * t.diff) (length_after (t.len + (t.left - 1) * t.diff) (drop t.next sections) (m - t.left))

module _ (sections : List (List ℕ)) (t : Tap) where
  -- in its section
  pub from_here : (m : ℕ) → m < t.left → lengths_from sections t m ≡ t.len + m * t.diff
  unfolding lengths_from
  from_here m h = choose_true _ _ (lt-ltb m t.left h)

  -- behind it
  pub from_behind : (m : ℕ) → t.left ≤ m → lengths_from sections t m ≡ length_after (t.len + (t.left - 1) * t.diff) (drop t.next sections) (m - t.left)
  unfolding lengths_from
  from_behind m h = choose_false _ _ (le-ltb m t.left h)

-- ---- one tap on

-- in the section
module _ (sections : List (List ℕ)) (t : Tap) (h : 1 < t.left) where
  last_same : t.len + (t.left - 1) * t.diff ≡ t.len + t.diff + (t.left - 1 - 1) * t.diff
  last_same =
      let e : t.left - 1 ≡ suc (t.left - 1 - 1) = omega arith in
      let m : (t.left - 1) * t.diff ≡ (t.left - 1 - 1) * t.diff + t.diff = ap (λ (x : ℕ). x * t.diff) e ∙ suc-mul (t.left - 1 - 1) t.diff in
      omega arith

  pub from_within : (m : ℕ) → lengths_from sections t (m + 1) ≡ lengths_from sections (within t) m
  from_within m =
      elim (dec_lt m (t.left - 1)) [
        | yes l ↦ (
            let e : (m + 1) * t.diff ≡ m * t.diff + t.diff = ap (λ (x : ℕ). x * t.diff) (add-one m) ∙ suc-mul m t.diff in
            let a : t.len + (m + 1) * t.diff ≡ t.len + t.diff + m * t.diff = omega arith in
            from_here sections t (m + 1) (omega arith) ∙ a ∙ sym (from_here sections (within t) m l))
        | no l ↦ (
            let e : m + 1 - t.left ≡ m - (t.left - 1) = omega arith in
            from_behind sections t (m + 1) (omega arith)
            ∙ ap₂ (λ (x y : ℕ). length_after x (drop t.next sections) y) last_same e
            ∙ sym (from_behind sections (within t) m (omega arith)))
      ]

-- at its end
module _ (sections : List (List ℕ)) (t : Tap) (one : t.left ≡ 1) where
  pub from_end : (m : ℕ) → lengths_from sections t (m + 1) ≡ length_after t.len (drop t.next sections) m
  from_end m =
      let z : (t.left - 1) * t.diff ≡ 0 = ap (λ (x : ℕ). (x - 1) * t.diff) one ∙ zero-mul t.diff in
      let a : t.len + (t.left - 1) * t.diff ≡ t.len = omega arith in
      let b : m + 1 - t.left ≡ m = omega arith in
      from_behind sections t (m + 1) (omega arith) ∙ ap₂ (λ (x y : ℕ). length_after x (drop t.next sections) y) a b

  pub from_over : t.next < length sections → (m : ℕ) → lengths_from sections t (m + 1) ≡ lengths_from sections (over t (section_of (get_or sections t.next []))) m
  unfolding lengths_from section_of length_after
  from_over h m =
      from_end m
      ∙ ap (λ (l : List (List ℕ)). length_after t.len l m) (drop-cons sections t.next [] h)
      ∙ ap (λ (j : ℕ). length_after t.len (get_or sections t.next [] ∷ drop j sections) m) (sym (add-one t.next))

  pub from_last : t.next ≡ length sections → (m : ℕ) → lengths_from sections t (m + 1) ≡ lengths_from sections t m
  unfolding length_after
  from_last e m =
      let n : drop t.next sections ≡ [] = ap (λ (j : ℕ). drop j sections) e ∙ drop-length sections in
      let z : (t.left - 1) * t.diff ≡ 0 = ap (λ (x : ℕ). (x - 1) * t.diff) one ∙ zero-mul t.diff in
      let stays : lengths_from sections t (m + 1) ≡ t.len = from_end m ∙ ap (λ (l : List (List ℕ)). length_after t.len l m) n in
      stays
      ∙ sym (elim (dec_lt m t.left) [
        | yes h ↦ (
            let w : m * t.diff ≡ 0 = ap (λ (x : ℕ). x * t.diff) (omega arith) ∙ zero-mul t.diff in
            from_here sections t m h ∙ omega arith)
        | no h ↦ from_behind sections t m (omega arith) ∙ ap (λ (l : List (List ℕ)). length_after (t.len + (t.left - 1) * t.diff) l (m - t.left)) n ∙ omega arith
      ])

-- ---- after k taps

pub record Walks (sections : List (List ℕ)) (k : ℕ) (t : Tap) : Type 0 where
  pub some : 0 < t.left
  pub from : (m : ℕ) → intermed_len sections (k + m) ≡ lengths_from sections t m
  pub upto : t.next ≤ length sections
  pub short : t.len ≤ 7 * k + 31 * t.next
  pub near : t.next ≤ k + 1
  pub flat : t.diff ≤ 7

module _ (sections : List (List ℕ)) (k : ℕ) (t : Tap) (h : Walks sections k t) where
  pub walks_len : t.len ≡ intermed_len sections k
  walks_len =
      let z : 0 * t.diff ≡ 0 = zero-mul t.diff in
      let e : t.len ≡ t.len + 0 * t.diff = omega arith in
      e ∙ sym (from_here sections t 0 h.some) ∙ sym (h.from 0) ∙ ap (intermed_len sections) (add-zero k)

  pub walks_narrow : k ≤ 32 → Narrow t
  walks_narrow l = record { short = omega (arith, h.short, h.near); near = omega (arith, h.near) }

  moved : (r : Tap) → ((m : ℕ) → lengths_from sections t (m + 1) ≡ lengths_from sections r m) → (m : ℕ) → intermed_len sections (k + 1 + m) ≡ lengths_from sections r m
  moved r e m = let a : k + 1 + m ≡ k + (m + 1) = omega arith in ap (intermed_len sections) a ∙ h.from (m + 1) ∙ e m

  walks_within : 1 < t.left → Walks sections (k + 1) (within t)
  walks_within l = record {
    some = omega arith;
    from = moved (within t) (from_within sections t l);
    upto = h.upto;
    short = omega (arith, h.short, h.flat);
    near = omega (arith, h.near);
    flat = h.flat;
  }

  walks_same : t.left ≤ 1 → length sections ≤ t.next → Walks sections (k + 1) t
  walks_same l n = record {
    some = h.some;
    from = moved t (from_last sections t (omega (arith, h.some)) (omega (arith, h.upto)));
    upto = h.upto;
    short = omega (arith, h.short);
    near = omega (arith, h.near);
    flat = h.flat;
  }

  walks_over : t.left ≤ 1 → t.next < length sections → (s : Section) → s ≡ section_of (get_or sections t.next []) → 0 < s.taps → s.diff ≤ 7 → s.gap ≤ 31 → Walks sections (k + 1) (over t s)
  walks_over l n s e a b c = record {
    some = a;
    from = moved (over t s) (λ m. from_over sections t (omega (arith, h.some)) n m ∙ ap (λ (x : Section). lengths_from sections (over t x) m) (sym e));
    upto = omega arith;
    short = omega (arith, h.short);
    near = omega (arith, h.near);
    flat = b;
  }

-- ---- over the sections of a pipe as it is lent

pub sections_length : (n : ℕ) (l : List ℕ) → length (sections_at n l) ≡ n
sections_length n l = rows_length table19 16 l 52 n

pub section_at_lem : (n : ℕ) (l : List ℕ) (i : ℕ) → i < n → section_at l i ≡ section_of (get_or (sections_at n l) i [])
unfolding section_at
section_at_lem n l i h = ap section_of (sym (rows_get table19 16 l 52 n i h))

section_small : (l : List ℕ) (i : ℕ) → (0 < (section_at l i).taps) × ((section_at l i).taps ≤ 32) × ((section_at l i).diff ≤ 7) × ((section_at l i).gap ≤ 31)
unfolding section_at section_of
section_small l i =
    let r = section_row l (52 + 16 * i) in
    let a : get_or (row_at table19 l (52 + 16 * i)) 0 0 < 16 = row_at_lem table19 (row_at table19 l (52 + 16 * i)) 0 r (omega arith) in
    let b : get_or (row_at table19 l (52 + 16 * i)) 1 0 < 8 = row_at_lem table19 (row_at table19 l (52 + 16 * i)) 1 r (omega arith) in
    let c : get_or (row_at table19 l (52 + 16 * i)) 2 0 < 32 = row_at_lem table19 (row_at table19 l (52 + 16 * i)) 2 r (omega arith) in
    (omega arith, omega arith, omega arith, omega arith)

pub onward_walks : (l : List ℕ) (n k : ℕ) (t : Tap) → Walks (sections_at n l) k t → Walks (sections_at n l) (k + 1) (onward_of l n t)
unfolding onward_of
onward_walks l n k t h =
    let same : length (sections_at n l) ≡ n = sections_length n l in
    elim (dec_lt 1 t.left) [
      | yes a ↦ subst (Walks (sections_at n l) (k + 1)) (sym (choose_true _ _ (lt-ltb 1 t.left a))) (walks_within (sections_at n l) k t h a)
      | no a ↦ elim (dec_le n t.next) [
        | yes b ↦ subst (Walks (sections_at n l) (k + 1)) (sym (choose_false _ _ (le-ltb 1 t.left (omega arith)) ∙ choose_true _ _ (le-leb n t.next b)))
            (walks_same (sections_at n l) k t h (omega arith) (omega arith))
        | no b ↦ subst (Walks (sections_at n l) (k + 1)) (sym (choose_false _ _ (le-ltb 1 t.left (omega arith)) ∙ choose_false _ _ (lt-leb n t.next (omega arith))))
            (walks_over (sections_at n l) k t h (omega arith) (omega arith) (section_at l t.next) (section_at_lem n l t.next (omega arith))
            (section_small l t.next).0 (section_small l t.next).2 (section_small l t.next).3)
      ]
    ]

-- the first tap
abbrev pub first_tap : Section → Tap
first_tap s = record { len = 0; left = s.taps; diff = s.diff; next = 1 }

first_from : (s : List ℕ) (r : List (List ℕ)) (m : ℕ) → intermed_len (s ∷ r) (0 + m) ≡ lengths_from (s ∷ r) (first_tap (section_of s)) m
unfolding intermed_len lengths_from section_of
first_from s r m =
    ap (λ (x : ℕ). choose (ltb x (taps s)) (x * tap_diff s) (length_after ((taps s - 1) * tap_diff s) r (x - taps s))) (zero-add m)
    ∙ ap₂ (λ (x y : ℕ). choose (ltb m (taps s)) x (length_after y r (m - taps s))) (sym (zero-add (m * tap_diff s))) (sym (zero-add ((taps s - 1) * tap_diff s)))

pub first_walks : (l : List ℕ) (n : ℕ) → 0 < n → Walks (sections_at n l) 0 (first_tap (section_at l 0))
first_walks l n p =
    let all : List (List ℕ) = sections_at n l in
    let s : List ℕ = get_or all 0 [] in
    let same : length all ≡ n = sections_length n l in
    let e : all ≡ s ∷ drop 1 all = drop-cons all 0 [] (omega arith) in
    record {
      some = (section_small l 0).0;
      from = λ m.
          subst (λ (x : List (List ℕ)). intermed_len x (0 + m) ≡ lengths_from x (first_tap (section_of s)) m) (sym e) (first_from s (drop 1 all) m)
          ∙ ap (λ (x : Section). lengths_from all (first_tap x) m) (sym (section_at_lem n l 0 p));
      upto = omega arith;
      short = omega arith;
      near = omega arith;
      flat = (section_small l 0).2;
    }

-- no section, no length
pub none_lengths : (l : List ℕ) → replicate 32 0 ≡ tab (intermed_len (sections_at 0 l)) 0 32
unfolding intermed_len rows_at tab
none_lengths l = refl

-- ---- any 32 taps stay short

reach : (l : List ℕ) (n : ℕ) → 0 < n → (k : ℕ) → (t : Tap) × Walks (sections_at n l) k t
reach l n p zero = (first_tap (section_at l 0), first_walks l n p)
reach l n p (suc k) =
    let w = reach l n p k in
    (onward_of l n w.0, subst (λ (j : ℕ). Walks (sections_at n l) j (onward_of l n w.0)) (add-one k) (onward_walks l n k w.0 w.1))

pub short_lengths : (l : List ℕ) (n k : ℕ) → k < 32 → intermed_len (sections_at n l) k ≤ 4095
unfolding intermed_len rows_at tab
short_lengths l zero k h = omega arith
short_lengths l (suc n) k h =
    let w = reach l (suc n) (omega arith) k in
    let e : w.0.len ≡ intermed_len (sections_at (suc n) l) k = walks_len (sections_at (suc n) l) k w.0 w.1 in
    subst (λ (x : ℕ). x ≤ 4095) e (omega (arith, w.1.short, w.1.near))
