-- Encoder 2 reads each bit of a block exactly once: for both sizes each address below N comes once in the order, and no other.
-- Assumes nothing.
use Prim.Native.Nat.{ℕ, zero, suc, ◌+◌, ◌^◌, ◌≤◌, ◌<◌}
use mathlib.Core.Path.{◌≡◌, refl, sym, ap, ap₂, ◌∙◌, subst}
use mathlib.Core.Bool.{Bool}
use mathlib.Core.Logic.{⊎_elim}
use mathlib.Core.List.{[], ◌++◌}
use native.Mathlib.Nat.{not-suc-le-zero}
use native.Mathlib.Numerals.{add-one}
use native.Mathlib.Decide.{dec_lt}
use native.Mathlib.Omega.{arith}
use lib.Dec.{ltb, lit≤}
use lib.ListN.{length, get_or, get_or-append}
use lib.Seq.{get_or-append_seam}
use borrow.Author.Tests.{lt-ltb}
use Rattle.order.specs.Order.{parameter, address, keep_if, kept, order}
use Rattle.order.specs.Once.{Block, Once, Permutes}
use Rattle.order.proofs.Kept.{count, length_kept, count_mono, count_keep, count_drop, count_le, count9, count5}
use Rattle.order.proofs.Inverse.{counter, Inverts, inverts9, inverts5}

module _ (f : ℕ → ℕ) (N : ℕ) where
  -- the address of a counter value stands behind those kept before it
  pub kept_at : (c d : ℕ) → c < d → f c < N → get_or (kept f N d) (count f N c) 0 ≡ f c
  unfolding kept
  kept_at c zero h k = absurd (not-suc-le-zero h)
  kept_at c (suc d) h k =
      elim (dec_lt c d) [
        | yes l ↦ get_or-append (kept f N d) (keep_if (ltb (f d) N) (f d)) 0 (count f N c)
            (omega (arith, length_kept f N d, count_mono f N (c + 1) d (omega arith), count_keep f N c k)) ∙ kept_at c d l k
        | no l ↦ last (omega arith)
      ]
    where
      last : d ≡ c → get_or (kept f N d ++ keep_if (ltb (f d) N) (f d)) (count f N c) 0 ≡ f c
      last e =
          ap (λ (x : ℕ). get_or (kept f N x ++ keep_if (ltb (f x) N) (f x)) (count f N c) 0) e
          ∙ ap₂ (λ (x : ℕ) (t : Bool). get_or (kept f N c ++ keep_if t (f c)) x 0) (sym (length_kept f N c)) (lt-ltb (f c) N k)
          ∙ get_or-append_seam (kept f N c) (f c) [] 0

  -- the counter value that an entry comes from
  record From (d j : ℕ) : Type 0 where
    value : ℕ
    early : value < d
    small : f value < N
    here : count f N value ≡ j

  kept_from : (d j : ℕ) → j < count f N d → From d j
  kept_from zero j l = absurd (omega (arith, count_le f N 0))
  kept_from (suc d) j l =
      elim (dec_lt j (count f N d)) [
        | yes m ↦ (let r = kept_from d j m in record { value = r.value; early = omega (arith, r.early); small = r.small; here = r.here })
        | no m ↦ elim (dec_lt (f d) N) [
          | yes k ↦ record { value = d; early = omega arith; small = k; here = omega (arith, more, count_keep f N d k) }
          | no k ↦ absurd (omega (arith, more, count_drop f N d (omega arith)))
        ]
      ]
    where
      more : count f N (d + 1) ≡ count f N (suc d)
      more = ap (count f N) (add-one d)

  -- where every address below N comes from one counter value below d alone, each comes once in what is kept
  kept_once : (d : ℕ) (back : ℕ → ℕ) → ((a : ℕ) → a < N → (back a < d) × (f (back a) ≡ a)) → ((c : ℕ) → c < d → back (f c) ≡ c)
      → (a : ℕ) → a < N → Once (kept f N d) a
  kept_once d back forth there a h =
      let c : ℕ = back a in
      let e : f c ≡ a = (forth a h).1 in
      let k : f c < N = subst (λ (x : ℕ). x < N) (sym e) h in
      record {
        place = count f N c;
        inside = omega (arith, length_kept f N d, count_keep f N c k, count_mono f N (c + 1) d (omega (arith, (forth a h).0)));
        stands = kept_at c d (forth a h).0 k ∙ e;
        only = λ j l q.
            let r = kept_from d j (subst (λ (x : ℕ). j < x) (length_kept f N d) l) in
            let g : f r.value ≡ a = sym (kept_at r.value d r.early r.small) ∙ ap (λ (x : ℕ). get_or (kept f N d) x 0) r.here ∙ q in
            sym r.here ∙ ap (count f N) (sym (there r.value r.early) ∙ ap back g);
      }

  -- what is kept is below N
  kept_below : (d j : ℕ) → j < length (kept f N d) → get_or (kept f N d) j 0 < N
  kept_below d j l =
      let r = kept_from d j (subst (λ (x : ℕ). j < x) (length_kept f N d) l) in
      subst (λ (x : ℕ). x < N) (sym (kept_at r.value d r.early r.small) ∙ ap (λ (x : ℕ). get_or (kept f N d) x 0) r.here) r.small

-- the kept addresses of a block whose counter values the rule inverts
permutes : (n N d : ℕ) → d ≡ 2 ^ (n + 5) → N ≤ d → count (address n) N d ≡ N → ((x : ℕ) → x < d → Inverts n x) → Permutes N (kept (address n) N d)
permutes n N d e h full inverse = record {
  size = length_kept (address n) N d ∙ full;
  below = λ i l. kept_below (address n) N d i (omega (arith, length_kept (address n) N d));
  once = kept_once (address n) N d (counter n)
      (λ a l.
      let v = inverse a (omega arith) in
      (subst (λ (x : ℕ). counter n a < x) (sym e) v.inside, v.forth))
      (λ c l. (inverse c l).back);
}

pub order_permutes : (N : ℕ) → Block N → Permutes N (order N)
unfolding order parameter
order_permutes N =
    ⊎_elim
    (λ e. subst (λ (M : ℕ). Permutes M (order M)) (sym e) (permutes 9 12282 16384 refl (lit≤ tt) count9 inverts9))
    (λ e. subst (λ (M : ℕ). Permutes M (order M)) (sym e) (permutes 5 762 1024 refl (lit≤ tt) count5 inverts5))
