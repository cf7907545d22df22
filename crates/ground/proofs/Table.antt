-- Laws of tables: an entry by its place, and a rule at each entry from one computed test.
-- Assumes nothing.
use mathlib.Core.Path.{◌≡◌, refl, sym, ap, ap₂, ◌∙◌, subst}
use mathlib.Core.Bool.{Bool, true}
use mathlib.Core.List.{List, [], ◌∷◌, ◌++◌, map}
use Prim.Native.Nat.{ℕ, zero, suc, ◌+◌, ◌-◌, ◌≤◌, ◌<◌}
use native.Mathlib.Nat.{add-zero, zero-add, add-suc, suc-add, sub-zero, suc-sub-suc, not-suc-le-zero}
use native.Mathlib.Decide.{dec_lt}
use native.Mathlib.Omega.{arith}
use borrow.Author.Tests.{eq-eqb}
use lib.Dec.{T, eqb, eqb→eq}
use lib.ListN.{length, get_or, take, drop}
use lib.Seq.{ext_get_or}
use Rattle.ground.specs.Table.{tab, all_below, same}
use Rattle.ground.proofs.Choice.{both_left, both_right}

pub length_tab : {A : Type 0} (f : ℕ → A) (i n : ℕ) → length (tab f i n) ≡ n
unfolding tab
length_tab f i zero = refl
length_tab f i (suc n) = ap suc (length_tab f (suc i) n)

pub get_or_tab : {A : Type 0} (f : ℕ → A) (d : A) (i n k : ℕ) → k < n → get_or (tab f i n) k d ≡ f (i + k)
unfolding tab
get_or_tab f d i zero k h = absurd (not-suc-le-zero h)
get_or_tab f d i (suc n) zero h = ap f (sym (add-zero i))
get_or_tab f d i (suc n) (suc k) h = get_or_tab f d (suc i) n k (omega arith) ∙ ap f (suc-add i k ∙ sym (add-suc i k))

-- one entry more, at the end
pub tab_snoc : {A : Type 0} (f : ℕ → A) (i n : ℕ) → tab f i (suc n) ≡ tab f i n ++ (f (i + n) ∷ [])
unfolding tab
tab_snoc f i zero = ap (λ k. f k ∷ []) (sym (add-zero i))
tab_snoc f i (suc n) = ap (λ l. f i ∷ l) (tab_snoc f (suc i) n ∙ ap (λ k. tab f (suc i) n ++ (f k ∷ [])) (suc-add i n ∙ sym (add-suc i n)))

-- two tables, one behind the other
pub tab_append : {A : Type 0} (f : ℕ → A) (i m n : ℕ) → tab f i (m + n) ≡ tab f i m ++ tab f (i + m) n
unfolding tab
tab_append f i zero n = ap₂ (tab f) (sym (add-zero i)) (zero-add n)
tab_append f i (suc m) n =
    ap (tab f i) (suc-add m n)
    ∙ ap (λ l. f i ∷ l) (tab_append f (suc i) m n ∙ ap (λ (k : ℕ). tab f (suc i) m ++ tab f k n) (suc-add i m ∙ sym (add-suc i m)))

pub map_tab : {A B : Type 0} (g : A → B) (f : ℕ → A) (i n : ℕ) → map g (tab f i n) ≡ tab (λ k. g (f k)) i n
unfolding tab
map_tab g f i zero = refl
map_tab g f i (suc n) = ap (λ l. g (f i) ∷ l) (map_tab g f (suc i) n)

-- a list of which every entry keeps the rule is the table of the rule
pub tab_ext : {A : Type 0} (f : ℕ → A) (d : A) (n : ℕ) (l : List A) → length l ≡ n → ((k : ℕ) → k < n → get_or l k d ≡ f k) → l ≡ tab f 0 n
tab_ext f d n l e h =
    ext_get_or d l (tab f 0 n) (e ∙ sym (length_tab f 0 n))
    (λ k p. h k (subst (λ (m : ℕ). k < m) e p) ∙ sym (get_or_tab f d 0 n k (subst (λ (m : ℕ). k < m) e p) ∙ ap f (zero-add k)))

-- tables of rules that agree at each entry are one table
pub tab_cong : {A : Type 0} (f g : ℕ → A) (i n : ℕ) → ((k : ℕ) → k < n → f (i + k) ≡ g (i + k)) → tab f i n ≡ tab g i n
unfolding tab
tab_cong f g i zero h = refl
tab_cong f g i (suc n) h =
    ap₂ (λ x l. x ∷ l) (rw add-zero at (h 0 (omega arith)))
    (tab_cong f g (suc i) n (λ k p. ap f (suc-add i k ∙ sym (add-suc i k)) ∙ h (suc k) (omega arith) ∙ sym (ap g (suc-add i k ∙ sym (add-suc i k)))))

-- what a computed test shows of all numbers below n holds at each of them
pub at_all : (t : ℕ → Bool) (n : ℕ) → T (all_below t n) → (k : ℕ) → k < n → T (t k)
at_all t zero p k h = absurd (not-suc-le-zero h)
at_all t (suc n) p k h =
    elim (dec_lt k n) [
      | yes l ↦ at_all t n (both_right (t n) (all_below t n) p) k l
      | no l ↦ subst (λ (m : ℕ). T (t m)) (omega arith) (both_left (t n) (all_below t n) p)
    ]

-- a table from a later place on, and parts of a table
shift : {A : Type 0} (f : ℕ → A) (i j n : ℕ) → tab f (i + j) n ≡ tab (λ k. f (i + k)) j n
unfolding tab
shift f i j zero = refl
shift f i j (suc n) = ap (λ l. f (i + j) ∷ l) (ap (λ (k : ℕ). tab f k n) (sym (add-suc i j)) ∙ shift f i (suc j) n)

pub tab_shift : {A : Type 0} (f : ℕ → A) (i n : ℕ) → tab (λ k. f (i + k)) 0 n ≡ tab f i n
tab_shift f i n = sym (shift f i 0 n) ∙ ap (λ (k : ℕ). tab f k n) (add-zero i)

pub drop_tab : {A : Type 0} (f : ℕ → A) (i n k : ℕ) → k ≤ n → drop k (tab f i n) ≡ tab f (i + k) (n - k)
unfolding tab
drop_tab f i n zero h = ap₂ (tab f) (sym (add-zero i)) (sym (sub-zero n))
drop_tab f i zero (suc k) h = absurd (not-suc-le-zero h)
drop_tab f i (suc n) (suc k) h = drop_tab f (suc i) n k (omega arith) ∙ ap₂ (tab f) (suc-add i k ∙ sym (add-suc i k)) (sym (suc-sub-suc n k))

pub take_tab : {A : Type 0} (f : ℕ → A) (i n k : ℕ) → k ≤ n → take k (tab f i n) ≡ tab f i k
unfolding tab
take_tab f i n zero h = refl
take_tab f i zero (suc k) h = absurd (not-suc-le-zero h)
take_tab f i (suc n) (suc k) h = ap (λ l. f i ∷ l) (take_tab f (suc i) n k (omega arith))

-- ---- two lists entry by entry
pub same_refl : (l : List ℕ) → same l l ≡ true
unfolding same
same_refl [] = refl
same_refl (x ∷ l) = simp (eq-eqb x x refl, same_refl l)

pub same_is : (l m : List ℕ) → T (same l m) → l ≡ m
unfolding same
same_is [] [] t = refl
same_is [] (y ∷ m) t = absurd t
same_is (x ∷ l) [] t = absurd t
same_is (x ∷ l) (y ∷ m) t =
    ap₂ (λ (a : ℕ) (n : List ℕ). a ∷ n) (eqb→eq x y (both_left (eqb x y) (same l m) t)) (same_is l m (both_right (eqb x y) (same l m) t))
