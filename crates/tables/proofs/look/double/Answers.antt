-- `tables::look::double` meets its contract. Assumes nothing.
use Prim.Native.Nat.{ℕ, ◌+◌, ◌<◌, ◌≤◌}
use mathlib.Core.Path.{◌≡◌, sym, ap, ◌∙◌}
use mathlib.Core.List.{List, ◌++◌, map}
use native.Mathlib.Numerals.{add-one}
use native.Mathlib.Omega.{arith}
use lib.Bits.{bit_xor}
use lib.ListN.{length, get_or, take, drop, set, get_or-append, length-append}
use lib.Seq.{length-take-le, paste, paste-suc}
use Rattle.std.proofs.lemmas.List.{get_or-map, length-map}
use Rattle.tables.proofs.look.double.Goals as goal

-- n entries, each with g added
abbrev behind : List ℕ → ℕ → ℕ → List ℕ
behind t n g = map (λ x. bit_xor x g) (take n t)

module _ (t : List ℕ) (n g : ℕ) (room : n + n ≤ length t) where
  size : length (behind t n g) ≡ n
  size = length-map (take n t) (λ x. bit_xor x g) ∙ length-take-le n t (omega arith)

  -- an entry that is read is one of the first n, which stand as before
  more : (y : ℕ) → y < n → set (paste t n (behind t n g) y) (n + y) (bit_xor (get_or (paste t n (behind t n g) y) y 0) g) ≡ paste t n (behind t n g) (y + 1)
  more y l =
      let s : List ℕ = behind t n g in
      let front : length (take n t) ≡ n = length-take-le n t (omega arith) in
      let read : get_or (paste t n s y) y 0 ≡ get_or (take n t) y 0 =
      get_or-append (take n t ++ take y s) (drop (n + y) t) 0 y (omega (arith, length-append (take n t) (take y s), front))
      ∙ get_or-append (take n t) (take y s) 0 y (omega (arith, front)) in
      ap (λ (x : ℕ). set (paste t n s y) (n + y) x) (ap (λ (x : ℕ). bit_xor x g) read ∙ sym (get_or-map (λ x. bit_xor x g) (take n t) y 0 0 (omega (arith, front))))
      ∙ paste-suc t n s y 0 (omega arith) (omega (arith, size)) ∙ ap (paste t n s) (sym (add-one y))

pub loop-y-preserved : goal.loop-y-preserved
loop-y-preserved c =
    let a = c.args in
    let l = c.loop-y in
    ap (λ (t : List ℕ). set t (a.n + l.y) (bit_xor (get_or t l.y 0) a.g)) l.invariant ∙ more a.t.now a.n a.g (omega arith) l.y c.loop-y-test.true
