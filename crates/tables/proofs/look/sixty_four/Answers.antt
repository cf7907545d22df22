-- `tables::look::sixty_four` meets its contract. Assumes nothing.
use Prim.Native.Nat.{ℕ, ◌+◌, ◌*◌, ◌%◌, ◌^◌, ◌≤◌, ◌<◌}
use mathlib.Core.Path.{◌≡◌, sym, ap, ap₂, ◌∙◌}
use mathlib.Core.List.{List, ◌++◌, map}
use native.Mathlib.Nat.{one-mul, pow-suc}
use native.Mathlib.Numerals.{add-one}
use native.Mathlib.Omega.{arith}
use lib.Bits.{bit_xor}
use lib.Pow.{pow_mono}
use lib.ListN.{length, get_or, take, drop, length-set, length-append}
use lib.Seq.{take_at, take-suc-set, length-take-le}
use Rattle.std.proofs.lemmas.List.{length-map}
use Rattle.patterns.specs.Sent.{total}
use Rattle.tables.specs.Tables.{weighed, sums}
use Rattle.tables.proofs.look.sixty_four.Goals as goal

-- a power of two up to 32, as the code shifts to it
power : (b : ℕ) → b < 6 → (1 * 2 ^ b % 18446744073709551616 ≡ 2 ^ b) × (2 ^ b ≤ 32)
power b h =
    let l : 2 ^ b ≤ 32 = pow_mono {i = b} {j = 5} (omega arith) in
    (omega (arith, one-mul (2 ^ b), l), l)

-- twice as many entries
more : (t t' : List ℕ) (f : ℕ → ℕ) (n : ℕ) → n + n ≤ length t → t' ≡ take n t ++ map f (take n t) ++ drop (2 * n) t → take (n + n) t' ≡ take n t ++ map f (take n t)
more t t' f n room e =
    let front : length (take n t) ≡ n = length-take-le n t (omega arith) in
    ap (take (n + n)) e
    ∙ take_at (take n t ++ map f (take n t)) (drop (2 * n) t) (n + n) (length-append (take n t) (map f (take n t)) ∙ ap₂ ◌+◌ front (length-map (take n t) f ∙ front))

pub loop-b-init : goal.loop-b-init
unfolding sums
loop-b-init c = take-suc-set c.args.t.now 0 0 (omega arith)

pub loop-b-preserved : goal.loop-b-preserved
unfolding sums
loop-b-preserved c =
    let a = c.args in
    let l = c.loop-b in
    let g : ℕ → ℕ = λ b. total (weighed a.w.now (get_or a.alone.now b 0)) 36 in
    let n : ℕ = 2 ^ l.b in
    let p = power l.b c.loop-b-test.true in
    let f : ℕ → ℕ = λ x. bit_xor x c.weigh.result in
    let twice : 2 ^ (l.b + 1) ≡ n + n = ap (λ (k : ℕ). 2 ^ k) (add-one l.b) ∙ omega (arith, pow-suc 2 l.b) in
    let T : take (n + n) c.double.new.t ≡ take n l.t ++ map f (take n l.t) =
    more l.t c.double.new.t f n (omega (arith, p, length-set a.t.now 0 0)) (c.double.ensures ∙ ap (λ (m : ℕ). take m l.t ++ map f (take m l.t) ++ drop (2 * m) l.t) p.0) in
    ap (λ (k : ℕ). take k c.double.new.t) twice ∙ T ∙ ap₂ (λ (x : List ℕ) (y : ℕ). x ++ map (λ z. bit_xor z y) x) l.invariant c.weigh.ensures
    ∙ ap (sums g) (sym (add-one l.b))
