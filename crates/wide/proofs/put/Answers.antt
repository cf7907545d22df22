-- `wide::put` meets its contract. Assumes nothing.
use Prim.Native.Nat.{ℕ, ◌+◌, ◌-◌, ◌*◌, ◌/◌, ◌%◌, ◌^◌}
use mathlib.Core.Path.{◌≡◌, sym, ◌∙◌, subst}
use mathlib.Core.List.{List}
use native.Mathlib.Omega.{arith}
use Rattle.ground.specs.Outcome.{Is}
use Rattle.wide.specs.Wide.{wider}
use Rattle.wide.specs.declared.Wide.{Wide}
use Rattle.wide.proofs.Widens.{wider_many, wider_part, wider_full, wider_whole, shifted_widened}
use borrow.Author.Rules.{rules}
use Rattle.wide.proofs.Stores.{four_bytes, low_bytes, stored_at_once}
use Rattle.wide.proofs.put.Goals as goal

pub returns-then-k-gt32 : goal.returns-then-k-gt32
returns-then-k-gt32 c =
    let a = c.args in
    wider_many a.out.now a.s a.v a.k c.if-k-gt32.true

pub returns-then-used-lt32 : goal.returns-then-used-lt32
returns-then-used-lt32 c =
    let a = c.args in
    wider_part a.out.now a.s a.v a.k (search rules) (search rules) (a.s.acc % 4294967296 * 2 ^ a.k % 2 ^ 64 + a.v % 4294967296)
    (shifted_widened a.s a.v a.k (search rules))

pub returns-then-out-lt4 : goal.returns-then-out-lt4
returns-then-out-lt4 c =
    let a = c.args in
    wider_full a.out.now a.s a.v a.k (search rules) (search rules) (search rules)

pub returns : goal.returns
returns c =
    let a = c.args in
    let acc : ℕ = a.s.acc % 4294967296 * 2 ^ a.k % 2 ^ 64 + a.v % 4294967296 in
    let r : Wide = record { acc = acc; used = a.s.used % 32 + a.k - 32; at = a.s.at + 4 } in
    let x : ℕ = acc / 2 ^ r.used in
    let four : c.copy_from_slice.new.self ≡ four_bytes x = c.copy_from_slice.ensures.after ∙ c.to_be_bytes.ensures ∙ low_bytes x in
    subst (λ (m : List ℕ). Is (wider a.out.now a.s a.v a.k) r m) (sym (stored_at_once a.out.now _ a.s.at _ x (search rules) (omega arith) four))
    (wider_whole a.out.now a.s a.v a.k (search rules) (search rules) (search rules) acc (shifted_widened a.s a.v a.k (search rules)))
