-- What is reported of words of stream types 0 and 1 has nothing of types 2 and 3.
-- Assumes nothing.
use Prim.Native.Nat.{ℕ, ◌-◌}
use mathlib.Core.Bool.{false}
use mathlib.Core.Path.{◌≡◌, ap, ◌∙◌}
use native.Mathlib.Omega.{arith}
use borrow.Author.Tests.{ne_eqb}
use lib.Dec.{eqb}
use Rattle.ground.specs.Choice.{choose}
use Rattle.ground.proofs.Choice.{choose_false}
use Rattle.bits.specs.Places.{field_at}
use Rattle.parity.specs.Part.{held_of}
use Rattle.infoword.specs.Suffix.{kind_of, has_parity, rfu_of, address_of}
use Rattle.infoword.proofs.Closing.{has_not, covered_short, covered_run}
use Rattle.infoword.proofs.Ending.{lead_short, rfu_of_other}
use Rattle.fields.specs.Report.{holding_of, header_of}
use Rattle.fields.specs.Claims.{TypesZeroAndOne}

pub types_0_and_1 : TypesZeroAndOne
unfolding header_of holding_of
types_0_and_1 w h =
    let m : kind_of w ≡ 3 → ⊥ = λ e. omega arith in
    let n : has_parity (kind_of w) ≡ false = has_not (kind_of w) (λ e. omega arith) m in
    let r : rfu_of w ≡ field_at w 12256 4 = rfu_of_other w m ∙ ap (λ (x : ℕ). field_at w (12260 - x) x) (lead_short (kind_of w) n) in
    let p : holding_of w ≡ 0 = choose_false (held_of w) 0 n in
    let a : choose (eqb (kind_of w) 3) (address_of w) 0 ≡ 0 = choose_false (address_of w) 0 (ne_eqb (kind_of w) 3 m) in
    record { covers = covered_run w 18 (covered_short (kind_of w) n); reports = cc (r, p, a) }
