-- `pipe::write` meets its contract. Assumes nothing.
use Prim.Native.Nat.{ℕ}
use mathlib.Core.Path.{◌∙◌}
use mathlib.Core.List.{List}
use native.Mathlib.Omega.{arith}
use lib.ListN.{get_or}
use mir.Syntax.{w8}
use mir.Val.{Fits}
use Rattle.std.proofs.lemmas.Result.{err_from_is_err_and}
use Rattle.ground.proofs.Refusals.{number_not_0}
use Rattle.bits.specs.Lists.{Below}
use Rattle.bits.proofs.Places.{field_lt}
use Rattle.bits.proofs.Below.{below_of}
use Rattle.pipe.proofs.Stepping.{width_is, width_small, profile_refused, faults_are, few_units, found, way_is, ring_is, call_is, refused}
use Rattle.pipe.proofs.write.Goals as goal

-- that the codewords are bytes
bytes : (l : List ℕ) → ((i : ℕ) → Fits w8 (get_or l i 0)) → Below 256 l
bytes l h = below_of 256 l (λ i. omega (arith, h i))

pub returns-in_err-profile : goal.returns-in_err-profile
returns-in_err-profile c =
    let a = c.args in
    let p = err_from_is_err_and c.from_residual.result c.from_residual.ensures.1 in
    let some = number_not_0 _ in
    rw (p.1, p.2) (
      refused a.pipe.now a.frame a.codewords.now a.memory.now a.out.now _ (profile_refused a.pipe.now a.codewords.now a.memory.now a.out.now c.in_err-profile.ensures some) some,
      bytes a.codewords.now c.type_inv.codewords,
    )

pub overflow_cast-q : goal.overflow_cast-q
overflow_cast-q c = let l = c.args.pipe.now in omega (arith, width_is l c.pipe_at-q.result c.pipe_at-q.ensures, width_small l)

pub returns-in_err-look : goal.returns-in_err-look
returns-in_err-look c =
    let a = c.args in
    let p = err_from_is_err_and c.from_residual-in_err-look.result c.from_residual-in_err-look.ensures.1 in
    let found = c.in_err-look.ensures ∙ faults_are a.pipe.now a.codewords.now a.memory.now a.out.now c.in_ok-profile.ensures c.pipe_at-q.ensures in
    rw (p.1, p.2) (refused a.pipe.now a.frame a.codewords.now a.memory.now a.out.now _ found (number_not_0 _), bytes a.codewords.now c.type_inv.codewords)

pub nonzero_div-slots : goal.nonzero_div-slots
nonzero_div-slots c =
    let a = c.args in
    (found a.pipe.now a.frame a.codewords.now a.memory.now a.out.now c.in_ok-profile.ensures c.pipe_at-q.ensures c.in_ok-look.ensures c.units-units.ensures).some

pub take-requires : goal.take-requires
take-requires c =
    let a = c.args in
    (found a.pipe.now a.frame a.codewords.now a.memory.now a.out.now c.in_ok-profile.ensures c.pipe_at-q.ensures c.in_ok-look.ensures c.units-units.ensures).takes

pub overflow_cast-way : goal.overflow_cast-way
overflow_cast-way c = omega (arith, c.field.ensures, field_lt c.args.pipe.now 25 1 (omega arith))

pub overflow_cast-way-2 : goal.overflow_cast-way-2
overflow_cast-way-2 c =
    let a = c.args in
    omega (arith, (found a.pipe.now a.frame a.codewords.now a.memory.now a.out.now c.in_ok-profile.ensures c.pipe_at-q.ensures c.in_ok-look.ensures c.units-units.ensures).few)

pub overflow_mul-way : goal.overflow_mul-way
overflow_mul-way c = omega (arith, c.units-units.ensures, few_units c.pipe_at-q.result.pattern)

pub returns : goal.returns
returns c =
    let a = c.args in
    let h = found a.pipe.now a.frame a.codewords.now a.memory.now a.out.now c.in_ok-profile.ensures c.pipe_at-q.ensures c.in_ok-look.ensures c.units-units.ensures in
    let way = way_is a.pipe.now a.frame a.codewords.now a.memory.now a.out.now h.fits c.in_ok-profile.ensures c.pipe_at-q.ensures c.units-units.ensures c.field.result c.field.ensures in
    let ring = ring_is a.pipe.now a.frame a.codewords.now a.memory.now a.out.now h.fits c.in_ok-profile.ensures c.pipe_at-q.ensures c.units-units.ensures _ c.take.ensures in
    (call_is a.pipe.now a.frame a.codewords.now a.memory.now a.out.now h.fits h.none _ _ _ way ring c.disperse.ensures, bytes a.codewords.now c.type_inv.codewords)
