-- `parts_put::put49` meets its contract: 17 bits, and 32 bits. Assumes nothing.
use Prim.Native.Nat.{◌+◌, ◌*◌, ◌/◌, ◌%◌, ◌≤◌}
use mathlib.Core.Path.{refl}
use native.Mathlib.Omega.{arith}
use lib.ListN.{length}
use Rattle.wide.specs.Held.{place_of}
use Rattle.wide.proofs.Widens.{wide_put}
use Rattle.wide.proofs.Stores.{puts_join}
use Rattle.parts_put.proofs.put49.Goals as goal

pub returns : goal.returns
returns c =
    let v = c.args.v in
    let first = wide_put (v / 4294967296) 17 c.args.out.now c.args.s c.put-high.result c.put-high.new.out c.requires.0 (omega arith) (omega (arith, c.requires.1)) (omega (arith, c.requires.2)) c.put-high.ensures in
    let room : place_of c.put-high.result + 32 ≤ 8 * length c.put-high.new.out = rw (first.moved, first.len) (omega (arith, c.requires.2)) in
    let second = wide_put (v % 4294967296) 32 c.put-high.new.out c.put-high.result c.put.result c.put.new.out first.room (omega arith) (omega arith) room c.put.ensures in
    puts_join v (v / 4294967296) 17 (v % 4294967296) 32 c.args.out.now c.args.s c.put-high.new.out c.put-high.result c.put.new.out c.put.result refl refl first second
