-- `interleaver::gather::Pairs::gather` meets its contract. Assumes nothing.
use Prim.Native.Nat.{ℕ, ◌+◌, ◌*◌}
use mathlib.Core.Path.{◌≡◌, sym, subst}
use mathlib.Core.List.{List}
use native.Mathlib.Omega.{arith}
use Rattle.wide.specs.declared.Wide.{Wide}
use Rattle.wide.proofs.Widens.{wide_put}
use Rattle.interleaver.specs.Inside.{half_of, Gathering}
use Rattle.interleaver.proofs.Sinking.{block_is, block_most, place_whole, gathering_none, gathered}
use Rattle.interleaver.proofs.gather.Pairs.gather.Goals as goal

pub put_rows-half-requires : goal.put_rows-half-requires
put_rows-half-requires c =
    let p = c.args.self.now in
    let s : Wide = record { acc = 0; used = 0; at = 0 } in
    let start = subst (λ (out : List ℕ). Gathering p.n p.d.now out s 0) (sym c.requires) (gathering_none p.n (block_is p.n p.block) p.d.now p.paired) in
    let none = subst (Gathering p.n p.d.now c.args.out.now s) {x = 0} {y = 0 * half_of p.n} (omega arith) start in
    (omega arith, c.fill.ensures, subst (λ (s : Wide). Gathering p.n p.d.now c.args.out.now s (0 * half_of p.n)) (sym c.new.ensures) none)

pub put_rows-whole-requires : goal.put_rows-whole-requires
put_rows-whole-requires c =
    let p = c.args.self.now in
    let h = c.put_rows-half in
    let e : 0 * half_of p.n + half_of p.n ≡ 1 * half_of p.n = omega arith in
    (omega arith, c.fill.ensures, subst (Gathering p.n p.d.now h.new.out h.result) e h.ensures)

pub returns : goal.returns
returns c =
    let p = c.args.self.now in
    let b = block_is p.n p.block in
    let y = c.put_rows-whole in
    let e : 1 * half_of p.n + half_of p.n ≡ half_of p.n + half_of p.n = omega arith in
    let g = subst (Gathering p.n p.d.now y.new.out y.result) e y.ensures in
    gathered p.n b p.d.now y.new.out y.result c.put.new.out c.put.result p.paired g
    (wide_put 0 6 y.new.out y.result c.put.result c.put.new.out g.place.room (omega arith) (omega arith) (omega (arith, place_whole p.n b y.result g.place, block_most p.n b, g.len)) c.put.ensures)
