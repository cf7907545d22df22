-- `interleaver::gather::Pairs::put_rows` meets its contract. Assumes nothing.
use Prim.Native.Nat.{ℕ, ◌+◌, ◌*◌, ◌^◌, ◌<◌}
use mathlib.Core.Path.{◌≡◌, ap, ◌∙◌, subst}
use native.Mathlib.Nat.{add_assoc}
use native.Mathlib.Omega.{arith}
use Rattle.order.specs.Order.{parameter}
use Rattle.wide.specs.Held.{Put}
use Rattle.interleaver.specs.Inside.{half_of, short_at, row_value, row_width, Gathering}
use Rattle.interleaver.proofs.Gathering.{sized}
use Rattle.interleaver.proofs.Sinking.{block_is, listed_at, row_in, row_lt, row_room, gathering_more}
use Rattle.interleaver.proofs.gather.Pairs.put_rows.Goals as goal

pub put_row-t-requires : goal.put_row-t-requires
put_row-t-requires c =
    let p = c.args.self.now in
    let l = c.loop-i in
    let b = block_is p.n p.block in
    let j : ℕ = c.args.k * half_of p.n + l.i in
    let h : l.i < half_of p.n = omega arith in
    let most : j < 2 ^ parameter p.n = row_in p.n b c.args.k l.i c.requires.0 h in
    let same : c.args.k * c.half-half.result ≡ c.args.k * half_of p.n = ap (λ (x : ℕ). c.args.k * x) c.half-half.ensures.0 in (
      omega (arith, same, most, (sized p.n b).halves, (sized p.n b).most),
      l.invariant.place.room,
      row_lt p.n p.d.now p.paired (j + 1) c.from.result (c.from.ensures ∙ listed_at p.n p.d.now c.args.rows.now (half_of p.n) l.i c.args.k c.requires.1 h c.requires.0),
      row_room p.n b l.t j l.invariant.place most,
    )

pub loop-i-preserved : goal.loop-i-preserved
loop-i-preserved c =
    let p = c.args.self.now in
    let l = c.loop-i in
    let b = block_is p.n p.block in
    let r = c.put_row-t in
    let k : ℕ = c.args.k in
    let h : l.i < half_of p.n = omega arith in
    let put = subst (λ (j : ℕ). Put (row_value (short_at p.n (k * j + l.i + 1)) c.from.result) (row_width (short_at p.n (k * j + l.i + 1))) l.out l.t r.new.out r.result) c.half-half.ensures.0 r.ensures in
    subst (Gathering p.n p.d.now r.new.out r.result) (add_assoc (k * half_of p.n) l.i 1)
    (gathering_more p.n b p.d.now p.paired l.out l.t (k * half_of p.n + l.i) c.from.result r.new.out r.result l.invariant (row_in p.n b k l.i c.requires.0 h)
    (c.from.ensures ∙ listed_at p.n p.d.now c.args.rows.now (half_of p.n) l.i k c.requires.1 h c.requires.0) put)
