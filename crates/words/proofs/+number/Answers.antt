-- The proof of the cycle of calls {number}. Assumes nothing.
use native.Mathlib.Omega.{arith}
use Rattle.words.proofs.Filled.{number_one, number_more}
use Rattle.words.proofs.+number.Goals as goal

pub returns-then-v-lt10 : goal.returns-then-v-lt10
returns-then-v-lt10 t c =
    let a = c.args in
    number_one a.out.now a.at a.v c.if-v-lt10.true c.byte.ensures

pub returns : goal.returns
returns t c =
    let a = c.args in
    number_more a.out.now a.at a.v (omega arith) c.number-to.ensures c.byte-2.ensures
