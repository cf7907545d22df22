-- `placement::place` meets its contract. Assumes nothing.
use Rattle.std.proofs.lemmas.Result.{err_from_is_err_and}
use Rattle.ground.proofs.Refusals.{number_not_0}
use Rattle.placement.proofs.Accepting.{placeable_still, refused_unfit, refused_length, asked, wrote}
use Rattle.placement.proofs.place.Goals as goal

pub returns-in_err-unfit : goal.returns-in_err-unfit
returns-in_err-unfit c =
    let a = c.args in
    let p = err_from_is_err_and c.from_residual.result c.from_residual.ensures.1 in
    rw (p.1, p.2) (refused_unfit a.pattern a.values.now a.lane.now c.block_by-n.ensures c.in_err-unfit.ensures (number_not_0 _))

pub returns-then-values-code_length : goal.returns-then-values-code_length
returns-then-values-code_length c =
    let a = c.args in refused_length a.pattern a.values.now a.lane.now c.block_by-n.ensures c.in_ok-unfit.ensures c.code_length.ensures c.if-values-code_length.true

pub place_data-at-requires : goal.place_data-at-requires
place_data-at-requires c =
    let a = c.args in asked a.pattern a.values.now a.lane.now c.block_by-n.ensures c.in_ok-unfit.ensures c.code_length.ensures c.if-values-code_length.false

pub place_tail-requires : goal.place_tail-requires
place_tail-requires c =
    let a = c.args in
    let d = c.place_data-at.ensures in
    (placeable_still (asked a.pattern a.values.now a.lane.now c.block_by-n.ensures c.in_ok-unfit.ensures c.code_length.ensures c.if-values-code_length.false) d, d)

pub returns : goal.returns
returns c =
    let a = c.args in wrote a.pattern a.values.now a.lane.now c.block_by-n.ensures c.in_ok-unfit.ensures c.code_length.ensures c.if-values-code_length.false c.place_tail.ensures
