-- `marked_row::propagate_and_mark` is propagate_row_of, read whole or by the row's steps; where it moved bounds, it remarks what read
-- them. Assumes nothing.
use Rattle.row_index.proofs.IndexLoops.{row-end}
use Rattle.matrix_view.proofs.RowInLaws.{row_in, valid-row}
use Rattle.marked_row.proofs.MarkedRowLaws.{broken, left_by, steps-in, tightened, unmoved, propagated-empty, propagated-moved, propagated-remarks, propagated-unmoved}
use Rattle.marked_row.proofs.propagate_and_mark.Goals as goal

pub propagate_row_read-requires-clause-fact : goal.propagate_row_read-requires-clause-fact
propagate_row_read-requires-clause-fact g c =
    let v = c.requires.fact.valid in
    (row_in v c.args.r c.requires.r_lt_m, valid-row v c.args.r c.requires.r_lt_m v.box)

pub propagate_row_read-requires-clause-by_steps : goal.propagate_row_read-requires-clause-by_steps
propagate_row_read-requires-clause-by_steps g c =
    λ e. steps-in c.args.r (row-end c.requires.fact.watched.index.rows c.args.r c.requires.r_lt_m).0 (c.requires.by_steps e)

pub remark_row_read-requires-clause-by_steps : goal.remark_row_read-requires-clause-by_steps
remark_row_read-requires-clause-by_steps g c =
    let Q = c.propagate_row_read.new.bounds in
    let heard = c.propagate_row_read.ensures in
    λ e. propagated-remarks c.requires.fact c.args.r c.requires.r_lt_m (left_by _ Q heard) (tightened _ Q heard c.in-Tightened.is) (c.requires.by_steps e)

pub returns-in-Infeasible-clause-watched : goal.returns-in-Infeasible-clause-watched
returns-in-Infeasible-clause-watched g c =
    let Q = c.propagate_row_read.new.bounds in
    let heard = c.propagate_row_read.ensures in
    propagated-empty c.requires.fact c.args.r c.requires.r_lt_m (left_by _ Q heard) (broken _ Q heard c.in-Infeasible.is)

pub returns-in-Tightened-clause-watched : goal.returns-in-Tightened-clause-watched
returns-in-Tightened-clause-watched g c =
    let Q = c.propagate_row_read.new.bounds in
    let heard = c.propagate_row_read.ensures in
    let call = c.remark_row_read in
    propagated-moved c.requires.fact c.args.r c.requires.r_lt_m (left_by _ Q heard) (tightened _ Q heard c.in-Tightened.is) call.new.marks c.after.result
    call.ensures.signs call.ensures.left call.auto.marks call.ensures.marks c.after.ensures

pub returns-in-Unchanged-clause-watched : goal.returns-in-Unchanged-clause-watched
returns-in-Unchanged-clause-watched g c =
    let Q = c.propagate_row_read.new.bounds in
    let heard = c.propagate_row_read.ensures in
    let f = unmoved _ Q heard c.in-Unchanged.is in
    propagated-unmoved c.requires.fact c.args.r c.requires.r_lt_m (left_by _ Q heard) f.0 f.1
