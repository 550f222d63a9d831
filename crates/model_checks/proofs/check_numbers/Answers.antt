-- `model_checks::check_numbers`: the box's checks answer first, then what each call says is the test of its check.
use Rattle.std.proofs.Common.{sym}
use Rattle.std.proofs.lemmas.Result.{err_from_is_err_and}
use Rattle.model.specs.Checks.{box_checks, number_checks}
use Rattle.model.proofs.CheckLaws.{accepts, ends, fails, past, refuses}
use Rattle.model_checks.proofs.check_numbers.Goals as goal

pub returns-in_err-check_box : goal.returns-in_err-check_box
unfolding number_checks
returns-in_err-check_box c =
    let p = err_from_is_err_and c.from_residual.result c.from_residual.ensures.1 in
    rw (p.1, p.2) (refuses _ _ _ c.in_err-check_box.ensures)

pub returns-then-not-in_range : goal.returns-then-not-in_range
unfolding number_checks box_checks
returns-then-not-in_range c =
    accepts (box_checks c.args.n c.args.bounds.now) _ tt c.in_ok-check_box.ensures (fails _ 8 _ (sym c.if-not-in_range.ensures))

pub returns-then-not-in_range-2 : goal.returns-then-not-in_range-2
unfolding number_checks box_checks
returns-then-not-in_range-2 c =
    accepts (box_checks c.args.n c.args.bounds.now) _ tt c.in_ok-check_box.ensures
    (past _ 8 _ (sym c.if-not-in_range.ensures) (fails _ 9 _ (sym c.if-not-in_range-2.ensures)))

pub returns-then-not-is_bits : goal.returns-then-not-is_bits
unfolding number_checks box_checks
returns-then-not-is_bits c =
    accepts (box_checks c.args.n c.args.bounds.now) _ tt c.in_ok-check_box.ensures
    (past _ 8 _ (sym c.if-not-in_range.ensures) (past _ 9 _ (sym c.if-not-in_range-2.ensures) (fails _ 16 _ (sym c.if-not-is_bits.ensures))))

pub returns : goal.returns
unfolding number_checks box_checks
returns c =
    accepts (box_checks c.args.n c.args.bounds.now) _ tt c.in_ok-check_box.ensures
    (past _ 8 _ (sym c.if-not-in_range.ensures)
    (past _ 9 _ (sym c.if-not-in_range-2.ensures) (past _ 16 _ (sym c.if-not-is_bits.ensures) ends)))
