-- What is printed is the text of the answer, which is that of the book; what is left can be printed, since it is valid.
use Rattle.std.proofs.Common.{ap, ◌∙◌, length}
use Rattle.std.proofs.lemmas.Result.{IfOk-equal}
use Rattle.model.specs.Rows.{rows_of}
use Rattle.reduction.specs.Answers.{answer_text}
use Rattle.reduction.proofs.ReductionLaws.{left-kindless}
use Rattle.reduce_book.proofs.ProgramLaws.{left-prints}
use Rattle.reduce_book.proofs.reduce_in.Goals as goal

pub left-requires-clause-fact : goal.left-requires-clause-fact
left-requires-clause-fact g c =
    let left = c.solve.new in
    left-prints c.args.n c.args.m left.bounds (rows_of left.coefs left.rhs left.kinds) left.table (rw c.in-Ok-Some.field-0-is at c.in-Ok-Some.ensures.valid)

pub returns-in-Err : goal.returns-in-Err
unfolding answer_text
returns-in-Err g c = IfOk-equal c.refused.result _ _ _ (rw c.number.ensures at c.refused.ensures) (ap length (c.in-Err.ensures.text c.args.form))

pub returns-in-Ok-None : goal.returns-in-Ok-None
unfolding answer_text
returns-in-Ok-None g c = IfOk-equal c.none.result _ _ _ c.none.ensures (ap length (rw c.in-Ok-None.field-0-is at (c.in-Ok-None.ensures.text c.args.form)))

-- no kind is printed
pub returns-in-Ok-Some : goal.returns-in-Ok-Some
unfolding answer_text
returns-in-Ok-Some g c =
    let a = c.args in
    let left = c.solve.new in
    let A = rows_of left.coefs left.rhs left.kinds in
    let kindless = left-kindless a.form c.in-Ok-Some.made a.n a.m left.bounds A left.table in
    IfOk-equal c.left.result _ _ _ c.left.ensures (ap length (kindless ∙ (rw c.in-Ok-Some.field-0-is at (c.in-Ok-Some.ensures.text a.form))))
