-- `plan_lengths::lengths`: refused as the trailer call is, and else the lengths of its n and m.
use mathlib.Core.Path.{◌∙◌, ap}
use Rattle.book.specs.Answers.{sizes_answer}
use Rattle.plan.specs.Answers.{lengths_answer, lengths_are}
use Rattle.plan.proofs.PlanLaws.{lengths-needed, lengths-refused, sizes-few}
use Rattle.std.proofs.lemmas.Result.{err_from_is_err_and}
use Rattle.plan_lengths.proofs.lengths.Goals as goal

pub returns-in_err-sizes : goal.returns-in_err-sizes
unfolding lengths_answer sizes_answer
returns-in_err-sizes c =
    let p = err_from_is_err_and c.from_residual.result c.from_residual.ensures.1 in
    rw (p.1, p.2) (lengths-refused c.args.bytes.now _ c.in_err-sizes.ensures)

pub lengths_for-requires : goal.lengths_for-requires
unfolding sizes_answer
lengths_for-requires c =
    let s = c.in_ok-sizes.sizes in
    sizes-few c.args.bytes.now s.n s.m c.in_ok-sizes.ensures

pub returns : goal.returns
unfolding lengths_answer sizes_answer
returns c =
    let s = c.in_ok-sizes.sizes in
    ap lengths_are c.lengths_for.ensures ∙ lengths-needed c.args.bytes.now s.n s.m c.in_ok-sizes.ensures
