-- `prepared_checks::fits`: each test is one of the definition's, in their order. Assumes nothing.
use Rattle.std.proofs.Common.{arith, sym}
use Rattle.std.proofs.lemmas.Bool.Decides.{nat_tests}
use Rattle.prepared_model.proofs.OursLaws.{ours-is}
use Rattle.prepared_checks.specs.Checks.{reasons_fit}
use Rattle.prepared_checks.proofs.fits.Goals as goal

pub bounds-ws-1 : goal.bounds-ws-1
bounds-ws-1 c = omega (arith, (ours-is (sym c.if-not-is_ours.ensures)).len)

pub overflow_mul-len : goal.overflow_mul-len
overflow_mul-len c = omega (arith, (ours-is (sym c.if-not-is_ours.ensures)).few)

pub returns-then-is_empty : goal.returns-then-is_empty
unfolding reasons_fit
returns-then-is_empty c = grind (arith, nat_tests)

pub returns-else-is_empty : goal.returns-else-is_empty
unfolding reasons_fit
returns-else-is_empty c = grind (arith, nat_tests)
