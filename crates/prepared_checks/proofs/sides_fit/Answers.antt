-- `prepared_checks::sides_fit`: the two lengths that fit, in their order. Assumes nothing.
use Rattle.std.proofs.Common.{arith}
use Rattle.std.proofs.lemmas.Bool.Decides.{nat_tests}
use Rattle.prepared_checks.specs.Checks.{sides_fit}
use Rattle.prepared_checks.proofs.sides_fit.Goals as goal

pub returns-then-is_empty : goal.returns-then-is_empty
unfolding sides_fit
returns-then-is_empty c = grind (arith, nat_tests)

pub returns-else-is_empty : goal.returns-else-is_empty
unfolding sides_fit
returns-else-is_empty c = grind (arith, nat_tests)
