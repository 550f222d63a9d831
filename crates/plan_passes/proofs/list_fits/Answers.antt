-- `plan_passes::list_fits`: the two comparisons are the two tests.
use Rattle.std.proofs.Common.{◌%◌}
use borrow.Author.Tests.{ne_eqb}
use Rattle.plan.specs.PlanChecks.{list_fits}
use Rattle.plan_passes.proofs.list_fits.Goals as goal

pub returns-then-len-eq0 : goal.returns-then-len-eq0
unfolding list_fits
returns-then-len-eq0 c = rw c.if-len-eq0.true

pub returns-else-len-eq0 : goal.returns-else-len-eq0
unfolding list_fits
returns-else-len-eq0 c = rw (ne_eqb (c.args.len % 4) 0 c.if-len-eq0.false)
