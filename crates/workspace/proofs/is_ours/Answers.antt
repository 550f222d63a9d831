-- `workspace::is_ours` is is_ours, test by test. Assumes nothing.
use Rattle.std.proofs.Common.{arith}
use Rattle.std.proofs.lemmas.Bool.Decides.{nat_tests}
use Rattle.prepared_model.specs.Layout.{is_ours}
use Rattle.workspace.proofs.is_ours.Goals as goal

pub returns-then-ws-ne-WORKSPACE_LEN : goal.returns-then-ws-ne-WORKSPACE_LEN
unfolding is_ours
returns-then-ws-ne-WORKSPACE_LEN c = grind (arith, nat_tests)

pub returns-then-is_foreign : goal.returns-then-is_foreign
unfolding is_ours
returns-then-is_foreign c = grind (arith, nat_tests)

pub returns-then-ws-lt1 : goal.returns-then-ws-lt1
unfolding is_ours
returns-then-ws-lt1 c = grind (arith, nat_tests)

pub returns-then-ws-gt-MOST_VARIABLES : goal.returns-then-ws-gt-MOST_VARIABLES
unfolding is_ours
returns-then-ws-gt-MOST_VARIABLES c = grind (arith, nat_tests)

pub returns : goal.returns
unfolding is_ours
returns c = grind (arith, nat_tests)
