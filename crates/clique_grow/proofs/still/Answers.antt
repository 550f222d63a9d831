-- `clique_grow::still`: a flag that is 0 stays, and the other is by the test. Assumes nothing.
use mathlib.Core.Path.{refl, sym}
use lib.Dec.{eqb}
use Rattle.integer.proofs.Tests.{eqb-test, test-false}
use Rattle.clique_grow.specs.Candidates.{still}
use Rattle.clique_grow.proofs.still.Goals as goal

pub returns-then-is_out : goal.returns-then-is_out
unfolding still
returns-then-is_out c = rw c.if-is_out.true refl

pub returns-then-is_joined : goal.returns-then-is_joined
unfolding still
returns-then-is_joined c = rw (test-false (eqb c.args.flag 0) (eqb-test c.args.flag 0) c.if-is_out.false, sym c.is_joined.ensures, c.if-is_joined.true) refl

pub returns : goal.returns
unfolding still
returns c = rw (test-false (eqb c.args.flag 0) (eqb-test c.args.flag 0) c.if-is_out.false, sym c.is_joined.ensures, c.if-is_joined.false) refl
