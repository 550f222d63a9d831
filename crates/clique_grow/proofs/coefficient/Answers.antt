-- `clique_grow::coefficient`: by the rest of the division by two. Assumes nothing.
use mathlib.Core.Path.{refl}
use Prim.Native.Nat.{◌%◌}
use lib.Dec.{eqb}
use Rattle.integer.proofs.Tests.{eqb-test, test-false}
use Rattle.cliques.specs.Cliques.{coef_of, value_of}
use Rattle.clique_grow.proofs.coefficient.Goals as goal

pub returns-then-q-eq0 : goal.returns-then-q-eq0
unfolding coef_of value_of
returns-then-q-eq0 c = rw c.if-q-eq0.true refl

pub returns-else-q-eq0 : goal.returns-else-q-eq0
unfolding coef_of value_of
returns-else-q-eq0 c = rw (test-false (eqb (c.args.q % 2) 0) (eqb-test (c.args.q % 2) 0) c.if-q-eq0.false) refl
