-- `tie_call::value_said`: w = 0 is tried first. Assumes nothing.
use mathlib.Core.Path.{refl, sym}
use native.Mathlib.Omega.{arith}
use Rattle.ties.specs.TieCall.{value_said}
use Rattle.tie_call.proofs.value_said.Goals as goal

pub returns-then-says : goal.returns-then-says
unfolding value_said
returns-then-says c = rw (sym c.if-says.ensures) (refl, omega arith)

pub returns-then-says-2 : goal.returns-then-says-2
unfolding value_said
returns-then-says-2 c = rw (sym c.if-says.ensures, sym c.if-says-2.ensures) (refl, omega arith)

pub returns : goal.returns
unfolding value_said
returns c = rw (sym c.if-says.ensures, sym c.if-says-2.ensures) refl
