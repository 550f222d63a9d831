-- `clique_call::listing::is_kept`: fewer than three literals, or by the rows before. Assumes nothing.
use lib.Dec.{leb}
use mathlib.Core.Path.{refl}
use native.Mathlib.Omega.{arith}
use Rattle.integer.proofs.Tests.{leb-test, test-false, test-true}
use Rattle.clique_call.proofs.listing.is_kept.Goals as goal

pub returns-then-size-lt3 : goal.returns-then-size-lt3
returns-then-size-lt3 c = rw (test-false (leb 3 c.args.size) (leb-test 3 c.args.size) (λ h. let z : ⊥ = omega arith in z)) refl

pub returns : goal.returns
returns c = rw (test-true (leb 3 c.args.size) (leb-test 3 c.args.size) (omega arith)) c.is_different.ensures
