-- `verdicts::judging::tell`: two numbers are written.
use mathlib.Core.Path.{refl}
use Rattle.proposals.specs.Telling.{with_numbers}
use Rattle.verdicts.proofs.judging.tell.Goals as goal

pub returns : goal.returns
unfolding with_numbers
returns c = refl
