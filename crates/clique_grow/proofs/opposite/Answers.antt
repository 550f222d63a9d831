-- `clique_grow::opposite`: the sum is the literal of the other value. Assumes nothing.
use mathlib.Core.Path.{refl}
use Rattle.semantics.specs.Probe.{literal}
use Rattle.cliques.specs.Cliques.{opposite, value_of, variable_of}
use Rattle.clique_grow.proofs.opposite.Goals as goal

pub returns : goal.returns
unfolding opposite variable_of value_of literal
returns c = refl
