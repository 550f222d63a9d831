-- `clique_grow::take`: the flags by `keep_joined`, the row by its one number. Assumes nothing.
use mathlib.Core.Path.{refl}
use mir.Syntax.{w32}
use Rattle.integer.proofs.Reading.{read}
use Rattle.cliques.specs.Cliques.{variable_of}
use Rattle.clique_grow.proofs.take.Goals as goal

pub returns : goal.returns
unfolding variable_of
returns c =
    let e = read w32 (record { sfits = c.coefficient.type_inv }) c.coefficient.ensures in
    record { flags = c.keep_joined.ensures; row = rw e refl }
