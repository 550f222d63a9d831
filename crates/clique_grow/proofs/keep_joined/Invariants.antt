-- `clique_grow::keep_joined`: before flag r those below it are done. Assumes nothing.
use mathlib.Core.Path.{◌≡◌}
use Rattle.clique_grow.specs.Candidates.{kept_to}
use Rattle.clique_grow.proofs.keep_joined.Given as goal

abbrev pub invariant-loop-r : goal.invariant-loop-r
invariant-loop-r l = l.flags ≡ kept_to l.r l.n l.table l.q l.initial.flags
