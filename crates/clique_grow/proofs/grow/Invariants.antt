-- `clique_grow::grow`: after the literals below i the row is that of the clique so far, and the flags are its candidates. Assumes nothing.
use Rattle.cliques.specs.Cliques.{grow_to}
use Rattle.clique_grow.proofs.CandidateLaws.{GrownTo}
use Rattle.clique_grow.proofs.grow.Given as goal

abbrev pub invariant-loop-i : goal.invariant-loop-i
invariant-loop-i l = GrownTo l.n l.table (grow_to l.i l.n l.table l.p) l.flags l.row l.size l.zeros
