-- `clique_call::listing::write_cliques`: before start p the list has the cliques of the literals below it. Assumes nothing.
use mathlib.Core.Path.{◌≡◌}
use Rattle.cliques.specs.Cliques.{cliques_to, rows_for}
use Rattle.clique_call.specs.CliqueAnswers.{list_of}
use Rattle.clique_call.proofs.listing.write_cliques.Given as goal

abbrev pub invariant-loop-p : goal.invariant-loop-p
invariant-loop-p l = list_of l.number l.coefs l.rhs ≡ rows_for l.n (cliques_to l.p l.n l.table)
