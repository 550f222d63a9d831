-- `clique_call::listing::write_cliques`: before start p the list has the cliques of the literals below it. Assumes nothing.
use Prim.Native.Nat.{◌*◌}
use mathlib.Core.Path.{◌≡◌}
use native.Mathlib.Omega.{arith}
use Rattle.cliques.specs.Cliques.{clique_rows, cliques}
use Rattle.clique_call.proofs.ListLaws.{list-none}
use Rattle.clique_call.proofs.listing.write_cliques.Goals as goal

pub loop-p-init : goal.loop-p-init
loop-p-init c =
    list-none c.args.n c.args.table.now
    (rw c.requires.coefs_len.0 at c.zero.ensures) (rw c.requires.coefs_len.1 at c.zero-2.ensures)

pub overflow_mul-p-end : goal.overflow_mul-p-end
overflow_mul-p-end c = let m = c.requires.lent_table.most in omega arith

pub add_clique-number-requires : goal.add_clique-number-requires
add_clique-number-requires c = record { lent_table = (c.requires.lent_table, omega arith); rhs_value = c.loop-p.invariant }

pub loop-p-preserved : goal.loop-p-preserved
loop-p-preserved c = c.add_clique-number.ensures

pub returns : goal.returns
unfolding clique_rows cliques
returns c =
    let end : c.loop-p.p ≡ 2 * c.args.n = omega arith in
    rw end at c.loop-p.invariant
