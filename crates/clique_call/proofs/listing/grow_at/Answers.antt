-- `clique_call::listing::grow_at`: the part that is lent is row k, which is all 0, and it comes back as the clique's. Assumes nothing.
use Rattle.matrix.proofs.PartLaws.{part-is}
use Rattle.cliques.specs.Cliques.{clique_row, grow}
use Rattle.cliques.proofs.CliqueLaws.{length-clique_row}
use Rattle.clique_call.proofs.ListLaws.{part-back}
use Rattle.clique_call.proofs.listing.grow_at.Goals as goal

pub grow-requires : goal.grow-requires
grow-requires c =
    let q = c.requires in
    record {
      lent_table = (q.lent_table.0, c.all_candidates-flags.ensures);
      p_bound = (q.lent_table.1, rw (part-is c.args.k c.args.n c.args.coefs.now) q.n_in_bounds.1);
    }

pub returns : goal.returns
returns c =
    let n = c.args.n in
    let told = c.grow.ensures in
    record {
      row =
          rw told.row
          (part-back c.args.coefs.now (clique_row n (grow n c.args.table.now c.args.p)) c.args.k n (length-clique_row n _));
      size = told.size;
      zeros = told.zeros;
    }
