-- `hearers::write_columns`: the sets of the variables so far are written, and nothing else (`columns-more`). Assumes nothing.
use borrow.Author.Count.{below_none}
use native.Mathlib.Omega.{arith}
use Rattle.prepared_model.proofs.KeptLaws.{same_none, same-wider}
use Rattle.hearers.proofs.ColumnLaws.{columns-more, columns-same}
use Rattle.hearers.proofs.write_columns.Goals as goal

pub loop-j-init : goal.loop-j-init
loop-j-init c = (same_none 384 c.args.ws.now, below_none _)

pub loop-j-preserved : goal.loop-j-preserved
loop-j-preserved c =
    let told = c.write_column.ensures in
    let j = c.loop-j.j in (
      columns-same j c.loop-j.invariant.0 told.others,
      columns-more j c.loop-j.invariant.0 told.others (omega (arith, c.requires)) c.loop-j.invariant.1 told.column,
    )

pub returns : goal.returns
returns c =
    record {
      columns = λ j k. c.loop-j.invariant.1 j (omega arith);
      others = same-wider (omega (arith, c.requires)) c.loop-j.invariant.0;
    }
