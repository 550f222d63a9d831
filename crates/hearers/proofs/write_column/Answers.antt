-- `hearers::write_column`: the two sets are gathered and put side by side (`column-written`). Assumes nothing.
use native.Mathlib.Omega.{arith}
use Rattle.hearers.proofs.ColumnLaws.{column-same, column-written}
use Rattle.hearers.proofs.write_column.Goals as goal

pub returns : goal.returns
returns c =
    let j = c.args.j in
    let rise = c.gather.auto.rise in
    let fall = c.gather.auto.fall in
    let P = c.put.ensures in
    let Q = c.put-2.ensures in
    record {
      column = column-written j rise fall (omega (arith, c.requires)) P.numbers P.others Q.numbers Q.others c.gather.ensures;
      others = column-same j rise fall (omega (arith, c.requires)) P.numbers P.others Q.numbers Q.others;
    }
