-- `writing::write`: each part is written where the next ones do not write (`all-written`). Assumes nothing.
use Rattle.prepare.proofs.WrittenLaws.{all-written}
use Rattle.prepare.proofs.writing.write.Goals as goal

pub returns : goal.returns
returns c =
    let v = c.requires.0 in
    let H = c.write_head.ensures in
    let D = c.fill.ensures in
    let B = c.fill-2.ensures in
    let S = c.pack_rhs.ensures in
    let C = c.write_columns.ensures in
    let R = c.pack_rows.ensures in
    all-written _ c.requires.1 v.few v.few_rows H.head H.others D.numbers D.others B.numbers B.others S.rhs_packed S.others C.columns C.others R.rows R.others
