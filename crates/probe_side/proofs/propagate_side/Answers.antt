-- `probe_side::propagate_side`: the marks of the box, but for rows that read the bound that moved, are those of the side. Assumes nothing.
use Rattle.probe_side.proofs.MarkedLaws.{side-watched}
use Rattle.probe_side.proofs.propagate_side.Goals as goal

pub propagate_marked-requires-clause-fact : goal.propagate_marked-requires-clause-fact
propagate_marked-requires-clause-fact c =
    let call = c.remark_at in
    side-watched c.requires call.new.marks c.copy_box.ensures call.ensures.left call.ensures.marks call.ensures.signs
