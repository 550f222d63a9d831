-- `remarking::remark_all`: steps of 1 pass over nothing. Assumes nothing.
use Rattle.remarking.proofs.RemarkLoops.{every-variable}
use Rattle.remarking.proofs.remark_all.Goals as goal

pub remark-requires : goal.remark-requires
remark-requires c =
    let s = c in
    let p = s.requires in
    (every-variable s.args.old.now s.args.new.now s.args.marks.now p.0 p.2 p.3 p.4 p.5, p.1)
