-- `prepared_box::take_box`: the box is copied, and since the box and the set that are kept all variables are noted (`copied_all`, `noted-calm`).
-- Assumes nothing.
use Rattle.prepared_box.proofs.TakenLaws.{copied_all, noted-calm}
use Rattle.prepared_box.proofs.take_box.Goals as goal

pub returns : goal.returns
returns c =
    let copied = c.take_all.ensures.copied in
    let noted = rw c.read_set.ensures at c.take_all.ensures.noted in
    record { known = copied_all c.args.n c.requires.3 c.requires.2 copied; calm = λ A p e. rw e (noted-calm p (rw e at noted)) }
