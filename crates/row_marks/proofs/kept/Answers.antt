-- `row_marks::kept`: the sum of the three tests is below 2 where the row does not read the bound (`reads-not`). Assumes nothing.
use Rattle.row_marks.proofs.MarkLaws.{reads-not}
use Rattle.row_marks.proofs.kept.Goals as goal

pub returns-then-read-lt2 : goal.returns-then-read-lt2
returns-then-read-lt2 c = λ e. (e, reads-not _ _ _ c.if-read-lt2.true)
