-- `verdicts::call::judge_all`: no row's steps are known in an array of zeros.
use Rattle.marked_row.proofs.LocalIndex.{index-none}
use Rattle.verdicts.proofs.call.judge_all.Goals as goal

pub judge-requires : goal.judge-requires
judge-requires c = (c.requires, (index-none c.requires.valid).rows)
