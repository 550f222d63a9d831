use Rattle.std.proofs.Common.{[]}
use Rattle.intake.proofs.InputLaws.{held_none}
use Rattle.streams.proofs.input.read_all.Goals as goal

-- before the first read nothing is held
pub loop-piece-init : goal.loop-piece-init
loop-piece-init g c = ([], held_none _ _ c.requires)
