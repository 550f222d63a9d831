-- `accepted::run`: the front of a local array has room for the box. Assumes nothing.
use mathlib.Core.Path.{sym}
use Rattle.prepared_call.proofs.CoreLaws.{room}
use Rattle.prepared_call.proofs.accepted.run.Goals as goal

pub slice_bounds-run_in-end : goal.slice_bounds-run_in-end
slice_bounds-run_in-end c = sym (room c.requires)

pub run_in-requires : goal.run_in-requires
run_in-requires c = let v = c.requires in (v, room v)
