-- The buffers hold what is kept of some input, whose length is `len`: each iteration adds the piece that was read. Each
-- piece has a byte at least, so the length that is left up to 2³² falls.
use Rattle.std.proofs.Common.{List, ℕ, ◌-◌}
use Rattle.intake.specs.Checks.{too_long}
use Rattle.intake.specs.Intake.{Held}
use Rattle.streams.proofs.input.read_all.Given as goal

abbrev pub invariant-loop-piece : goal.invariant-loop-piece
invariant-loop-piece g l = (bs : List ℕ) × Held bs l.start l.tail l.len

abbrev pub decreases-loop-piece : goal.decreases-loop-piece
decreases-loop-piece g l = too_long - l.len
