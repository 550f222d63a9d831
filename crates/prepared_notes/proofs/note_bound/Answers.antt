-- `prepared_notes::note_bound`: the rows that hear the bound rise, or fall, are added (`deaf-rise`, `deaf-fall`). Assumes nothing.
use mir.Facts.{to_z-of_z}
use mir.Syntax.{w32}
use Rattle.integer.proofs.Reading.{ge-read, lt-read}
use Rattle.prepared_notes.proofs.HeardLaws.{deaf-fall, deaf-rise, deaf-same}
use Rattle.prepared_notes.proofs.note_bound.Goals as goal

pub returns-then-old-new : goal.returns-then-old-new
returns-then-old-new c r h e =
    deaf-rise c.args.ws.now c.args.j r _ _ e (c.add.ensures r h)
    (lt-read (to_z-of_z {w = w32} c.ranges.old) (to_z-of_z {w = w32} c.ranges.new) c.if-old-new.true)

pub returns-then-new-old : goal.returns-then-new-old
returns-then-new-old c r h e =
    deaf-fall c.args.ws.now c.args.j r _ _ e (c.add-then-new-old.ensures r h)
    (lt-read (to_z-of_z {w = w32} c.ranges.new) (to_z-of_z {w = w32} c.ranges.old) c.if-new-old.true)

pub returns-else-new-old : goal.returns-else-new-old
returns-else-new-old c r h e =
    let old = to_z-of_z {w = w32} c.ranges.old in
    let new = to_z-of_z {w = w32} c.ranges.new in
    (e, deaf-same c.args.ws.now c.args.j r (ge-read old new c.if-old-new.false) (ge-read new old c.if-new-old.false))
