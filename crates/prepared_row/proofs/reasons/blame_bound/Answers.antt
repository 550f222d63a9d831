-- `reasons::blame_bound`: a number that moved is written (`reason-moved`); where it did not, the reason stays (`kept-is`). Numbers in
-- range are the same where their bits are. Assumes nothing.
use lib.ListN.{set}
use mathlib.Core.Path.{ap, sym}
use mir.Syntax.{w32}
use mir.Val.{SFits, of_z}
use Rattle.std.proofs.Common.{rules}
use Rattle.integer.proofs.Reading.{eq-read}
use Rattle.model.specs.Box.{at}
use Rattle.prepared_model.proofs.RowReasonLaws.{kept-is, reason-moved}
use Rattle.prepared_row.proofs.reasons.blame_bound.Goals as goal

pub returns-then-old-i : goal.returns-then-old-i
returns-then-old-i c =
    sym (ap (set c.args.reasons.now c.args.i) (reason-moved _ _ _ _ _ (λ e. c.if-old-i.true (ap (of_z w32) e))))

pub returns-else-old-i : goal.returns-else-old-i
returns-else-old-i c =
    let old : SFits w32 (at c.args.old.now c.args.i) = search rules in
    let new : SFits w32 (at c.args.new.now c.args.i) = search rules in
    kept-is _ _ _ _ _ (sym (eq-read w32 old new c.if-old-i.false))
