-- `matrix_change::maximum_activity_at` is max_activity of the row: what is lent is the row (`coefficients`). Assumes nothing.
use borrow.Author.Rules.{rules}
use mathlib.Core.Path.{◌∙◌}
use mir.Facts.{to_z-of_z}
use mir.Syntax.{w64}
use Rattle.matrix_change.proofs.maximum_activity_at.Statement.{statement}
use Rattle.matrix_change.proofs.maximum_activity_at.Tie as tie

coefficients-requires : tie.Need-coefficients-requires
coefficients-requires c κs = search rules

maximum-activity-requires : tie.Need-maximum_activity-requires
maximum-activity-requires c κs = let s = c.before in rw (c.coefficients.ensures, s.requires.1.len) s.requires.1

returns : tie.Need-returns
returns c =
    let s = c.before.before in
    to_z-of_z {w = w64} (record { sfits = c.maximum_activity.type_inv })
    ∙ (rw (c.coefficients.ensures, s.requires.1.len) at c.maximum_activity.ensures)

pub maximum_activity_at_spec : {M : Type 1} → statement M
maximum_activity_at_spec =
    tie.close (tie.spec coefficients-requires maximum-activity-requires returns)
