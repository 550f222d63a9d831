-- `boxes::is_empty`: only the empty box has its first lower bound above the upper (`empty-first`). Assumes nothing.
use mathlib.Core.Path.{sym}
use borrow.Author.Rules.{rules}
use lib.IntN.{pos}
use lib.ListN.{get_or}
use mir.Facts.{to_z-of_z}
use mir.Syntax.{w32}
use mir.Val.{SFits}
use Rattle.model.proofs.BoxLaws.{empty-first}
use Rattle.boxes.proofs.is_empty.Goals as goal

pub returns : goal.returns
returns c n h v =
    let B = c.args.bounds.now in
    let fu : SFits w32 (get_or B 1 (pos 0)) = search rules in
    let fl : SFits w32 (get_or B 0 (pos 0)) = search rules in
    simp to_z-of_z (sym (empty-first n B h v.shape))
