-- `remarking::remark_bound`: a number that did not move is written by nothing; where it moved, the column's signs say which rows read
-- it. Assumes nothing.
use borrow.Author.Rules.{rules}
use lib.IntN.{pos}
use mathlib.Core.Path.{◌≡◌, sym}
use Rattle.model.specs.Box.{at}
use lib.Seq.{set-get_or}
use Rattle.remarking.proofs.remark_bound.Goals as goal

pub returns-then-old-q-clause-left : goal.returns-then-old-q-clause-left
returns-then-old-q-clause-left c =
    let e : at c.args.old.now c.args.q ≡ at c.args.new.now c.args.q = search rules in
    sym (rw (← e) (set-get_or c.args.old.now c.args.q (pos 0)))
