-- `book_writing::are_inequalities`: the flag is `all` of the tests made so far. Assumes nothing.
use Rattle.std.proofs.Common.{length, ◌≡◌, refl, arith}
use Rattle.integer.specs.Index.{all}
use Rattle.model.proofs.CheckLaws.{flag-next}
use Rattle.book.specs.BookChecks.{inequalities}
use Rattle.book_writing.proofs.are_inequalities.Goals as goal

pub loop-kind-init : goal.loop-kind-init
unfolding all
loop-kind-init c = refl

pub loop-kind-preserved : goal.loop-kind-preserved
loop-kind-preserved c = flag-next _ c.loop-kind.kind-index c.loop-kind.invariant

pub returns : goal.returns
unfolding inequalities
returns c =
    let end : c.loop-kind.kind-index ≡ length c.args.kinds.now = omega arith in
    rw end at c.loop-kind.invariant
