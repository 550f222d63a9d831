-- `page_call::count::pages_needed`: the definition; 4,096 lines are at most 70 pages.
use Rattle.pages.proofs.PageLaws.{lines-most}
use Rattle.pages.specs.Page.{page_count}
use native.Mathlib.Omega.{arith}
use Rattle.page_call.proofs.count.pages_needed.Goals as goal

pub overflow_add-result : goal.overflow_add-result
overflow_add-result c =
    let a = c.args in
    omega (arith, c.content_lines.ensures, lines-most a.n a.table.now (omega arith))

pub returns : goal.returns
unfolding page_count
returns c =
    let a = c.args in
    (rw c.content_lines.ensures, omega (arith, c.content_lines.ensures, lines-most a.n a.table.now (omega arith)))
