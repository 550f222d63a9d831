-- `page_call::count::further_lines`: the definition, which takes 1 from 0 to be 0.
use Rattle.pages.specs.Page.{further_count}
use native.Mathlib.Omega.{arith}
use Rattle.page_call.proofs.count.further_lines.Goals as goal

pub returns-then-literals-eq0 : goal.returns-then-literals-eq0
unfolding further_count
returns-then-literals-eq0 c = omega (arith, c.ones-literals.ensures, c.if-literals-eq0.true)

pub returns : goal.returns
unfolding further_count
returns c = rw c.ones-literals.ensures
