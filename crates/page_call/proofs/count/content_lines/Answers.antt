-- `page_call::count::content_lines`: the lines of the variables so far are counted, 32 at most of each.
use Prim.Native.Nat.{◌*◌, ◌+◌, ◌-◌, ◌≤◌}
use Rattle.page_call.proofs.SheetLaws.{counted-more, counted-most, lines_of}
use Rattle.pages.specs.Page.{line_total, total}
use mathlib.Core.Path.{◌≡◌, refl}
use native.Mathlib.Omega.{arith}
use Rattle.page_call.proofs.count.content_lines.Goals.{After-further_lines}
use Rattle.page_call.proofs.count.content_lines.Goals as goal

pub loop-k-init : goal.loop-k-init
unfolding total
loop-k-init c = refl

-- one variable's lines more are counted
counted : (c : After-further_lines) → c.loop-k.lines + (1 + c.further_lines.result) ≡ total (c.loop-k.k + 1) (lines_of c.args.n c.args.table.now)
counted c =
    let l = c.loop-k in
    let a = c.args in
    let start = (2 * l.k + 1) * (2 * a.n) in
    let e : start + 2 * a.n - start ≡ 2 * a.n = omega arith in
    counted-more a.n a.table.now l.k l.lines c.further_lines.result (omega arith) (omega arith) l.invariant (rw e at c.further_lines.ensures)

few : (c : After-further_lines) → total (c.loop-k.k + 1) (lines_of c.args.n c.args.table.now) ≤ 4_096
few c =
    let k = c.loop-k.k in
    omega (arith, counted-most c.args.n c.args.table.now (k + 1) (omega arith))

pub overflow_add-lines : goal.overflow_add-lines
overflow_add-lines c = let f = (goal.at.overflow_add-lines c).After-further_lines in omega (arith, counted f, few f)

pub overflow_add-lines-in-loop-k : goal.overflow_add-lines-in-loop-k
overflow_add-lines-in-loop-k c = let f = (goal.at.overflow_add-lines-in-loop-k c).After-further_lines in omega (arith, counted f, few f)

pub loop-k-preserved : goal.loop-k-preserved
loop-k-preserved c = counted (goal.at.loop-k-preserved c).After-further_lines

pub returns : goal.returns
unfolding line_total
returns c =
    let e : c.loop-k.k ≡ c.args.n = omega arith in
    rw e at c.loop-k.invariant
