-- `page_call::sheet::write_all`: the lines of the variables below k are written; with the empty ones they are the pages.
use Rattle.model.specs.Box.{lower, upper}
use Rattle.page_call.proofs.SheetLaws.{all-written, fill-room, next-room, upto_next}
use Rattle.pages.specs.Page.{joined, line_total, total}
use Rattle.pages.specs.Writing.{sheet, start}
use Rattle.text.proofs.TextLaws.{wrote-length, wrote_none}
use mathlib.Core.Path.{◌≡◌, refl}
use mir.Facts.{to_z-of_z}
use mir.Syntax.{w32}
use mir.Val.{SFits}
use native.Mathlib.Omega.{arith}
use Rattle.page_call.proofs.sheet.write_all.Goals.{After-loop-k}
use borrow.Author.Rules.{rules}
use Rattle.page_call.proofs.sheet.write_all.Goals as goal

-- all variables are written
ended : (c : After-loop-k) → c.loop-k.line ≡ line_total c.args.n c.args.table.now
unfolding line_total
ended c = let e : c.loop-k.k ≡ c.args.n = omega arith in rw e at c.loop-k.invariant.0

pub loop-k-init : goal.loop-k-init
unfolding total joined sheet start
loop-k-init c = (refl, wrote_none _ 0 (omega arith))

pub write_variable-line-requires-clause-part_bound : goal.write_variable-line-requires-clause-part_bound
write_variable-line-requires-clause-part_bound c =
    let l = c.loop-k in
    (next-room c.args.n c.args.table.now l.k l.line c.requires.paper.few c.requires.table_len (omega arith) l.invariant.0).0

pub write_variable-line-requires-clause-part_in_bounds : goal.write_variable-line-requires-clause-part_in_bounds
write_variable-line-requires-clause-part_in_bounds c =
    let l = c.loop-k in
    let r = next-room c.args.n c.args.table.now l.k l.line c.requires.paper.few c.requires.table_len (omega arith) l.invariant.0 in
    omega (arith, r.1, c.requires.buf_len, wrote-length l.invariant.1)

pub loop-k-preserved : goal.loop-k-preserved
loop-k-preserved c =
    let w = c.write_variable-line in
    let l = c.loop-k in
    let a = c.args in
    let fl : SFits w32 (lower a.bounds.now l.k) = search rules in
    let fu : SFits w32 (upper a.bounds.now l.k) = search rules in
    upto_next a.n a.bounds.now a.table.now l.k l.line w.result c.requires.table_len (omega arith) l.invariant.0 l.invariant.1 (rw (to_z-of_z fl, to_z-of_z fu) at w.ensures.text) w.ensures.lines

pub fill_page-requires : goal.fill_page-requires
fill_page-requires c =
    let l = c.loop-k in
    let r = fill-room c.args.n c.args.table.now l.line c.requires.paper.few (ended (goal.at.fill_page-requires c).After-loop-k) in
    record { line_bound = r.0; line_in_bounds = omega (arith, r.1, c.requires.buf_len, wrote-length l.invariant.1) }

pub returns : goal.returns
returns c =
    let l = c.loop-k in
    let a = c.args in
    let e : l.k ≡ a.n = omega arith in
    all-written a.n a.bounds.now a.table.now l.line c.requires.paper c.requires.buf_len (ended (goal.at.returns c).After-loop-k) (rw e at l.invariant.1) c.fill_page.ensures
