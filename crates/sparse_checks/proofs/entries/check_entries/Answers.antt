-- `sparse_checks::entries::check_entries`: row i lies within the book (`walk_inside`), and the first row that fails refuses.
-- Assumes nothing.
use Rattle.std.proofs.Common.{◌≡◌, refl, sym, arith}
use Rattle.std.proofs.lemmas.Result.{err_from_is_err_and}
use Rattle.little_endian.specs.Pieces.{joined}
use Rattle.model.specs.Checks.{first}
use Rattle.model.proofs.RefusalLaws.{number_of-ne0}
use Rattle.sparse_layout.specs.SparseChecks.{all_entry_checks}
use Rattle.sparse_layout.proofs.CheckingLaws.{first-at, first_on, row-checked, walk_inside, walk-next}
use Rattle.sparse_layout.proofs.SparseAcceptLaws.{row-numbered}
use Rattle.sparse_layout.proofs.SparseTripLaws.{start_first}
use Rattle.sparse_checks.proofs.entries.check_entries.Goals as goal

pub loop-i-init : goal.loop-i-init
unfolding all_entry_checks joined first
loop-i-init c = (sym (start_first _ _), refl)

-- row i lies within the book
pub row_count-count-requires : goal.row_count-count-requires
row_count-count-requires c = omega (arith, walk_inside c.requires c.loop-i.p c.loop-i.i c.loop-i.invariant.0 c.loop-i-test.true)

pub check_row_entries-requires : goal.check_row_entries-requires
check_row_entries-requires c =
    omega (arith, walk_inside c.requires c.loop-i.p c.loop-i.i c.loop-i.invariant.0 c.loop-i-test.true, c.row_count-count.ensures)

-- the row is the one that starts there
pub returns-in_err-check_row_entries : goal.returns-in_err-check_row_entries
unfolding all_entry_checks
returns-in_err-check_row_entries c =
    let a = c.args in
    let i = c.loop-i.i in
    let p = err_from_is_err_and c.from_residual.result c.from_residual.ensures.1 in
    let checked = row-checked a.n a.book.now c.loop-i.p i _ _ c.loop-i.invariant.0 c.row_count-count.ensures c.in_err-check_row_entries.ensures in
    rw (p.1, p.2)
    (first-at _ (λ k. row-numbered a.n a.book.now _) _ a.m i c.loop-i-test.true c.loop-i.invariant.1 checked (number_of-ne0 _))

pub overflow_add-p-in-loop-i : goal.overflow_add-p-in-loop-i
overflow_add-p-in-loop-i c =
    omega (arith, walk_inside c.requires c.loop-i.p c.loop-i.i c.loop-i.invariant.0 c.loop-i-test.true, c.row_count-count.ensures)

pub loop-i-preserved : goal.loop-i-preserved
unfolding all_entry_checks
loop-i-preserved c =
    let a = c.args in
    let i = c.loop-i.i in
    let checked = row-checked a.n a.book.now c.loop-i.p i _ _ c.loop-i.invariant.0 c.row_count-count.ensures c.in_ok-check_row_entries.ensures in (
      walk-next a.n a.book.now c.loop-i.p i _ c.loop-i.invariant.0 c.row_count-count.ensures,
      first_on _ (λ k. row-numbered a.n a.book.now _) i c.loop-i.invariant.1 (sym checked),
    )

pub returns : goal.returns
returns c =
    let end : c.loop-i.i ≡ c.args.m = omega arith in
    sym (rw end at c.loop-i.invariant.1)
