-- `book_reading::coefs_in_range`: the loop makes the test of each row, and one that fails decides (`in_range-joined`).
-- Assumes nothing.
use Rattle.std.proofs.Common.{◌∙◌, ◌≡◌, refl, sym, arith, true, false}
use Rattle.integer.specs.Index.{all}
use Rattle.integer.proofs.IndexLaws.{all-false, all-next}
use Rattle.model.specs.Limits.{max_coef, min_coef}
use Rattle.book.specs.Book.{coefs_of}
use Rattle.book.proofs.DecodeLaws.{in_range-joined}
use Rattle.book.proofs.EncodeLaws.{row_within}
use Rattle.book_reading.proofs.coefs_in_range.Invariants.{test}
use Rattle.book_reading.proofs.coefs_in_range.Goals as goal

pub loop-i-init : goal.loop-i-init
unfolding all
loop-i-init c = refl

-- the row lies within the book
pub overflow_add-row : goal.overflow_add-row
overflow_add-row c = omega (arith, row_within c.args.n c.args.m c.loop-i.i c.loop-i-test.true)

pub are_in_range-requires : goal.are_in_range-requires
are_in_range-requires c = λ j h. omega (arith, row_within c.args.n c.args.m c.loop-i.i c.loop-i-test.true)

pub returns-then-not-are_in_range : goal.returns-then-not-are_in_range
unfolding coefs_of
returns-then-not-are_in_range c =
    let a = c.args in
    let i = c.loop-i.i in
    let tested : false ≡ test a.n a.book.now i = rw c.row_place-row.ensures at c.if-not-are_in_range.ensures in
    sym (in_range-joined min_coef max_coef a.m _ ∙ all-false a.m (test a.n a.book.now) i (omega arith) (sym tested))

pub loop-i-preserved : goal.loop-i-preserved
loop-i-preserved c =
    let a = c.args in
    let i = c.loop-i.i in
    let tested : true ≡ test a.n a.book.now i = rw c.row_place-row.ensures at c.if-not-are_in_range.ensures in
    all-next _ i c.loop-i.invariant (sym tested)

pub returns : goal.returns
unfolding coefs_of
returns c =
    let end : c.loop-i.i ≡ c.args.m = omega arith in
    sym (in_range-joined min_coef max_coef _ _ ∙ rw end at c.loop-i.invariant)
