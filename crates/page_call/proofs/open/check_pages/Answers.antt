-- `page_call::open::check_pages`: the checks are passed in their order; the room is compared once the table has its length.
use Prim.Native.Nat.{ℕ}
use Rattle.model.specs.Checks.{Check, box_checks, first, size_checks, table_byte_checks, table_length_checks}
use Rattle.page_call.proofs.CheckedLaws.{lent-passed}
use Rattle.pages.specs.PageChecks.{lent_checks, page_checks}
use borrow.Author.Tests.{eq-eqb, ne_eqb}
use mathlib.Core.List.{List, ◌++◌}
use mathlib.Core.Path.{◌≡◌, sym}
use Rattle.std.proofs.lemmas.Result.{err_from_is_err_and}
use Rattle.model.proofs.CheckLaws.{accepts, ends, fails, past, refuses}
use lib.IntN.{ℤ}
use Rattle.page_call.proofs.open.check_pages.Goals as goal

-- past checks 3 and 5 of n and the table
past-lent : {r : ℕ} (n : ℕ) (t : List ℕ) (ys : List Check) → 0 ≡ first (lent_checks n t) → r ≡ first ys → r ≡ first (lent_checks n t ++ ys)
unfolding lent_checks size_checks table_length_checks
past-lent n t ys e h = accepts (lent_checks n t) ys tt e h

-- and then past those of the box
past-box : {r : ℕ} (n : ℕ) (B : List ℤ) (ys : List Check) → 0 ≡ first (box_checks n B) → r ≡ first ys → r ≡ first (box_checks n B ++ ys)
unfolding box_checks
past-box n B ys e h = accepts (box_checks n B) ys tt e h

pub returns-in_err-check_lent : goal.returns-in_err-check_lent
unfolding page_checks
returns-in_err-check_lent c =
    let p = err_from_is_err_and c.from_residual.result c.from_residual.ensures.1 in
    rw (p.1, p.2) (refuses _ _ _ c.in_err-check_lent.ensures)

pub returns-then-not-is_product : goal.returns-then-not-is_product
unfolding page_checks
returns-then-not-is_product c =
    past-lent c.args.n c.args.table.now _ c.in_ok-check_lent.ensures (fails _ 5 _ (sym c.if-not-is_product.ensures))

pub pages_needed-requires : goal.pages_needed-requires
pages_needed-requires c =
    let p = lent-passed c.args.n c.args.table.now (sym c.in_ok-check_lent.ensures) in
    record { n_le_max_variables = p.few; table_len = p.table }

pub returns-then-rooms_differ : goal.returns-then-rooms_differ
unfolding page_checks
returns-then-rooms_differ c =
    past-lent c.args.n c.args.table.now _ c.in_ok-check_lent.ensures
    (past _ 5 _ (sym c.if-not-is_product.ensures) (fails _ 5 _ (ne_eqb _ _ (rw c.pages_needed.ensures.0 at c.if-rooms_differ.true))))

pub returns-in_err-check_box : goal.returns-in_err-check_box
unfolding page_checks
returns-in_err-check_box c =
    let p = err_from_is_err_and c.from_residual-in_err-check_box.result c.from_residual-in_err-check_box.ensures.1 in
    rw (p.1, p.2)
    (past-lent c.args.n c.args.table.now _ c.in_ok-check_lent.ensures
    (past _ 5 _ (sym c.if-not-is_product.ensures)
    (past _ 5 _ (eq-eqb _ _ (rw c.pages_needed.ensures.0 at c.if-rooms_differ.false)) (refuses _ _ _ c.in_err-check_box.ensures))))

pub returns-then-not-is_bits : goal.returns-then-not-is_bits
unfolding page_checks table_byte_checks
returns-then-not-is_bits c =
    past-lent c.args.n c.args.table.now _ c.in_ok-check_lent.ensures
    (past _ 5 _ (sym c.if-not-is_product.ensures)
    (past _ 5 _ (eq-eqb _ _ (rw c.pages_needed.ensures.0 at c.if-rooms_differ.false))
    (past-box c.args.n c.args.bounds.now _ c.in_ok-check_box.ensures (fails _ 10 _ (sym c.if-not-is_bits.ensures)))))

pub returns : goal.returns
unfolding page_checks table_byte_checks
returns c =
    past-lent c.args.n c.args.table.now _ c.in_ok-check_lent.ensures
    (past _ 5 _ (sym c.if-not-is_product.ensures)
    (past _ 5 _ (eq-eqb _ _ (rw c.pages_needed.ensures.0 at c.if-rooms_differ.false))
    (past-box c.args.n c.args.bounds.now _ c.in_ok-check_box.ensures (past _ 10 _ (sym c.if-not-is_bits.ensures) ends))))
