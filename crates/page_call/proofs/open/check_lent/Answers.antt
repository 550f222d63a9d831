-- `page_call::open::check_lent`: the checks are passed in their order; 4n · n is 4n².
use Prim.Native.Nat.{◌*◌, ℕ}
use Rattle.model.specs.Checks.{Check, first, size_checks, table_length_checks}
use Rattle.page_call.proofs.CheckedLaws.{size-passed}
use Rattle.pages.specs.PageChecks.{lent_checks}
use mathlib.Core.List.{List, ◌++◌}
use mathlib.Core.Path.{◌≡◌, sym}
use native.Mathlib.Omega.{arith}
use Rattle.std.proofs.lemmas.Result.{err_from_is_err_and}
use Rattle.model.proofs.CheckLaws.{accepts, ends, fails, past, refuses}
use Rattle.page_call.proofs.open.check_lent.Goals as goal

-- past check 3
past-size : {r : ℕ} (n : ℕ) (ys : List Check) → 0 ≡ first (size_checks n 0) → r ≡ first ys → r ≡ first (size_checks n 0 ++ ys)
unfolding size_checks
past-size n ys e h = accepts (size_checks n 0) ys tt e h

square : (n : ℕ) → 4 * n * n ≡ 4 * (n * n)
square n = omega arith

pub returns-in_err-check_size : goal.returns-in_err-check_size
unfolding lent_checks
returns-in_err-check_size c =
    let p = err_from_is_err_and c.from_residual.result c.from_residual.ensures.1 in
    rw (p.1, p.2) (refuses _ _ _ c.in_err-check_size.ensures)

pub overflow_mul-n : goal.overflow_mul-n
overflow_mul-n c = omega (arith, size-passed c.args.n (sym c.in_ok-check_size.ensures))

pub returns-then-not-is_product : goal.returns-then-not-is_product
unfolding lent_checks table_length_checks
returns-then-not-is_product c =
    let e = square c.args.n in
    past-size c.args.n _ c.in_ok-check_size.ensures (fails _ 5 _ (sym (rw e at c.if-not-is_product.ensures)))

pub returns : goal.returns
unfolding lent_checks table_length_checks
returns c =
    let e = square c.args.n in
    past-size c.args.n _ c.in_ok-check_size.ensures (past _ 5 _ (sym (rw e at c.if-not-is_product.ensures)) ends)
