-- `page_call::open::check_count`: the checks are passed in their order.
use Prim.Native.Nat.{ℕ}
use Rattle.model.specs.Checks.{Check, first, size_checks, table_byte_checks, table_length_checks}
use Rattle.pages.specs.PageChecks.{count_checks, lent_checks}
use mathlib.Core.List.{List, ◌++◌}
use mathlib.Core.Path.{◌≡◌}
use Rattle.std.proofs.lemmas.Result.{err_from_is_err_and}
use Rattle.model.proofs.CheckLaws.{accepts, ends, fails, past, refuses}
use mathlib.Core.Path.{sym}
use Rattle.page_call.proofs.open.check_count.Goals as goal

-- past checks 3 and 5
past-lent : {r : ℕ} (n : ℕ) (t : List ℕ) (ys : List Check) → 0 ≡ first (lent_checks n t) → r ≡ first ys → r ≡ first (lent_checks n t ++ ys)
unfolding lent_checks size_checks table_length_checks
past-lent n t ys e h = accepts (lent_checks n t) ys tt e h

pub returns-in_err-check_lent : goal.returns-in_err-check_lent
unfolding count_checks
returns-in_err-check_lent c =
    let p = err_from_is_err_and c.from_residual.result c.from_residual.ensures.1 in
    rw (p.1, p.2) (refuses _ _ _ c.in_err-check_lent.ensures)

pub returns-then-not-is_bits : goal.returns-then-not-is_bits
unfolding count_checks table_byte_checks
returns-then-not-is_bits c =
    past-lent c.args.n c.args.table.now _ c.in_ok-check_lent.ensures (fails _ 10 _ (sym c.if-not-is_bits.ensures))

pub returns : goal.returns
unfolding count_checks table_byte_checks
returns c =
    past-lent c.args.n c.args.table.now _ c.in_ok-check_lent.ensures (past _ 10 _ (sym c.if-not-is_bits.ensures) ends)
