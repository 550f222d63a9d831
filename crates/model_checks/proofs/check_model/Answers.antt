-- `model_checks::check_model`: each call answers for its list of checks, and the lists are passed in their order.
use Rattle.std.proofs.Common.{◌≡◌, ℕ, List, ◌++◌}
use Rattle.std.proofs.lemmas.Result.{err_from_is_err_and}
use Rattle.model.specs.Checks.{Check, box_checks, first, length_checks, model_checks, model_fault, number_checks, size_checks, table_byte_checks, table_length_checks}
use Rattle.model.specs.Model.{Model, model_of}
use Rattle.model.specs.Rows.{rows_of}
use Rattle.model.proofs.CheckLaws.{accepts, fails, past, refuses}
use Rattle.model_checks.proofs.check_model.Goals as goal

-- past the sizes and the lengths, what the later checks answer is the answer
past_lengths : {r : ℕ} (M : Model) (ys : List Check) → 0 ≡ first (size_checks M.n M.m) → 0 ≡ first (length_checks M) → r ≡ first ys
    → r ≡ first (size_checks M.n M.m ++ (length_checks M ++ ys))
unfolding size_checks length_checks
past_lengths M ys s l h = accepts (size_checks M.n M.m) _ tt s (accepts (length_checks M) _ tt l h)

past_size : {r : ℕ} (n m : ℕ) (ys : List Check) → 0 ≡ first (size_checks n m) → r ≡ first ys → r ≡ first (size_checks n m ++ ys)
unfolding size_checks
past_size n m ys s h = accepts (size_checks n m) _ tt s h

pub returns-in_err-check_size : goal.returns-in_err-check_size
unfolding model_fault model_checks
returns-in_err-check_size c =
    let p = err_from_is_err_and c.from_residual.result c.from_residual.ensures.1 in
    rw (p.1, p.2) (refuses (size_checks c.args.n c.args.m) _ _ c.in_err-check_size.ensures)

pub returns-in_err-check_lengths : goal.returns-in_err-check_lengths
unfolding model_fault model_checks
returns-in_err-check_lengths c =
    let p = err_from_is_err_and c.from_residual-in_err-check_lengths.result c.from_residual-in_err-check_lengths.ensures.1 in
    rw (p.1, p.2) (past_size c.args.n c.args.m _ c.in_ok-check_size.ensures (refuses _ _ _ c.in_err-check_lengths.ensures))

pub returns-then-not-fits : goal.returns-then-not-fits
unfolding model_fault model_checks table_length_checks
returns-then-not-fits c =
    past_lengths (model_of c.args.n c.args.m c.args.bounds.now (rows_of c.args.coefs.now c.args.rhs.now c.args.kinds.now)) _ c.in_ok-check_size.ensures c.in_ok-check_lengths.ensures
    (fails _ 5 _ c.if-not-fits.true)

pub returns : goal.returns
unfolding model_fault model_checks table_length_checks table_byte_checks number_checks box_checks
returns c =
    past_lengths (model_of c.args.n c.args.m c.args.bounds.now (rows_of c.args.coefs.now c.args.rhs.now c.args.kinds.now)) _ c.in_ok-check_size.ensures c.in_ok-check_lengths.ensures
    (past _ 5 _ c.if-not-fits.false c.check_numbers.ensures)
