-- `verdicts::call::check_call`: what each call says is the test of its check, and the checks are passed in their order; the model's
-- chain makes check 3 once more.
use Prim.Native.Nat.{ℕ}
use mathlib.Core.List.{List, ◌++◌}
use mathlib.Core.Logic.{inl, inr}
use mathlib.Core.Path.{◌∙◌, ◌≡◌, ap, sym}
use native.Mathlib.Omega.{arith}
use Rattle.model.specs.Checks.{Check, first, model_fault, none, size_checks}
use Rattle.model.specs.Model.{model_of}
use Rattle.model.specs.Rows.{rows_of}
use Rattle.proposals.specs.Call.{allocation_checks, allocation_fault}
use Rattle.proposals.proofs.CallLaws.{count-in, count-out, model-rest}
use Rattle.std.proofs.lemmas.Result.{err_from_is_err_and}
use Rattle.model.proofs.CheckLaws.{accepts, fails, past, refuses}
use Rattle.verdicts.proofs.call.check_call.Goals as goal

-- past check 3
past-size : {r : ℕ} (n m : ℕ) (ys : List Check) → 0 ≡ first (size_checks n m) → r ≡ first ys → r ≡ first (size_checks n m ++ ys)
unfolding size_checks
past-size n m ys e h = accepts (size_checks n m) ys tt e h

pub returns-in_err-check_size : goal.returns-in_err-check_size
unfolding allocation_fault allocation_checks
returns-in_err-check_size c =
    let p = err_from_is_err_and c.from_residual.result c.from_residual.ensures.1 in
    rw (p.1, p.2) (refuses (size_checks c.args.n c.args.m) _ _ c.in_err-check_size.ensures)

pub returns-then-count-lt1 : goal.returns-then-count-lt1
unfolding allocation_fault allocation_checks
returns-then-count-lt1 c =
    past-size c.args.n c.args.m _ c.in_ok-check_size.ensures (fails _ 22 _ (count-out c.args.count (inl (omega arith))))

pub returns-then-count-gt-MAX_PROPOSALS : goal.returns-then-count-gt-MAX_PROPOSALS
unfolding allocation_fault allocation_checks
returns-then-count-gt-MAX_PROPOSALS c =
    past-size c.args.n c.args.m _ c.in_ok-check_size.ensures (fails _ 22 _ (count-out c.args.count (inr (omega arith))))

pub returns : goal.returns
unfolding allocation_fault allocation_checks
returns c =
    let M = model_of c.args.n c.args.m c.args.bounds.now (rows_of c.args.coefs.now c.args.rhs.now c.args.kinds.now) in
    let size = c.in_ok-check_size.ensures in
    past-size c.args.n c.args.m _ size
    (past _ 22 _ (count-in c.args.count (omega arith) (omega arith))
    (c.check_model.ensures ∙ ap (model_fault M none) c.is_lent-fits.ensures ∙ model-rest M _ (sym size)))
