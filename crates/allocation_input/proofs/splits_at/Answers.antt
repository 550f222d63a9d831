-- `allocation_input::splits_at`: checks 1 to 4 of what stands before the place, 22 and 5 of what stands behind.
use Prim.Native.Nat.{ℕ}
use lib.Dec.{eqb}
use lib.ListN.{take}
use lib.Seq.{length-take-le}
use mathlib.Core.Path.{◌∙◌, ap, sym}
use native.Mathlib.Omega.{arith}
use Rattle.model.specs.Checks.{first}
use Rattle.book.proofs.AcceptLaws.{Head, head-test}
use Rattle.allocation_input.specs.Input.{proposal_checks}
use Rattle.allocation_input.proofs.InputLaws.{book-variables, splits-by, splits-not}
use Rattle.allocation_input.proofs.CheckedLaws.{passed-test, refused-fault, unrefused-fault}
use Rattle.allocation_input.proofs.splits_at.Goals as goal

pub slice_bounds-check_head-end : goal.slice_bounds-check_head-end
slice_bounds-check_head-end c = sym (length-take-le _ _ (omega arith))

pub returns-then-is_err : goal.returns-then-is_err
returns-then-is_err c = splits-not _ _ (λ z. refused-fault c.check_head.result (sym c.is_err.ensures.value ∙ c.if-is_err.true) (c.check_head.ensures ∙ z))

pub slice_bounds-trailer_u16-end : goal.slice_bounds-trailer_u16-end
slice_bounds-trailer_u16-end c = sym (length-take-le _ _ (omega arith))

pub trailer_u16-n-requires : goal.trailer_u16-n-requires
trailer_u16-n-requires c =
    let headed : Head (take c.args.end c.args.input.now) = (head-test _).0 (sym c.check_head.ensures ∙ unrefused-fault c.check_head.result (sym c.is_err.ensures.value ∙ c.if-is_err.false)) in
    (headed.long, omega arith)

pub check_proposals-requires : goal.check_proposals-requires
check_proposals-requires c =
    let headed : Head (take c.args.end c.args.input.now) = (head-test _).0 (sym c.check_head.ensures ∙ unrefused-fault c.check_head.result (sym c.is_err.ensures.value ∙ c.if-is_err.false)) in
    (c.requires.0, c.requires.1, omega (arith, c.trailer_u16-n.ensures, headed.layout.few))

pub returns : goal.returns
returns c =
    let a = c.args in
    c.is_ok.ensures.value ∙ passed-test c.check_proposals.result
    ∙ ap (λ (k : ℕ). eqb k 0) (c.check_proposals.ensures
    ∙ ap (λ (n : ℕ). first (proposal_checks n a.end a.input.now)) (c.trailer_u16-n.ensures ∙ book-variables (take a.end a.input.now)))
    ∙ splits-by _ _ (sym c.check_head.ensures ∙ unrefused-fault c.check_head.result (sym c.is_err.ensures.value ∙ c.if-is_err.false))
