-- `model_checks::length_fault`: each comparison is a part of the one test (`length-test`). Assumes nothing.
use borrow.Author.Tests.{eqb-false, eqb-true}
use mathlib.Core.Path.{◌≡◌, sym}
use native.Mathlib.Omega.{arith}
use Rattle.integer.proofs.Tests.{test-false}
use Rattle.model.specs.Checks.{first, length_checks}
use Rattle.model.specs.Model.{Model}
use Rattle.model.proofs.CheckLaws.{LengthsFit, fails, first-none, length-test}
use Rattle.model_checks.proofs.check_lengths.Goals as goal

refused : (M : Model) → (LengthsFit M → ⊥) → 5 ≡ first (length_checks M)
unfolding length_checks
refused M h = fails _ 5 _ (test-false _ (length-test M) h)

accepted : (M : Model) → LengthsFit M → 0 ≡ first (length_checks M)
unfolding length_checks
accepted M h = sym ((first-none (length_checks M) tt).1 ((length-test M).1 h, tt))

pub returns-then-not-is_product : goal.returns-then-not-is_product
returns-then-not-is_product c = refused _ (λ h. eqb-false _ _ (sym c.if-not-is_product.ensures) h.0)

pub returns-then-not-is_product-2 : goal.returns-then-not-is_product-2
returns-then-not-is_product-2 c = refused _ (λ h. eqb-false _ _ (sym c.if-not-is_product-2.ensures) h.1)

pub returns-then-rhs_differ : goal.returns-then-rhs_differ
returns-then-rhs_differ c = refused _ (λ h. omega arith)

pub returns-then-kinds_differ : goal.returns-then-kinds_differ
returns-then-kinds_differ c = refused _ (λ h. omega arith)

pub returns : goal.returns
returns c =
    accepted _ (
      eqb-true _ _ (sym c.if-not-is_product.ensures),
      eqb-true _ _ (sym c.if-not-is_product-2.ensures),
      c.if-rhs_differ.false,
      c.if-kinds_differ.false,
    )
