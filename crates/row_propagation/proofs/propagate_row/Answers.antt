-- `row_propagation::propagate_row` is propagate_row_of: the ≤ form's answer where the row is a ≤ row or the form is infeasible
-- (`le-answer`, `none-answer`), else what `both` makes of the two (`both-answer`). Assumes nothing.
use borrow.Author.Rules.{rules}
use lib.IntN.{neg_ℤ}
use lib.ListN.{length}
use mathlib.Core.Logic.{inl, inr}
use mathlib.Core.Path.{◌∙◌, ◌≡◌, ap, refl, subst⁻¹}
use Rattle.model.specs.Rows.{negated_coefs}
use Rattle.row.specs.Answers.{propagated_row_of}
use Rattle.row.specs.Propagation.{propagate_row}
use Rattle.row.specs.ValidRow.{ValidRow}
use Rattle.row.proofs.KindMoves.{both-answer, both-few, first-box, le-answer, none-answer}
use Rattle.row.proofs.PropagationLaws.{propagate-row-valid_row}
use Rattle.row.proofs.SignedLaws.{negated-rhs, rhs-fits, rhs-negated, rhs-read, signed-negated, signed-one}
use Rattle.row_propagation.proofs.propagate_row.Goals as goal

pub propagate_form-first-requires : goal.propagate_form-first-requires
propagate_form-first-requires c = let v = c.requires in record { valid_row = rw (rhs-read v) v; sign = inl refl }

pub returns-then-kind-ne1 : goal.returns-then-kind-ne1
returns-then-kind-ne1 c =
    let a = c.args in
    let v = c.requires in
    let A = a.coefs.now in
    let B = a.bounds.now in
    let n = length A in
    let P = c.propagate_form-first.new.bounds in
    let told : propagated_row_of c.propagate_form-first.result P ≡ propagate_row n A a.b B = rw (rhs-read v, signed-one A) at c.propagate_form-first.ensures in
    le-answer n A a.b B _ P told a.kind c.if-kind-ne1.true

pub overflow_sub-b : goal.overflow_sub-b
overflow_sub-b c = rhs-fits c.requires

pub propagate_form-requires : goal.propagate_form-requires
propagate_form-requires c =
    let a = c.args in
    let v = c.requires in
    let A = a.coefs.now in
    let B = a.bounds.now in
    let n = length A in
    let P = c.propagate_form-first.new.bounds in
    let told : propagated_row_of c.propagate_form-first.result P ≡ propagate_row n A a.b B = rw (rhs-read v, signed-one A) at c.propagate_form-first.ensures in
    let left-valid : ValidRow n A a.b P = subst⁻¹ (ValidRow n A a.b) (first-box n A a.b B _ P told) (propagate-row-valid_row v) in
    record { valid_row = rw (rhs-negated v) (negated-rhs left-valid); sign = inr refl }

pub both-requires : goal.both-requires
both-requires c =
    let a = c.args in
    let v = c.requires in
    let A = a.coefs.now in
    let B = a.bounds.now in
    let n = length A in
    let P = c.propagate_form-first.new.bounds in
    let told : propagated_row_of c.propagate_form-first.result P ≡ propagate_row n A a.b B = rw (rhs-read v, signed-one A) at c.propagate_form-first.ensures in
    let Q = c.propagate_form.new.bounds in
    let told₂ : propagated_row_of c.propagate_form.result Q ≡ propagate_row n (negated_coefs A) (neg_ℤ a.b) P =
    rw (rhs-negated v, signed-negated A) at c.propagate_form.ensures in
    both-few n A a.b B _ P told _ Q told₂ v.coefs.few

pub returns-in_default : goal.returns-in_default
returns-in_default c =
    let a = c.args in
    let v = c.requires in
    let A = a.coefs.now in
    let B = a.bounds.now in
    let n = length A in
    let P = c.propagate_form-first.new.bounds in
    let told : propagated_row_of c.propagate_form-first.result P ≡ propagate_row n A a.b B = rw (rhs-read v, signed-one A) at c.propagate_form-first.ensures in
    let Q = c.propagate_form.new.bounds in
    let told₂ : propagated_row_of c.propagate_form.result Q ≡ propagate_row n (negated_coefs A) (neg_ℤ a.b) P =
    rw (rhs-negated v, signed-negated A) at c.propagate_form.ensures in
    ap (λ r. propagated_row_of r Q) c.both.ensures
    ∙ both-answer n A a.b B _ P told _ Q told₂ a.kind c.if-kind-ne1.false (search rules)

pub returns : goal.returns
returns c =
    let a = c.args in
    let v = c.requires in
    let A = a.coefs.now in
    let B = a.bounds.now in
    let n = length A in
    let P = c.propagate_form-first.new.bounds in
    let told : propagated_row_of c.propagate_form-first.result P ≡ propagate_row n A a.b B = rw (rhs-read v, signed-one A) at c.propagate_form-first.ensures in
    none-answer n A a.b B _ P told a.kind c.if-kind-ne1.false c.in-Infeasible.is
