-- `sweep::propagate_row_by` is propagate_row_of: the ≤ form's answer where the row is a ≤ row or the form is infeasible
-- (`le-answer`, `none-answer`), else what `both` makes of the two (`both-answer`). Assumes nothing.
use borrow.Author.Rules.{rules}
use lib.IntN.{neg_ℤ}
use lib.ListN.{length}
use mathlib.Core.Logic.{inl, inr}
use mathlib.Core.Path.{◌∙◌, ◌≡◌, ap, refl, subst⁻¹}
use Rattle.model.specs.Rows.{negated_coefs}
use Rattle.row.specs.Answers.{propagated_row_of}
use Rattle.row.specs.Propagation.{propagate_row}
use Rattle.row.specs.ValidRow.{ValidRow}
use Rattle.row.proofs.KindMoves.{both-answer, both-few, first-box, le-answer, none-answer}
use Rattle.row.proofs.PropagationLaws.{propagate-row-valid_row}
use Rattle.row.proofs.SignedLaws.{negated-rhs, rhs-fits, rhs-negated, rhs-read, signed-negated, signed-one}
use Rattle.sweep.proofs.propagate_row_by.Goals as goal

pub propagate_form_by-first-requires : goal.propagate_form_by-first-requires
propagate_form_by-first-requires c = let v = c.requires.valid_row in record { valid_row = rw (rhs-read v) v; sign = inl refl; steps = c.requires.steps }

pub returns-then-kind-ne1 : goal.returns-then-kind-ne1
returns-then-kind-ne1 c =
    let a = c.args in
    let v = c.requires.valid_row in
    let A = a.coefs.now in
    let B = a.bounds.now in
    let n = length A in
    let P = c.propagate_form_by-first.new.bounds in
    let told : propagated_row_of c.propagate_form_by-first.result P ≡ propagate_row n A a.b B = rw (rhs-read v, signed-one A) at c.propagate_form_by-first.ensures in
    le-answer n A a.b B _ P told a.kind c.if-kind-ne1.true

pub overflow_sub-b : goal.overflow_sub-b
overflow_sub-b c = rhs-fits c.requires.valid_row

pub propagate_form_by-requires : goal.propagate_form_by-requires
propagate_form_by-requires c =
    let a = c.args in
    let v = c.requires.valid_row in
    let A = a.coefs.now in
    let B = a.bounds.now in
    let n = length A in
    let P = c.propagate_form_by-first.new.bounds in
    let told : propagated_row_of c.propagate_form_by-first.result P ≡ propagate_row n A a.b B = rw (rhs-read v, signed-one A) at c.propagate_form_by-first.ensures in
    let left-valid : ValidRow n A a.b P = subst⁻¹ (ValidRow n A a.b) (first-box n A a.b B _ P told) (propagate-row-valid_row v) in
    record { valid_row = rw (rhs-negated v) (negated-rhs left-valid); sign = inr refl; steps = c.requires.steps }

pub both-requires : goal.both-requires
both-requires c =
    let a = c.args in
    let v = c.requires.valid_row in
    let A = a.coefs.now in
    let B = a.bounds.now in
    let n = length A in
    let P = c.propagate_form_by-first.new.bounds in
    let told : propagated_row_of c.propagate_form_by-first.result P ≡ propagate_row n A a.b B = rw (rhs-read v, signed-one A) at c.propagate_form_by-first.ensures in
    let Q = c.propagate_form_by.new.bounds in
    let told₂ : propagated_row_of c.propagate_form_by.result Q ≡ propagate_row n (negated_coefs A) (neg_ℤ a.b) P =
    rw (rhs-negated v, signed-negated A) at c.propagate_form_by.ensures in
    both-few n A a.b B _ P told _ Q told₂ v.coefs.few

pub returns-in_default : goal.returns-in_default
returns-in_default c =
    let a = c.args in
    let v = c.requires.valid_row in
    let A = a.coefs.now in
    let B = a.bounds.now in
    let n = length A in
    let P = c.propagate_form_by-first.new.bounds in
    let told : propagated_row_of c.propagate_form_by-first.result P ≡ propagate_row n A a.b B = rw (rhs-read v, signed-one A) at c.propagate_form_by-first.ensures in
    let Q = c.propagate_form_by.new.bounds in
    let told₂ : propagated_row_of c.propagate_form_by.result Q ≡ propagate_row n (negated_coefs A) (neg_ℤ a.b) P =
    rw (rhs-negated v, signed-negated A) at c.propagate_form_by.ensures in
    ap (λ r. propagated_row_of r Q) c.both.ensures
    ∙ both-answer n A a.b B _ P told _ Q told₂ a.kind c.if-kind-ne1.false (search rules)

pub returns : goal.returns
returns c =
    let a = c.args in
    let v = c.requires.valid_row in
    let A = a.coefs.now in
    let B = a.bounds.now in
    let n = length A in
    let P = c.propagate_form_by-first.new.bounds in
    let told : propagated_row_of c.propagate_form_by-first.result P ≡ propagate_row n A a.b B = rw (rhs-read v, signed-one A) at c.propagate_form_by-first.ensures in
    none-answer n A a.b B _ P told a.kind c.if-kind-ne1.false c.in-Infeasible.is
