-- `sweep::moves_by` is row_moves_of: the ≤ form decides where it moves anything, else the negated form in the same box
-- (`moves-first`, `moves-second`). Assumes nothing.
use lib.ListN.{length}
use mathlib.Core.Logic.{inl, inr}
use mathlib.Core.Path.{◌∙◌, ◌≡◌, refl, sym}
use Rattle.integer.proofs.Tests.{eqb-test}
use Rattle.model.specs.Rows.{is_equality, negated, row_with}
use Rattle.row.specs.Propagation.{row_moves}
use Rattle.row.proofs.KindLaws.{other-kind}
use Rattle.row.proofs.KindMoves.{moves-first, moves-le, moves-second}
use Rattle.row.proofs.SignedLaws.{negated-rhs, rhs-fits, rhs-negated, rhs-read, signed-negated, signed-one}
use Rattle.sweep.proofs.moves_by.Goals as goal

pub form_moves_by-requires : goal.form_moves_by-requires
form_moves_by-requires c = let v = c.requires.valid_row in record { valid_row = rw (rhs-read v) v; sign = inl refl; steps = c.requires.steps }

pub returns-then-form_moves_by : goal.returns-then-form_moves_by
returns-then-form_moves_by c =
    let a = c.args in
    let first : c.form_moves_by.result ≡ row_moves (length a.coefs.now) a.coefs.now a.b a.bounds.now =
    rw (rhs-read c.requires.valid_row, signed-one a.coefs.now) at c.form_moves_by.ensures in
    sym (moves-first _ (row_with _ _ a.kind) _ (sym first ∙ c.if-form_moves_by.true))

pub returns-then-kind-ne1 : goal.returns-then-kind-ne1
unfolding is_equality
returns-then-kind-ne1 c =
    let a = c.args in
    let first : c.form_moves_by.result ≡ row_moves (length a.coefs.now) a.coefs.now a.b a.bounds.now =
    rw (rhs-read c.requires.valid_row, signed-one a.coefs.now) at c.form_moves_by.ensures in
    sym (moves-le _ (row_with _ _ a.kind) _ (other-kind a.kind c.if-kind-ne1.true) ∙ sym first ∙ c.if-form_moves_by.false)

pub overflow_sub-b : goal.overflow_sub-b
overflow_sub-b c = rhs-fits c.requires.valid_row

pub form_moves_by-requires-2 : goal.form_moves_by-requires-2
form_moves_by-requires-2 c = let v = c.requires.valid_row in record { valid_row = rw (rhs-negated v) (negated-rhs v); sign = inr refl; steps = c.requires.steps }

pub returns : goal.returns
unfolding is_equality negated
returns c =
    let a = c.args in
    let first : c.form_moves_by.result ≡ row_moves (length a.coefs.now) a.coefs.now a.b a.bounds.now =
    rw (rhs-read c.requires.valid_row, signed-one a.coefs.now) at c.form_moves_by.ensures in
    let told = rw (rhs-negated c.requires.valid_row, signed-negated a.coefs.now) at c.form_moves_by-2.ensures in
    told
    ∙ sym
    (moves-second _ (row_with _ _ a.kind) _ c.requires.valid_row.coefs.box.len ((eqb-test a.kind 1).1 c.if-kind-ne1.false) (sym first ∙ c.if-form_moves_by.false))
