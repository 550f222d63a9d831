-- `flat_list::run_classes`: refused by its check, or the records of the list run with a byte for each.
use mathlib.Core.Path.{◌∙◌, sym}
use native.Mathlib.Omega.{arith}
use Rattle.model.specs.Rows.{rows_of}
use Rattle.model.specs.State.{state_of}
use Rattle.flat_list.specs.ListAnswers.{classes_run, list_answer, list_run, ran_to}
use Rattle.flat_record.proofs.ClassLaws.{classes-accepted, classes-listed, classes-promised, classes-ran, classes-refused}
use Rattle.std.proofs.lemmas.Result.{err_from_is_err_and}
use Rattle.model.proofs.RefusalLaws.{number_of-ne0}
use Rattle.flat_list.proofs.run_classes.Goals as goal

pub returns-in_err-check_classes : goal.returns-in_err-check_classes
unfolding classes_run list_run list_answer
returns-in_err-check_classes c =
    let a = c.args in
    let s = state_of a.n a.m a.bounds.now (rows_of a.coefs.now a.rhs.now a.kinds.now) a.table.now in
    let e = c.in_err-check_classes.ensures in
    let p = err_from_is_err_and c.from_residual.result c.from_residual.ensures.1 in
    let q = classes-promised s a.calls.now a.classes.now _
    (rw e (classes-refused s a.calls.now a.classes.now (λ z. number_of-ne0 c.in_err-check_classes.field-0.0 (e ∙ z)))) in
    record {
      defined = rw (p.1, p.2) q.0;
      meaning = rw (p.1, p.2) q.1.0;
      counted = rw (p.1, p.2) q.1.1;
    }

pub run_records-requires : goal.run_records-requires
run_records-requires c =
    let a = c.args in
    let s = state_of a.n a.m a.bounds.now (rows_of a.coefs.now a.rhs.now a.kinds.now) a.table.now in
    let z = sym c.in_ok-check_classes.ensures in
    record {
      calls_value = classes-listed s a.calls.now a.classes.now z;
      classes_in_bounds = omega (arith, (classes-accepted s a.calls.now a.classes.now z).1);
    }

pub returns : goal.returns
unfolding classes_run list_run list_answer ran_to
returns c =
    let a = c.args in
    let s = state_of a.n a.m a.bounds.now (rows_of a.coefs.now a.rhs.now a.kinds.now) a.table.now in
    let q = classes-promised s a.calls.now a.classes.now _
    (classes-ran s a.calls.now a.classes.now (sym c.in_ok-check_classes.ensures) c.run_records.ensures.defined c.run_records.ensures.told) in
    record { defined = q.0; meaning = q.1.0; counted = q.1.1 }
