-- `flat_list::run`: refused by the list's check, or its records run; no byte is lent for a class.
use mathlib.Core.Path.{◌∙◌, sym}
use Rattle.semantics.specs.CallList.{refused_list}
use Rattle.model.specs.Rows.{rows_of}
use Rattle.model.specs.State.{state_of}
use Rattle.demands.proofs.CallLists.{list-refused}
use Rattle.flat_list.specs.ListAnswers.{list_answer, list_run, ran_to}
use Rattle.flat_list.proofs.ListLaws.{list-promised}
use Rattle.std.proofs.lemmas.Result.{err_from_is_err_and}
use Rattle.std.proofs.Common.{arith}
use Rattle.model.specs.Refusals.{number_of}
use Rattle.model.proofs.RefusalLaws.{number_of-ne0}
use Rattle.flat_list.proofs.run.Goals as goal

pub returns-in_err-check_list : goal.returns-in_err-check_list
unfolding list_run list_answer
returns-in_err-check_list c =
    let a = c.args in
    let s = state_of a.n a.m a.bounds.now (rows_of a.coefs.now a.rhs.now a.kinds.now) a.table.now in
    let e = c.in_err-check_list.ensures in
    let p = err_from_is_err_and c.from_residual.result c.from_residual.ensures.1 in
    let q = list-promised s a.calls.now (record { answer = refused_list (number_of c.in_err-check_list.field-0.0); state = s })
    (sym (list-refused s a.calls.now (λ z. number_of-ne0 c.in_err-check_list.field-0.0 (e ∙ z)) ∙ rw e)) in
    record {
      defined = rw (p.1, p.2) q.0;
      meaning = rw (p.1, p.2) q.1.0;
      demand3 = q.1.1.0;
      sum = q.1.1.1;
    }

pub run_records-requires : goal.run_records-requires
run_records-requires c = record { calls_value = sym c.in_ok-check_list.ensures; classes_in_bounds = omega arith }

pub returns : goal.returns
unfolding list_run list_answer ran_to
returns c =
    let a = c.args in
    let s = state_of a.n a.m a.bounds.now (rows_of a.coefs.now a.rhs.now a.kinds.now) a.table.now in
    let q = list-promised s a.calls.now _ c.run_records.ensures.defined in
    record { defined = q.0; meaning = q.1.0; demand3 = q.1.1.0; sum = q.1.1.1 }
