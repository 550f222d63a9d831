-- `call_list::run` is the list of its records: `run_none` starts it, a turn runs one record more, and the laws of `demands` say the rest.
-- Assumes nothing.
use Rattle.std.proofs.Common.{◌+◌, ◌≡◌, ◌<◌, ◌^◌, arith, length, ℕ}
use mathlib.Core.Path.{subst, sym}
use Rattle.model.specs.Rows.{rows_of}
use Rattle.model.specs.State.{State, state_of}
use Rattle.semantics.specs.CallList.{ListRun}
use Rattle.demands.proofs.CallLists.{counts-add-up, demand-3-lists, list-means}
use Rattle.demands.proofs.Demand3.{handed-in}
use Rattle.demands.specs.TwoLists.{ListMeans}
use Rattle.flat_list.specs.ListAnswers.{list_run}
use Rattle.call_record.specs.Records.{numbers_of}
use Rattle.call_record.proofs.Running.{Running, running-end, running-next, running-room, running-start}
use Rattle.call_list.proofs.run.Goals as goal

pub loop-i-init : goal.loop-i-init
loop-i-init c =
    let a = c.args in
    let s = state_of a.n a.m a.bounds.now (rows_of a.coefs.now a.rhs.now a.kinds.now) a.table.now in
    subst (λ (r : ListRun). Running s a.calls.now r 0) (sym c.run_none-answer.ensures) (running-start s a.calls.now)

pub run_next-answer-requires : goal.run_next-answer-requires
run_next-answer-requires c =
    let a = c.args in
    let A = rows_of a.coefs.now a.rhs.now a.kinds.now in
    let s = state_of a.n a.m a.bounds.now A a.table.now in
    let r = list_run c.loop-i.answer (state_of a.n a.m c.loop-i.bounds A c.loop-i.table) in
    let small : c.loop-i.i < 2 ^ 63 = omega (arith, c.loop-i-test.true, c.well_formed) in
    running-room s a.calls.now c.loop-i.i r c.loop-i.invariant small

pub loop-i-preserved : goal.loop-i-preserved
loop-i-preserved c =
    let a = c.args in
    let A = rows_of a.coefs.now a.rhs.now a.kinds.now in
    let s = state_of a.n a.m a.bounds.now A a.table.now in
    let r = list_run c.loop-i.answer (state_of a.n a.m c.loop-i.bounds A c.loop-i.table) in
    subst (λ (q : ListRun). Running s a.calls.now q (c.loop-i.i + 1)) (sym c.run_next-answer.ensures)
    (running-next s a.calls.now c.loop-i.i r c.record_at-call.result c.loop-i.invariant c.loop-i-test.true c.record_at-call.ensures)

pub returns-clause-defined : goal.returns-clause-defined
returns-clause-defined c =
    let a = c.args in
    let A = rows_of a.coefs.now a.rhs.now a.kinds.now in
    running-end (state_of a.n a.m a.bounds.now A a.table.now) a.calls.now c.loop-i.i
    (list_run c.loop-i.answer (state_of a.n a.m c.loop-i.bounds A c.loop-i.table)) c.loop-i.invariant c.loop-i-test.false

pub returns-clause-meaning : goal.returns-clause-meaning
returns-clause-meaning c =
    let a = c.args in
    let A = rows_of a.coefs.now a.rhs.now a.kinds.now in
    let s = state_of a.n a.m a.bounds.now A a.table.now in
    let e = running-end s a.calls.now c.loop-i.i
    (list_run c.loop-i.answer (state_of a.n a.m c.loop-i.bounds A c.loop-i.table)) c.loop-i.invariant c.loop-i-test.false in
    subst (ListMeans s) (sym e) (list-means s (numbers_of a.calls.now))

pub returns-clause-demand3 : goal.returns-clause-demand3
returns-clause-demand3 c = (handed-in, demand-3-lists)

pub returns-clause-sum : goal.returns-clause-sum
returns-clause-sum c = counts-add-up
