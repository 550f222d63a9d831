-- `flat_list::records::run_records`: before each record, what is left gives the whole, and the classes so far are told (`Told`).
use mathlib.Core.Path.{◌∙◌, ap}
use native.Mathlib.Omega.{arith}
use Rattle.semantics.specs.Run.{class_listed, no_counts, step_listed}
use Rattle.model.specs.Rows.{rows_of}
use Rattle.model.specs.State.{state_of}
use Rattle.demands.proofs.CallLists.{along-end, list-accepted}
use Rattle.call.specs.Classes.{counts_of}
use Rattle.flat_list.specs.ListAnswers.{ran_to}
use Rattle.flat_record.proofs.ClassLaws.{told-end, told_more, told-start}
use Rattle.flat_list.proofs.records.run_records.Goals as goal

pub loop-i-init : goal.loop-i-init
unfolding counts_of no_counts
loop-i-init c =
    let a = c.args in
    let s = state_of a.n a.m a.bounds.now (rows_of a.coefs.now a.rhs.now a.kinds.now) a.table.now in
    told-start s a.calls.now a.classes.now ((list-accepted s a.calls.now).0 c.requires.calls_value).0

pub record_at-call-requires : goal.record_at-call-requires
record_at-call-requires c = omega arith

pub run_record-class-requires : goal.run_record-class-requires
run_record-class-requires c = c.loop-i.invariant.along.valid

pub count-counts-requires : goal.count-counts-requires
unfolding counts_of
count-counts-requires c = omega (arith, c.loop-i.invariant.along.counted, c.well_formed)

pub loop-i-preserved : goal.loop-i-preserved
loop-i-preserved c =
    let a = c.args in
    let s = state_of a.n a.m a.bounds.now (rows_of a.coefs.now a.rhs.now a.kinds.now) a.table.now in
    let h = c.loop-i in
    let r = state_of a.n a.m h.bounds (rows_of a.coefs.now a.rhs.now a.kinds.now) h.table in
    let g = c.record_at-call.ensures r in
    told_more s a.calls.now a.classes.now r (counts_of h.counts) h.i h.classes h.invariant
    c.loop-i-test.true (c.run_record-class.ensures.class ∙ ap (class_listed r) g, c.run_record-class.ensures.left ∙ ap (step_listed r) g)
    c.count-counts.ensures c.tell.ensures

pub returns : goal.returns
unfolding ran_to
returns c =
    let a = c.args in
    let s = state_of a.n a.m a.bounds.now (rows_of a.coefs.now a.rhs.now a.kinds.now) a.table.now in
    let h = c.loop-i in
    let r = state_of a.n a.m h.bounds (rows_of a.coefs.now a.rhs.now a.kinds.now) h.table in
    record {
      defined = along-end s a.calls.now r (counts_of h.counts) h.i h.invariant.along c.loop-i-test.false ((list-accepted s a.calls.now).0 c.requires.calls_value).1;
      told = told-end s a.calls.now a.classes.now r (counts_of h.counts) h.i h.classes h.invariant c.loop-i-test.false c.requires.classes_in_bounds;
    }
