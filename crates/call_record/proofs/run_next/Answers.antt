-- `call_record::run_next`: a refused list stays as it is; else the record is run and counted.
use Prim.Native.Nat.{◌+◌, ◌<◌, ◌^◌}
use mathlib.Core.Path.{◌≡◌}
use Rattle.model.specs.Valid.{ValidState}
use Rattle.model.specs.State.{State}
use Rattle.call.specs.Classes.{counts_of}
use Rattle.call.specs.declared.Counts.{Counts}
use Rattle.flat_list.specs.ListAnswers.{list_answer, list_run}
use Rattle.call_record.specs.Records.{Runs, RunsAt, next_of, run_next}
use Rattle.std.specs.Prelude.{Result, Ok}
use Rattle.std.proofs.lemmas.Result.{err_from_is_err_and}
use Rattle.model.specs.declared.refusal.Refusal.{Refusal}
use Rattle.call.specs.declared.Counts.{Counts}
use Rattle.call_record.proofs.run_next.Goals as goal

-- of a list that is run, what is required
run-valid : {a : Result Counts Refusal} {k : Counts} (s : State) → Runs (list_run a s) → a ≡ Ok k
    → ValidState s × (k.refused + k.infeasible + k.changed + k.unchanged < 2 ^ 63)
unfolding Runs RunsAt list_run list_answer counts_of
run-valid s p e = let r = rw e at p in (r.valid, r.small)

pub returns-in_err-counts : goal.returns-in_err-counts
unfolding list_run list_answer run_next next_of
returns-in_err-counts c =
    let p = err_from_is_err_and c.from_residual.result c.from_residual.ensures.1 in
    rw (p.1, p.2, c.in_err-counts.was)

pub run_record-class-requires : goal.run_record-class-requires
run_record-class-requires c = (run-valid _ c.requires c.in_ok-counts.was).0

pub count-requires : goal.count-requires
count-requires c = (run-valid _ c.requires c.in_ok-counts.was).1

pub returns : goal.returns
unfolding list_run list_answer run_next next_of
returns c = rw (c.in_ok-counts.was, c.count.ensures, c.run_record-class.ensures.class, c.run_record-class.ensures.left)
