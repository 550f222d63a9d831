-- `probe_step::run_probe`: nothing is known yet. Assumes nothing.
use borrow.Author.Rules.{rules}
use Rattle.model.specs.State.{state_of}
use Rattle.probe_side.proofs.MarkedLaws.{marked-none}
use Rattle.probe_step.proofs.run_probe.Statement.{statement}
use Rattle.probe_step.proofs.run_probe.Tie as tie

slice-aggregate-run-probe-marked : tie.Need-slice_bounds-run_probe_marked-end
slice-aggregate-run-probe-marked c = search rules

slice-aggregate-run-probe-marked-2 : tie.Need-slice_bounds-run_probe_marked-end-2
slice-aggregate-run-probe-marked-2 c = search rules

slice-aggregate-run-probe-marked-3 : tie.Need-slice_bounds-run_probe_marked-end-3
slice-aggregate-run-probe-marked-3 c = search rules

run-probe-marked-requires : tie.Need-run_probe_marked-step-requires
unfolding state_of
run-probe-marked-requires c κs = let p = c.requires in (p.0, (p.1, marked-none p.0.model))

same_length : tie.Need-shape_of-bounds
same_length c = search rules

same-length-2 : tie.Need-shape_of-table
same-length-2 c = search rules

returns : tie.Need-returns
returns c = search rules

pub run_probe_spec : {M : Type 1} → statement M
run_probe_spec =
    tie.close
    (tie.spec
    slice-aggregate-run-probe-marked
    slice-aggregate-run-probe-marked-2
    slice-aggregate-run-probe-marked-3
    run-probe-marked-requires
    same_length
    same-length-2
    returns)
