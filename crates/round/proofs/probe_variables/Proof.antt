-- `round::probe_variables`: nothing is known yet. Assumes nothing.
use borrow.Author.Rules.{rules}
use Rattle.model.specs.State.{state_of}
use Rattle.probe_side.proofs.MarkedLaws.{marked-none}
use Rattle.round.proofs.probe_variables.Statement.{statement}
use Rattle.round.proofs.probe_variables.Tie as tie

slice-aggregate-probe-variables-marked : tie.Need-slice_bounds-probe_variables_marked-end
slice-aggregate-probe-variables-marked c = search rules

slice-aggregate-probe-variables-marked-2 : tie.Need-slice_bounds-probe_variables_marked-end-2
slice-aggregate-probe-variables-marked-2 c = search rules

slice-aggregate-probe-variables-marked-3 : tie.Need-slice_bounds-probe_variables_marked-end-3
slice-aggregate-probe-variables-marked-3 c = search rules

probe-variables-marked-requires : tie.Need-probe_variables_marked-requires
unfolding state_of
probe-variables-marked-requires c κs = let p = c.requires in (p, marked-none p.model)

same_length : tie.Need-shape_of-bounds
same_length c = search rules

same-length-2 : tie.Need-shape_of-table
same-length-2 c = search rules

returns : tie.Need-returns
returns c = search rules

pub probe_variables_spec : {M : Type 1} → statement M
probe_variables_spec =
    tie.close
    (tie.spec
    slice-aggregate-probe-variables-marked
    slice-aggregate-probe-variables-marked-2
    slice-aggregate-probe-variables-marked-3
    probe-variables-marked-requires
    same_length
    same-length-2
    returns)
