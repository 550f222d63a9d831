-- `probing::probe`: nothing is known yet. Assumes nothing.
use borrow.Author.Rules.{rules}
use Rattle.probe_side.proofs.MarkedLaws.{marked-none}
use Rattle.probing.proofs.probe.Statement.{statement}
use Rattle.probing.proofs.probe.Tie as tie

slice-aggregate-probe-marked : tie.Need-slice_bounds-probe_marked-end
slice-aggregate-probe-marked c = search rules

slice-aggregate-probe-marked-2 : tie.Need-slice_bounds-probe_marked-end-2
slice-aggregate-probe-marked-2 c = search rules

slice-aggregate-probe-marked-3 : tie.Need-slice_bounds-probe_marked-end-3
slice-aggregate-probe-marked-3 c = search rules

probe-marked-requires : tie.Need-probe_marked-requires
probe-marked-requires c κs = let p = c.requires in (p.0, (p.1.0, (p.1.1.0, (p.1.1.1, marked-none p.0))))

same_length : tie.Need-shape_of-bounds
same_length c = search rules

same-length-2 : tie.Need-shape_of-table
same-length-2 c = search rules

returns : tie.Need-returns
returns c = c.probe_marked.ensures.0

pub probe_spec : {M : Type 1} → statement M
probe_spec =
    tie.close
    (tie.spec
    slice-aggregate-probe-marked
    slice-aggregate-probe-marked-2
    slice-aggregate-probe-marked-3
    probe-marked-requires
    same_length
    same-length-2
    returns)
