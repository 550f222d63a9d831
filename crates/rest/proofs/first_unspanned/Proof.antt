-- `rest::first_unspanned`: every row of a fixpoint is clean. Assumes nothing.
use borrow.Author.Rules.{rules}
use Rattle.model.specs.Rows.{rows_of}
use Rattle.semantics.specs.FixpointTest.{first_moving, is_fixpoint, row_leaves}
use Rattle.call_laws.proofs.LowestLaws.{lowest-none}
use Rattle.probe_side.proofs.MarkedLaws.{marked_all}
use Rattle.rest.proofs.first_unspanned.Statement.{statement}
use Rattle.rest.proofs.first_unspanned.Tie as tie

slice-aggregate-first-unspanned-marked : tie.Need-slice_bounds-first_unspanned_marked-end
slice-aggregate-first-unspanned-marked c = search rules

slice-aggregate-first-unspanned-marked-2 : tie.Need-slice_bounds-first_unspanned_marked-end-2
slice-aggregate-first-unspanned-marked-2 c = search rules

slice-aggregate-first-unspanned-marked-3 : tie.Need-slice_bounds-first_unspanned_marked-end-3
slice-aggregate-first-unspanned-marked-3 c = search rules

first-unspanned-marked-requires : tie.Need-first_unspanned_marked-requires
unfolding first_moving is_fixpoint
first-unspanned-marked-requires c κs =
    let s = c.before.before.before.before in
    let p = s.requires in
    let a = s.args in
    let A = rows_of a.coefs.now a.rhs.now a.kinds.now in
    (p.0, marked_all p.0 p.1.0 ((lowest-none (row_leaves a.n A a.bounds.now) a.m).0 p.1.1))

returns : tie.Need-returns
returns c = c.first_unspanned_marked.ensures

pub first_unspanned_spec : {M : Type 1} → statement M
first_unspanned_spec =
    tie.close
    (tie.spec
    slice-aggregate-first-unspanned-marked
    slice-aggregate-first-unspanned-marked-2
    slice-aggregate-first-unspanned-marked-3
    first-unspanned-marked-requires
    returns)
