-- `propagation::search::last_look`: what `propagate_from` says where no pass is left. Assumes nothing.
use Rattle.std.proofs.Common.{arith}
use Rattle.model.specs.Rows.{rows_of}
use Rattle.semantics.specs.Propagate.{propagate_from}
use Rattle.call_laws.proofs.PropagateLaws.{look-converged, look-spent}
use Rattle.propagation.specs.Results.{propagation_of}
use Rattle.propagation.proofs.search.last_look.Goals as goal

pub returns-then-first_moving-m : goal.returns-then-first_moving-m
unfolding propagation_of propagate_from
returns-then-first_moving-m c =
    let a = c.args in
    rw (look-spent a.n a.m (rows_of a.coefs.now a.rhs.now a.kinds.now) a.bounds.now (omega (arith, c.first_moving.ensures, c.if-first_moving-m.true)))

pub returns : goal.returns
unfolding propagation_of propagate_from
returns c =
    let a = c.args in
    rw (look-converged a.n a.m (rows_of a.coefs.now a.rhs.now a.kinds.now) a.bounds.now (omega (arith, c.first_moving.ensures, c.if-first_moving-m.false)))
