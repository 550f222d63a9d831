-- `search::last_look`: what `propagate_from` says where no pass is left. Assumes nothing.
use native.Mathlib.Omega.{arith}
use Rattle.prepared_model.specs.Layout.{decode}
use Rattle.propagation.specs.Results.{propagation_of}
use Rattle.semantics.specs.Propagate.{propagate_from}
use Rattle.call_laws.proofs.PropagateLaws.{look-converged, look-spent}
use Rattle.prepared_propagation.proofs.search.last_look.Goals as goal

pub returns-then-first_moving-m : goal.returns-then-first_moving-m
unfolding propagation_of propagate_from
returns-then-first_moving-m c k =
    let e = c.first_moving.ensures k in
    rw (look-spent c.args.n c.args.m (decode c.args.n c.args.m c.args.ws.now) c.args.bounds.now (omega (arith, e, c.if-first_moving-m.true)))

pub returns : goal.returns
unfolding propagation_of propagate_from
returns c k =
    let e = c.first_moving.ensures k in
    rw (look-converged c.args.n c.args.m (decode c.args.n c.args.m c.args.ws.now) c.args.bounds.now (omega (arith, e, c.if-first_moving-m.false)))
