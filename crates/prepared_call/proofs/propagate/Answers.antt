-- `prepared_call::propagate`: refused by the first check that fails, else what the accepted call comes to. Assumes nothing.
use mathlib.Core.Path.{sym}
use Rattle.std.proofs.lemmas.Result.{err_from_is_err_and}
use Rattle.prepared_checks.proofs.CheckLaws.{accepting}
use Rattle.prepared_call.proofs.CallLaws.{accepted-all, refused_all}
use Rattle.prepared_call.proofs.propagate.Goals as goal

pub returns-in_err-check_propagation : goal.returns-in_err-check_propagation
returns-in_err-check_propagation c =
    let p = err_from_is_err_and c.from_residual.result c.from_residual.ensures.1 in
    let w = refused_all c.args.ws.now c.args.bounds.now c.args.reasons.now c.args.budget _ c.in_err-check_propagation.ensures in
    rw (p.1, p.2) (record { refused = w.0; accepted = w.1.0; defined = w.1.1.0; prepared = w.1.1.1 })

pub propagate_accepted-requires : goal.propagate_accepted-requires
propagate_accepted-requires c = accepting c.args.ws.now c.args.bounds.now c.args.reasons.now c.args.budget (sym c.in_ok-check_propagation.ensures)

pub returns : goal.returns
returns c =
    let w = accepted-all c.args.ws.now c.args.bounds.now c.args.reasons.now c.args.budget (sym c.in_ok-check_propagation.ensures) c.propagate_accepted.ensures in
    record { refused = w.0; accepted = w.1.0; defined = w.1.1.0; prepared = w.1.1.1 }
