-- `round::round`: each phase goes on from where the phases before it led, and the flag says whether one of them changed something; the
-- probes alone have sides. Assumes nothing.
use Rattle.std.proofs.Common.{refl}
use mathlib.Core.Bool.{◌||◌}
use Rattle.model.specs.Rows.{rows_of}
use Rattle.model.specs.State.{state_of}
use Rattle.probe_step.proofs.AcceptedLaws.{ran-propagation}
use Rattle.rounds.specs.Round.{and_then, probes, propagate_call, removals, round_budget, tightenings}
use Rattle.rounds.proofs.RoundLaws.{Leads, accepts-propagation, in_order, leads-then, leads-valid, one-call}
use Rattle.rounds.proofs.SpentLaws.{round-spent}
use Rattle.semantics.specs.Call.{call_of, kind_of}
use Rattle.round.proofs.round.Goals as goal

pub propagate-propagation-requires : goal.propagate-propagation-requires
unfolding state_of
propagate-propagation-requires c = c.requires.model

pub remove_rows-changed-requires : goal.remove_rows-changed-requires
unfolding state_of call_of kind_of propagate_call
remove_rows-changed-requires c =
    let a = c.args in
    let A = rows_of a.coefs.now a.rhs.now a.kinds.now in
    let start = state_of a.n a.m a.bounds.now A a.table.now in
    let B = c.propagate-propagation.new.bounds in
    let one = state_of a.n a.m B A a.table.now in
    let first : Leads start (propagate_call start) one c.is_changed-changed.result =
    one-call (call_of start 2 0 0 round_budget)
    (ran-propagation a.n a.m a.bounds.now A a.table.now 2 0 0 round_budget (accepts-propagation c.requires) _ _ refl c.class_of_propagation.ensures c.propagate-propagation.ensures)
    c.is_changed-changed.ensures in
    (leads-valid first c.requires).model

pub tighten_rows-changed-requires : goal.tighten_rows-changed-requires
unfolding state_of call_of kind_of propagate_call
tighten_rows-changed-requires c =
    let a = c.args in
    let A = rows_of a.coefs.now a.rhs.now a.kinds.now in
    let start = state_of a.n a.m a.bounds.now A a.table.now in
    let B = c.propagate-propagation.new.bounds in
    let one = state_of a.n a.m B A a.table.now in
    let first : Leads start (propagate_call start) one c.is_changed-changed.result =
    one-call (call_of start 2 0 0 round_budget)
    (ran-propagation a.n a.m a.bounds.now A a.table.now 2 0 0 round_budget (accepts-propagation c.requires) _ _ refl c.class_of_propagation.ensures c.propagate-propagation.ensures)
    c.is_changed-changed.ensures in
    let r = c.remove_rows-changed in
    let two = state_of a.n a.m B (rows_of r.new.coefs r.new.rhs r.new.kinds) a.table.now in
    let second : Leads start (and_then propagate_call removals start) two (c.is_changed-changed.result || r.result) =
    leads-then propagate_call removals first (record { left = r.ensures.left _ c.requires.table; changed = r.ensures.changed _ c.requires.table }) refl in
    (leads-valid second c.requires).model

pub probe_variables-probing-requires : goal.probe_variables-probing-requires
unfolding state_of call_of kind_of propagate_call
probe_variables-probing-requires c =
    let a = c.args in
    let A = rows_of a.coefs.now a.rhs.now a.kinds.now in
    let start = state_of a.n a.m a.bounds.now A a.table.now in
    let B = c.propagate-propagation.new.bounds in
    let one = state_of a.n a.m B A a.table.now in
    let first : Leads start (propagate_call start) one c.is_changed-changed.result =
    one-call (call_of start 2 0 0 round_budget)
    (ran-propagation a.n a.m a.bounds.now A a.table.now 2 0 0 round_budget (accepts-propagation c.requires) _ _ refl c.class_of_propagation.ensures c.propagate-propagation.ensures)
    c.is_changed-changed.ensures in
    let r = c.remove_rows-changed in
    let two = state_of a.n a.m B (rows_of r.new.coefs r.new.rhs r.new.kinds) a.table.now in
    let second : Leads start (and_then propagate_call removals start) two (c.is_changed-changed.result || r.result) =
    leads-then propagate_call removals first (record { left = r.ensures.left _ c.requires.table; changed = r.ensures.changed _ c.requires.table }) refl in
    let t = c.tighten_rows-changed in
    let three = state_of a.n a.m B (rows_of t.new.coefs t.new.rhs r.new.kinds) a.table.now in
    let third : Leads start (and_then (and_then propagate_call removals) tightenings start) three (c.is_changed-changed.result || r.result || t.result) =
    leads-then (and_then propagate_call removals) tightenings second (record { left = t.ensures.left _ c.requires.table; changed = t.ensures.changed _ c.requires.table }) refl in
    leads-valid third c.requires

pub returns : goal.returns
unfolding state_of call_of kind_of propagate_call
returns c =
    let a = c.args in
    let A = rows_of a.coefs.now a.rhs.now a.kinds.now in
    let start = state_of a.n a.m a.bounds.now A a.table.now in
    let B = c.propagate-propagation.new.bounds in
    let one = state_of a.n a.m B A a.table.now in
    let first : Leads start (propagate_call start) one c.is_changed-changed.result =
    one-call (call_of start 2 0 0 round_budget)
    (ran-propagation a.n a.m a.bounds.now A a.table.now 2 0 0 round_budget (accepts-propagation c.requires) _ _ refl c.class_of_propagation.ensures c.propagate-propagation.ensures)
    c.is_changed-changed.ensures in
    let r = c.remove_rows-changed in
    let two = state_of a.n a.m B (rows_of r.new.coefs r.new.rhs r.new.kinds) a.table.now in
    let second : Leads start (and_then propagate_call removals start) two (c.is_changed-changed.result || r.result) =
    leads-then propagate_call removals first (record { left = r.ensures.left _ c.requires.table; changed = r.ensures.changed _ c.requires.table }) refl in
    let t = c.tighten_rows-changed in
    let three = state_of a.n a.m B (rows_of t.new.coefs t.new.rhs r.new.kinds) a.table.now in
    let third : Leads start (and_then (and_then propagate_call removals) tightenings start) three (c.is_changed-changed.result || r.result || t.result) =
    leads-then (and_then propagate_call removals) tightenings second (record { left = t.ensures.left _ c.requires.table; changed = t.ensures.changed _ c.requires.table }) refl in
    let p = c.probe_variables-probing in
    let all = rw (in_order start) at (leads-then (and_then (and_then propagate_call removals) tightenings) probes third (record { left = p.ensures.left; changed = p.ensures.changed }) refl) in
    record { left = all.left; changed = all.changed; spent = round-spent start third.left p.ensures.spent }
