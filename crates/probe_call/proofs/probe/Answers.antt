-- `probe_call::probe` is `perform` of a probe: refused by the call's check, else what the probing came to (`probing_promises`, which
-- the function names).
use Rattle.std.proofs.Common.{sym}
use Rattle.std.proofs.lemmas.Result.{err_from_is_err_and}
use Rattle.model.specs.Rows.{rows_of}
use Rattle.model.specs.State.{state_of}
use Rattle.model.proofs.RefusalLaws.{number_of-ne0}
use Rattle.semantics.specs.Call.{call_of, has_table, has_variable, kind_of}
use Rattle.call_laws.proofs.Accepted.{accepted}
use Rattle.reducer.specs.OpenCalls.{probe_answer}
use Rattle.reducer.proofs.OpenCallLaws.{perform-refused, promised-ends}
use Rattle.probe_call.proofs.probe.Goals as goal

pub returns-in_err-check_probe : goal.returns-in_err-check_probe
unfolding probe_answer call_of
returns-in_err-check_probe c =
    let a = c.args in
    let s = state_of a.n a.m a.bounds.now (rows_of a.coefs.now a.rhs.now a.kinds.now) a.table.now in
    let k = call_of s 3 0 a.variable a.budget in
    let p = err_from_is_err_and c.from_residual.result c.from_residual.ensures.1 in
    let q = promised-ends s s k _ (perform-refused s k c.in_err-check_probe.ensures (number_of-ne0 c.in_err-check_probe.field-0.0)) in
    record { defined = rw (p.1, p.2) q.0; meaning = rw (p.1, p.2) q.1.0; ending = rw (p.1, p.2) q.1.1 }

pub probe-probing-requires : goal.probe-probing-requires
unfolding state_of call_of kind_of has_table has_variable
probe-probing-requires c =
    let a = c.args in
    let s = state_of a.n a.m a.bounds.now (rows_of a.coefs.now a.rhs.now a.kinds.now) a.table.now in
    let k = accepted s (call_of s 3 0 a.variable a.budget) (sym c.in_ok-check_probe.ensures) in
    record { valid_model = k.model; valid_table = k.table tt; t = k.free tt; k_lt_n = k.variable tt }
