-- `prepared_probe::probe`: the checks are those of a probe of the prepared rows (`fault-is`), and what it came to is what `perform` gives.
-- Assumes nothing.
use Rattle.std.specs.Prelude.{◌≡◌, ℕ, List, ℤ}
use mathlib.Core.Path.{◌∙◌, ap, refl, sym}
use native.Mathlib.Omega.{arith}
use Rattle.std.proofs.lemmas.Result.{err_from_is_err_and}
use Rattle.model.specs.State.{state_of}
use Rattle.model.proofs.RefusalLaws.{number_of-ne0}
use Rattle.prepared_checks.specs.Checks.{probe_fault}
use Rattle.prepared_checks.proofs.ProbeCheckLaws.{Accepted, accepted, fault-is}
use Rattle.prepared_model.specs.Layout.{rows_in, variables_of}
use Rattle.reducer.proofs.OpenCallLaws.{perform-refused, probing-performed}
use Rattle.semantics.specs.Call.{call_of}
use Rattle.semantics.specs.Perform.{refused}
use Rattle.semantics.specs.Run.{is_refused}
use Rattle.prepared_probe.proofs.probe.Goals as goal

pub returns-in_err-check_probe : goal.returns-in_err-check_probe
returns-in_err-check_probe c =
    let a = c.args in
    let W = a.ws.now in
    let e = c.in_err-check_probe.ensures in
    let p = err_from_is_err_and c.from_residual.result c.from_residual.ensures.1 in
    rw (p.1, p.2) (record {
      refused = λ _. (ap refused e, refl, refl, refl, refl);
      accepted = λ z. absurd (number_of-ne0 _ (e ∙ z));
      defined = λ A P fits.
          let s = state_of (variables_of W) (rows_in W) a.bounds.now A a.table.now in
          perform-refused s (call_of s 3 0 a.variable a.budget)
          (e ∙ fault-is W a.bounds.now a.table.now a.reasons.now a.variable a.budget P fits) (number_of-ne0 _);
      reasons = λ z. absurd (number_of-ne0 _ (e ∙ z));
      prepared = λ A P. P;
    })

-- what an accepted probe is lent
fits : (W : List ℕ) (B : List ℤ) (t R : List ℕ) (k budget : ℕ) → 0 ≡ probe_fault W B t R k budget → Accepted W B t R k
fits W B t R k budget e = accepted W B t R k budget (sym e)

pub bounds-ws-1 : goal.bounds-ws-1
bounds-ws-1 c =
    let f = fits c.args.ws.now c.args.bounds.now c.args.table.now c.args.reasons.now c.args.variable c.args.budget c.in_ok-check_probe.ensures in
    omega (arith, f.ours.len)

pub bounds-ws-2 : goal.bounds-ws-2
bounds-ws-2 c =
    let f = fits c.args.ws.now c.args.bounds.now c.args.table.now c.args.reasons.now c.args.variable c.args.budget c.in_ok-check_probe.ensures in
    omega (arith, f.ours.len)

pub probe_prepared-requires : goal.probe_prepared-requires
probe_prepared-requires c =
    let f = fits c.args.ws.now c.args.bounds.now c.args.table.now c.args.reasons.now c.args.variable c.args.budget c.in_ok-check_probe.ensures in
    let o = f.ours in
    (refl, refl, record { some = o.some; few = o.few; few_rows = o.few_rows; len = o.len; box = f.box }, f.table, f.free, f.variable, f.reasons)

pub returns : goal.returns
unfolding is_refused
returns c =
    let a = c.args in
    let W = a.ws.now in
    let e = c.in_ok-check_probe.ensures in
    let told = c.probe_prepared.ensures in
    record {
      refused = λ f. absurd (f (sym e));
      accepted = λ _. (tt, told.kept);
      defined = λ A P fits.
          probing-performed (variables_of W) (rows_in W) a.bounds.now A a.budget a.table.now a.variable c.probe_prepared.result.probing
          c.probe_prepared.new.bounds c.probe_prepared.new.table
          (sym (fault-is W a.bounds.now a.table.now a.reasons.now a.variable a.budget P fits) ∙ sym e) (told.answer A P);
      reasons = λ _. told.reasons;
      prepared = told.prepared;
    }
