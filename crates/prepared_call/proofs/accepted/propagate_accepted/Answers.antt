-- `accepted::propagate_accepted`: the empty box is None at once; of any other the passes say how it ends, and what they leave is kept
-- where that is not None (`empty-is-none`, `infeasible-is`, `converged-is`, `spent-is`). Assumes nothing.
use Rattle.std.specs.Prelude.{length}
use mathlib.Core.Path.{◌∙◌, refl, sym}
use Rattle.prepared_model.specs.Layout.{variables_of}
use Rattle.prepared_call.proofs.CoreLaws.{converged-is, converged-left, empty-is-none, infeasible-is, running, spent-is, spent-left}
use Rattle.prepared_call.proofs.accepted.propagate_accepted.Goals as goal

pub returns-then-is_empty : goal.returns-then-is_empty
returns-then-is_empty c =
    let e = c.is_empty.ensures (variables_of c.args.ws.now) c.requires.ours.some c.requires.box in
    empty-is-none c.args.budget (length c.args.reasons.now) (sym e ∙ c.if-is_empty.true) c.no_reasons.ensures

pub run-p-requires : goal.run-p-requires
run-p-requires c =
    let e = sym (c.is_empty.ensures (variables_of c.args.ws.now) c.requires.ours.some c.requires.box) ∙ c.if-is_empty.false in
    running c.requires e c.no_reasons.ensures refl

pub keep-requires : goal.keep-requires
keep-requires c =
    let r = c.run-p.ensures in
    record { ours = c.requires.ours; box = (r.valid (converged-left c.in-Converged.is)).0; set = r.set }

pub keep-requires-in-BudgetSpent : goal.keep-requires-in-BudgetSpent
keep-requires-in-BudgetSpent c =
    let r = c.run-p.ensures in
    record { ours = c.requires.ours; box = (r.valid (spent-left c.in-BudgetSpent.is)).0; set = r.set }

pub returns-in-Infeasible : goal.returns-in-Infeasible
returns-in-Infeasible c =
    let e = sym (c.is_empty.ensures (variables_of c.args.ws.now) c.requires.ours.some c.requires.box) ∙ c.if-is_empty.false in
    infeasible-is c.args.budget (length c.args.reasons.now) e c.no_reasons.ensures c.run-p.ensures c.in-Infeasible.is

pub returns-in-Converged : goal.returns-in-Converged
returns-in-Converged c =
    let e = sym (c.is_empty.ensures (variables_of c.args.ws.now) c.requires.ours.some c.requires.box) ∙ c.if-is_empty.false in
    let f = c.in-Converged.is in
    converged-is c.args.budget (length c.args.reasons.now) e c.no_reasons.ensures c.run-p.ensures (converged-left f) c.keep.ensures f

pub returns-in-BudgetSpent : goal.returns-in-BudgetSpent
returns-in-BudgetSpent c =
    let e = sym (c.is_empty.ensures (variables_of c.args.ws.now) c.requires.ours.some c.requires.box) ∙ c.if-is_empty.false in
    let f = c.in-BudgetSpent.is in
    spent-is c.args.budget (length c.args.reasons.now) e c.no_reasons.ensures c.run-p.ensures (spent-left f) c.keep-in-BudgetSpent.ensures f
