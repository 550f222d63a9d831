-- `verdicts::call::check_allocations`: refused by the first check that fails, and else the verdicts, told in their numbers; what they mean
-- is `judged`.
use mathlib.Core.Path.{◌∙◌, subst, sym}
use Rattle.model.specs.Model.{model_of}
use Rattle.model.specs.Rows.{rows_of}
use Rattle.proposals.proofs.CallLaws.{judged, left-accepted, left-refused}
use Rattle.proposals.specs.Meaning.{Judged}
use Rattle.verdicts.proofs.JudgeLaws.{judgeable}
use Rattle.proposals.proofs.TellingLaws.{tells-numbers}
use Rattle.model.proofs.RefusalLaws.{number_of-ne0}
use Rattle.verdicts.proofs.call.check_allocations.Goals as goal

pub returns-in_err-check_call-clause-told : goal.returns-in_err-check_call-clause-told
returns-in_err-check_call-clause-told c =
    let M = model_of c.args.n c.args.m c.args.bounds.now (rows_of c.args.coefs.now c.args.rhs.now c.args.kinds.now) in
    left-refused M c.args.proposals.now c.args.count c.args.verdicts.now (λ z. number_of-ne0 _ (c.in_err-check_call.ensures ∙ z))

pub judge_all-requires : goal.judge_all-requires
judge_all-requires c =
    let M = model_of c.args.n c.args.m c.args.bounds.now (rows_of c.args.coefs.now c.args.rhs.now c.args.kinds.now) in
    judgeable M c.args.proposals.now c.args.count c.args.verdicts.now (sym c.in_ok-check_call.ensures)

pub returns : goal.returns
returns c =
    let M = model_of c.args.n c.args.m c.args.bounds.now (rows_of c.args.coefs.now c.args.rhs.now c.args.kinds.now) in
    let P = c.args.proposals.now in
    let Y = c.args.verdicts.now in
    let e = sym c.in_ok-check_call.ensures in
    let t = tells-numbers c.args.count _ _ c.judge_all.ensures ∙ left-accepted M P c.args.count Y e in
    record {
      number = sym e;
      told = t;
      meaning = λ _. subst (Judged M P c.args.count) (sym t) (judged M P c.args.count Y e);
    }
