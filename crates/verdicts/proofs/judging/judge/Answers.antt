-- `verdicts::judging::judge`: the invariant says that each proposal is judged by the rows so far (`held-row`).
use Prim.Native.Nat.{ℕ}
use mathlib.Core.Path.{◌≡◌, ap, sym}
use native.Mathlib.Omega.{arith}
use Rattle.model.specs.Model.{model_of}
use Rattle.model.specs.Rows.{rows_of}
use Rattle.marked_row.proofs.MarkedRowLaws.{steps-in}
use Rattle.row_index.proofs.IndexLoops.{row-end}
use Rattle.proposals.specs.Proposals.{proposal}
use Rattle.proposals.specs.Verdict.{verdict, verdict_by}
use Rattle.verdicts.proofs.JudgeLaws.{held-row, pending, row_in}
use Rattle.proposals.proofs.TellingLaws.{tells_as}
use Rattle.proposals.proofs.HeldLaws.{box-verdict}
use Rattle.verdicts.proofs.judging.judge.Goals as goal

pub loop-i-init : goal.loop-i-init
loop-i-init c =
    let M = model_of c.args.n c.args.m c.args.bounds.now (rows_of c.args.coefs.now c.args.rhs.now c.args.kinds.now) in
    (c.requires.1, tells_as (λ k. sym (box-verdict M (proposal c.args.n c.args.proposals.now k))) c.hold_boxes.ensures)

pub hold_row_at-requires-clause-fact : goal.hold_row_at-requires-clause-fact
hold_row_at-requires-clause-fact c =
    let M = model_of c.args.n c.args.m c.args.bounds.now (rows_of c.args.coefs.now c.args.rhs.now c.args.kinds.now) in
    let i = c.loop-i.i in
    let v = c.requires.0.valid in
    let known = c.know_steps.ensures in
    (omega (arith, v.few_rows), row_in M v i (omega arith), steps-in i (row-end known.0 i (omega arith)).0 known.1)

pub hold_row_at-requires-clause-pending : goal.hold_row_at-requires-clause-pending
hold_row_at-requires-clause-pending c =
    let M = model_of c.args.n c.args.m c.args.bounds.now (rows_of c.args.coefs.now c.args.rhs.now c.args.kinds.now) in
    let l = c.requires.0.lent in
    let t = c.loop-i.invariant.1 in
    pending M c.requires.0.valid c.loop-i.i (omega arith) (record { few = l.few; few_proposals = l.few_proposals; len = l.len; room = t.len }) t

pub loop-i-preserved : goal.loop-i-preserved
loop-i-preserved c =
    let M = model_of c.args.n c.args.m c.args.bounds.now (rows_of c.args.coefs.now c.args.rhs.now c.args.kinds.now) in (
      c.know_steps.ensures.0,
      tells_as (λ k. held-row c.loop-i.i M (proposal c.args.n c.args.proposals.now k)) (c.hold_row_at.ensures _ c.loop-i.invariant.1),
    )

pub returns : goal.returns
unfolding verdict
returns c =
    let M = model_of c.args.n c.args.m c.args.bounds.now (rows_of c.args.coefs.now c.args.rhs.now c.args.kinds.now) in
    let end : c.loop-i.i ≡ c.args.m = omega arith in
    tells_as (λ k. ap (λ (i : ℕ). verdict_by i M (proposal c.args.n c.args.proposals.now k)) end) c.loop-i.invariant.1
