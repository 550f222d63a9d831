-- `prepared_exports::propagate_said`: a wrong answer length, or the answer of the open call, written. Assumes nothing.
use Prim.Native.Nat.{ℕ}
use lib.IntN.{ℤ}
use lib.ListN.{length}
use mathlib.Core.List.{List}
use native.Mathlib.Decide.{ℕ_discrete}
use mathlib.Core.Path.{◌∙◌, ◌≡◌, ap, refl, sym}
use Rattle.std.specs.Prelude.{Result}
use Rattle.model.specs.Rows.{Rows}
use Rattle.model.specs.declared.refusal.Refusal.{Refusal}
use Rattle.prepared_call.specs.PreparedCall.{PropagateAccepted, infeasible_row, prepared_answer}
use Rattle.prepared_call.specs.declared.PreparedPropagation.{PreparedPropagation}
use Rattle.prepared_checks.specs.Checks.{propagate_fault}
use Rattle.prepared_model.specs.Layout.{rows_in, variables_of}
use Rattle.prepared_model.specs.Prepared.{Prepared}
use Rattle.prepared_model.specs.Reasons.{Reasons, reasons_of}
use Rattle.prepared_replies.specs.PreparedReplies.{prepared_reply}
use Rattle.prepared_replies.proofs.NamedLaws.{prepared-named}
use Rattle.prepared_replies.proofs.ReplyLaws.{fault-short, fault-whole, prepared-accepted, prepared-refusal, row-unsaid, short-refused}
use Rattle.reducer.specs.OpenCalls.{performed}
use Rattle.replies.specs.Replies.{Reply, returned, written}
use Rattle.semantics.specs.Perform.{Performed, refused}
use Rattle.prepared_exports.proofs.propagate_said.Goals as goal

pub returns-then-answer-ne-ANSWER : goal.returns-then-answer-ne-ANSWER
returns-then-answer-ne-ANSWER c =
    let A = c.args.answer.now in
    let fault = propagate_fault c.args.workspace.now c.args.bounds.now c.args.reasons.now c.args.budget in
    let wrong = c.if-answer-ne-ANSWER.true in
    record {
      refused = λ h. (c.number.ensures ∙ sym (fault-short A fault wrong), refl, refl, refl, refl);
      accepted = λ z. absurd (short-refused A fault wrong z);
      defined = λ M P fits right. absurd (wrong right);
      reasons = λ M P z. absurd (short-refused A fault wrong z);
      prepared = λ M P. P;
    }

-- the reply with the row that was told is that with the defined one: of a call that is refused either stands nowhere
same_row : (W : List ℕ) (B : List ℤ) (R : List ℕ) (budget : ℕ) (r : Result PreparedPropagation Refusal) {W' : List ℕ} {B' : List ℤ} {R' : List ℕ}
    → ((propagate_fault W B R budget ≡ 0 → ⊥) → prepared_answer r ≡ refused (propagate_fault W B R budget))
    → (propagate_fault W B R budget ≡ 0 → PropagateAccepted budget W B (length R) r W' B' R')
    → (M : Rows) → Prepared W M
    → prepared_reply (prepared_answer r) (infeasible_row r)
    ≡ prepared_reply (prepared_answer r) (reasons_of budget (variables_of W) (rows_in W) M B (length R)).infeasible
same_row W B R budget r f a M P = go (ℕ_discrete (propagate_fault W B R budget) 0)
  where
    go : Dec (propagate_fault W B R budget ≡ 0)
        → prepared_reply (prepared_answer r) (infeasible_row r)
        ≡ prepared_reply (prepared_answer r) (reasons_of budget (variables_of W) (rows_in W) M B (length R)).infeasible
    go (yes z) = ap (λ (w : Reasons). prepared_reply (prepared_answer r) w.infeasible) ((a z).reasons M P)
    go (no n) = row-unsaid (f n) (infeasible_row r) (reasons_of budget (variables_of W) (rows_in W) M B (length R)).infeasible

pub returns : goal.returns
unfolding performed
returns c =
    let W = c.args.workspace.now in
    let B = c.args.bounds.now in
    let R = c.args.reasons.now in
    let budget = c.args.budget in
    let A = c.args.answer.now in
    let p = c.propagate.ensures in
    let r = c.propagate.result in
    let put = c.put.ensures in
    let e = c.prepared_reply.ensures ∙ prepared-named r in
    let whole = fault-whole A (propagate_fault W B R budget) c.if-answer-ne-ANSWER.false in
    record {
      refused =
          λ h.
          let f = p.refused (λ z. h (whole ∙ z)) in
          let said = prepared-refusal f.0 (infeasible_row r) A in
          (put.number ∙ ap returned e ∙ said.0 ∙ sym whole, f.1, f.2, f.3, put.answer ∙ ap (λ (q : Reply). written q A) e ∙ said.1);
      accepted = λ z. put.number ∙ ap returned e ∙ prepared-accepted (prepared_answer r) (infeasible_row r) (p.accepted (sym whole ∙ z)).told;
      defined =
          λ M P fits right.
          let d = p.defined M P fits in
          let row = (reasons_of budget (variables_of W) (rows_in W) M B (length R)).infeasible in
          let q = e ∙ same_row W B R budget r (λ n. (p.refused n).0) p.accepted M P ∙ ap (λ (w : Performed). prepared_reply w.answer row) d in
          (record { returns = put.number ∙ ap returned q; writes = put.answer ∙ ap (λ (q : Reply). written q A) q }, ap (λ (w : Performed). w.state) d);
      reasons = λ M P z. ap (λ (w : Reasons). w.movers) ((p.accepted (sym whole ∙ z)).reasons M P);
      prepared = p.prepared;
    }
