-- `prepared_exports::probe_said`: a wrong answer length, or the answer of the open call, written. Assumes nothing.
use Prim.Native.Nat.{ℕ}
use lib.IntN.{ℤ}
use lib.ListN.{length}
use mathlib.Core.List.{List}
use mathlib.Core.Path.{◌∙◌, ◌≡◌, ap, refl, sym}
use native.Mathlib.Decide.{ℕ_discrete}
use Rattle.std.specs.Prelude.{Result}
use Rattle.model.specs.Rows.{Rows}
use Rattle.model.specs.declared.refusal.Refusal.{Refusal}
use Rattle.prepared_checks.specs.Checks.{probe_fault}
use Rattle.prepared_model.specs.Layout.{rows_in, variables_of}
use Rattle.prepared_model.specs.Prepared.{Prepared}
use Rattle.prepared_model.specs.ProbeReasons.{ProbeReasons, probe_reasons}
use Rattle.prepared_probe.specs.ProbeAnswers.{prepared_probe_answer, row0_of, row1_of}
use Rattle.prepared_replies.specs.PreparedReplies.{with_rows}
use Rattle.prepared_replies.proofs.NamedLaws.{probe-named}
use Rattle.prepared_replies.proofs.ReplyLaws.{call-accepted, call-refusal, fault-short, fault-whole, rows-refusal, rows-returned, short-refused}
use Rattle.prepared_sides.specs.declared.ProbedSides.{ProbedSides}
use Rattle.reducer.specs.OpenCalls.{performed}
use Rattle.replies.specs.Replies.{Reply, call_reply, returned, written}
use Rattle.semantics.specs.Perform.{Performed, refused}
use Rattle.prepared_exports.proofs.probe_said.Goals as goal

pub returns-then-answer-ne-ANSWER : goal.returns-then-answer-ne-ANSWER
returns-then-answer-ne-ANSWER c =
    let a = c.args in
    let A = a.answer.now in
    let fault = probe_fault a.workspace.now a.bounds.now a.table.now a.reasons.now a.variable a.budget in
    let wrong = c.if-answer-ne-ANSWER.true in
    record {
      refused = λ h. (c.number.ensures ∙ sym (fault-short A fault wrong), refl, refl, refl, refl, refl);
      accepted = λ z. absurd (short-refused A fault wrong z);
      defined = λ M P fits right. absurd (wrong right);
      reasons = λ M P z. absurd (short-refused A fault wrong z);
      prepared = λ M P. P;
    }

-- the reply with the rows that were told is that with the defined ones: of a call that is refused neither stands anywhere
same_rows : (fault : ℕ) (r : Result ProbedSides Refusal) (told : ProbeReasons) {movers : List ℕ}
    → ((fault ≡ 0 → ⊥) → prepared_probe_answer r ≡ refused fault)
    → (fault ≡ 0 → record { movers = movers; row0 = row0_of r; row1 = row1_of r } ≡ told)
    → with_rows (call_reply (prepared_probe_answer r)) (row0_of r) (row1_of r) ≡ with_rows (call_reply (prepared_probe_answer r)) told.row0 told.row1
same_rows fault r told f a = go (ℕ_discrete fault 0)
  where
    go : Dec (fault ≡ 0)
        → with_rows (call_reply (prepared_probe_answer r)) (row0_of r) (row1_of r) ≡ with_rows (call_reply (prepared_probe_answer r)) told.row0 told.row1
    go (yes z) = ap (λ (w : ProbeReasons). with_rows (call_reply (prepared_probe_answer r)) w.row0 w.row1) (a z)
    go (no n) = rows-refusal (f n) (row0_of r) (row1_of r) ∙ sym (rows-refusal (f n) told.row0 told.row1)

pub returns : goal.returns
unfolding performed
returns c =
    let a = c.args in
    let W = a.workspace.now in
    let A = a.answer.now in
    let fault = probe_fault W a.bounds.now a.table.now a.reasons.now a.variable a.budget in
    let p = c.probe.ensures in
    let r = c.probe.result in
    let x = prepared_probe_answer r in
    let named = probe-named r in
    let number = c.put_probe.ensures.number ∙ ap returned named in
    let writes = c.put_probe.ensures.answer ∙ ap (λ (q : Reply). written q A) named in
    let whole = fault-whole A fault c.if-answer-ne-ANSWER.false in
    record {
      refused =
          λ h.
          let f = p.refused (λ z. h (whole ∙ z)) in
          let e = rows-refusal f.0 (row0_of r) (row1_of r) in
          let said = call-refusal f.0 A in
          (number ∙ ap returned e ∙ said.0 ∙ sym whole, f.1, f.2, f.3, f.4, writes ∙ ap (λ (q : Reply). written q A) e ∙ said.1);
      accepted = λ z. number ∙ rows-returned (call_reply x) (row0_of r) (row1_of r) ∙ call-accepted x (p.accepted (sym whole ∙ z)).0;
      defined =
          λ M P fits right.
          let d = p.defined M P fits in
          let told = probe_reasons a.variable a.budget (variables_of W) (rows_in W) M a.bounds.now (length a.reasons.now) in
          let q = same_rows fault r told (λ n. (p.refused n).0) (λ z. p.reasons z M P) ∙ ap (λ (w : Performed). with_rows (call_reply w.answer) told.row0 told.row1) d in
          (record { returns = number ∙ ap returned q; writes = writes ∙ ap (λ (q : Reply). written q A) q }, ap (λ (w : Performed). w.state) d);
      reasons = λ M P z. ap (λ (w : ProbeReasons). w.movers) (p.reasons (sym whole ∙ z) M P);
      prepared = p.prepared;
    }
