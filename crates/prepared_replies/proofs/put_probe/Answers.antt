-- `prepared_replies::put_probe`: a refusal writes nothing, and any other answer is written as that of a probe, and then its rows. Assumes
-- nothing.
use lib.ListN.{length-set, set}
use mathlib.Core.List.{List}
use mathlib.Core.Path.{◌∙◌, ap, refl, sym}
use native.Mathlib.Omega.{arith}
use Prim.Native.Nat.{ℕ}
use Rattle.reducer.specs.OpenCalls.{probe_answer, probing_answer}
use Rattle.reducer.proofs.OpenCallLaws.{probing-told}
use Rattle.replies.specs.Replies.{Reply, call_reply, returned, written}
use Rattle.semantics.specs.Perform.{Answer}
use Rattle.semantics.specs.Run.{is_refused}
use Rattle.prepared_replies.specs.PreparedReplies.{with_rows}
use Rattle.prepared_replies.proofs.ReplyLaws.{call-accepted, rows-returned, rows_written}
use Rattle.prepared_replies.proofs.put_probe.Goals as goal

pub bounds-answer-9 : goal.bounds-answer-9
bounds-answer-9 g c = simp length-set (omega (arith, c.put.auto.answer, c.requires))

pub returns-in-Ok : goal.returns-in-Ok
unfolding is_refused
returns-in-Ok g c =
    let p = c.in-Ok.sides in
    let a = probing_answer p.probing in
    let said = c.put.ensures.answer ∙ ap (λ (q : Reply). written q c.args.answer.now) c.probe_reply.ensures ∙ ap (λ (x : Answer). written (call_reply x) c.args.answer.now) (probing-told p.probing) in
    rw c.in-Ok.is (record {
      number = sym (rows-returned (call_reply a) p.row0 p.row1 ∙ call-accepted a tt);
      answer = ap (λ (X : List ℕ). set (set X 8 p.row0) 9 p.row1) said ∙ sym (rows_written a tt p.row0 p.row1 c.args.answer.now);
    })

pub returns-in-Err : goal.returns-in-Err
unfolding call_reply with_rows returned written
returns-in-Err g c = rw c.in-Err.is (record { number = c.number.ensures; answer = refl })
