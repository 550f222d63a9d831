-- `round::probe_variables_marked`: a variable that is free is probed, and another is passed over. Assumes nothing.
use Rattle.std.proofs.Common.{◌∙◌, refl, sym, arith, false}
use Rattle.model.specs.Box.{is_free}
use Rattle.model.specs.Rows.{rows_of}
use Rattle.model.specs.State.{state_of}
use Rattle.demands.specs.Unmoved.{any_spent}
use Rattle.semantics.specs.Call.{call_of}
use Rattle.rounds.specs.Round.{probe_call, probes, round_budget, upwards}
use Rattle.rounds.proofs.RoundLaws.{accepts-probe, all-turns, call-turn, flag-kept, no-turn, skip-turn, turns-valid}
use Rattle.rounds.proofs.SpentLaws.{spent-call, spent-skip, spent-turn, spent-turns}
use Rattle.round.proofs.probe_variables_marked.Goals as goal
use Rattle.round.proofs.probe_variables_marked.Goals.{then-is_free, else-is_free}

pub loop-k-init : goal.loop-k-init
unfolding state_of upwards any_spent
loop-k-init c = record { turns = no-turn c.args.n probe_call c.requires.valid_state; marked = c.requires.fact; spent = refl }

pub is_free-requires : goal.is_free-requires
unfolding state_of
is_free-requires c = omega (arith, c.loop-k-test.true, (turns-valid c.loop-k.invariant.turns).model.box.len)

pub run_probe_marked-step-requires-clause-valid_state : goal.run_probe_marked-step-requires-clause-valid_state
run_probe_marked-step-requires-clause-valid_state c = turns-valid c.loop-k.invariant.turns

pub run_probe_marked-step-requires-clause-budget_value : goal.run_probe_marked-step-requires-clause-budget_value
unfolding state_of
run_probe_marked-step-requires-clause-budget_value c =
    accepts-probe (turns-valid c.loop-k.invariant.turns) c.loop-k-test.true (sym c.is_free.ensures ∙ c.if-is_free.true)

pub loop-k-preserved : goal.loop-k-preserved
unfolding state_of call_of probe_call
loop-k-preserved c =
    let a = c.args in
    let l = c.loop-k in
    let i = l.invariant in
    let A = rows_of a.coefs.now a.rhs.now a.kinds.now in
    let known = sym c.is_free.ensures in
    let free = is_free l.bounds l.k in
    let first = state_of a.n a.m a.bounds.now A a.table.now in
    let here = state_of a.n a.m l.bounds A l.table in
    let call = call_of here 3 0 l.k round_budget in
    let h = c.loop-k-test.true in
    elim c.if-is_free.branch [
      | then-is_free w ↦
          let e = w.run_probe_marked-step.ensures in
          rw (w.bounds-is, w.table-is, w.across-is, w.signs-is, w.marks-is) record {
            turns = call-turn a.n probe_call i.turns free call refl h (known ∙ w.if-is_free.true) (e.class, e.left) w.is_changed-changed.ensures w.changed-is;
            marked = e.marks;
            spent = spent-turn probe_call first l.k i.turns.made.left i.spent (spent-call probe_call here l.k free call refl (known ∙ w.if-is_free.true) e.spent) w.spent-is;
          }
      | else-is_free w ↦
          rw (w.bounds-is, w.table-is, w.across-is, w.signs-is, w.marks-is) record {
            turns = skip-turn a.n probe_call i.turns free call refl h (known ∙ w.if-is_free.false) w.changed-is;
            marked = i.marked;
            spent = spent-turn probe_call first l.k i.turns.made.left i.spent (spent-skip probe_call here l.k free call refl (known ∙ w.if-is_free.false)) (flag-kept l.spent {d = false} refl w.spent-is);
          }
    ]

pub returns : goal.returns
unfolding state_of probes
returns c =
    let a = c.args in
    let i = c.loop-k.invariant in
    let p = all-turns a.n probe_call i.turns c.loop-k-test.false in
    record {
      left = p.left;
      changed = p.changed;
      spent = spent-turns probe_call (state_of a.n a.m a.bounds.now (rows_of a.coefs.now a.rhs.now a.kinds.now) a.table.now) i.turns.within c.loop-k-test.false i.spent;
    }
