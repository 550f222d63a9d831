-- `round_rows::remove_rows`: a row more has its turn (`remove-turn`). Assumes nothing.
use Rattle.std.proofs.Common.{◌∙◌, refl, sym}
use Rattle.matrix_view.proofs.RowInLaws.{row_in, valid-row}
use Rattle.model.specs.Rows.{rows_of}
use Rattle.model.specs.State.{state_of}
use Rattle.probe_step.proofs.AcceptedLaws.{ran-remove}
use Rattle.rounds.specs.Round.{remove_call, removals}
use Rattle.rounds.proofs.RoundLaws.{accepts-removal, all-turns, any-valid, no-removals, no-turn, remove-turn, turns-valid}
use Rattle.semantics.specs.Call.{call_of, kind_of}
use Rattle.round_rows.proofs.remove_rows.Goals as goal

pub returns-then-is_empty : goal.returns-then-is_empty
unfolding state_of
returns-then-is_empty c =
    let a = c.args in
    let v = c.requires in
    let A = rows_of a.coefs.now a.rhs.now a.kinds.now in
    let e = sym (c.is_empty.ensures _ v.some v.box) ∙ c.if-is_empty.true in
    record {
      left = λ t _. (no-removals (state_of a.n a.m a.bounds.now A t) e).left;
      changed = λ t _. (no-removals (state_of a.n a.m a.bounds.now A t) e).changed;
    }

pub loop-r-init : goal.loop-r-init
unfolding state_of
loop-r-init c =
    let v = c.requires in
    record {
      turns = record { beside = λ t w. no-turn c.args.m remove_call (record { model = v; table = w }) };
      full = sym (c.is_empty.ensures _ v.some v.box) ∙ c.if-is_empty.false;
    }

pub remove_redundant_row_at-removal-requires : goal.remove_redundant_row_at-removal-requires
remove_redundant_row_at-removal-requires c =
    let v = any-valid c.loop-r.invariant.turns in
    (row_in v c.loop-r.r c.loop-r-test.true, valid-row v c.loop-r.r c.loop-r-test.true v.box)

pub loop-r-preserved : goal.loop-r-preserved
unfolding state_of call_of kind_of
loop-r-preserved c =
    let a = c.args in
    let l = c.loop-r in
    let h = c.loop-r-test.true in
    record {
      turns = record {
        beside = λ u v. let w = l.invariant.turns.beside u v in
            remove-turn w l.invariant.full h
            (ran-remove a.n a.m a.bounds.now (rows_of l.coefs l.rhs l.kinds) u 5 l.r 0 0
            (accepts-removal (turns-valid w) h) refl c.class_of_removal.ensures (c.remove_redundant_row_at-removal.ensures.answer, c.remove_redundant_row_at-removal.ensures.left))
            c.is_changed-changed.ensures refl;
      };
      full = l.invariant.full;
    }

pub returns : goal.returns
unfolding state_of removals
returns c =
    let w = c.loop-r.invariant.turns in
    record {
      left = λ t v. (all-turns c.args.m remove_call (w.beside t v) c.loop-r-test.false).left;
      changed = λ t v. (all-turns c.args.m remove_call (w.beside t v) c.loop-r-test.false).changed;
    }
