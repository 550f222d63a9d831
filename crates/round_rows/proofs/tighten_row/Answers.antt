-- `round_rows::tighten_row`: a variable that is not free is passed over, and the call for a coefficient that fails the test would change
-- nothing (`untightened-turn`). Assumes nothing.
use Rattle.std.proofs.Common.{◌∙◌, ◌*◌, ◌&&◌, ℕ, List, refl, sym}
use lib.ListN.{replicate}
use mir.Facts.{to_z-of_z}
use mir.Syntax.{w64}
use mir.Val.{to_z}
use Rattle.integer.proofs.Tests.{T→true, and_l, true→T}
use Rattle.matrix_view.proofs.RowInLaws.{row_in, valid-row}
use Rattle.model.specs.Box.{at, is_free}
use Rattle.model.specs.Rows.{row_of, rows_of}
use Rattle.model.specs.State.{state_of}
use Rattle.demands.proofs.Demand3.{zeros-valid}
use Rattle.probe_step.proofs.AcceptedLaws.{ran-tighten}
use Rattle.row.specs.Tightening.{may_tighten}
use Rattle.round_rows.proofs.TightenLaws.{looked-at, row-ready, untightened-turn}
use Rattle.rounds.specs.Round.{tighten_call, tighten_row}
use Rattle.rounds.proofs.RoundLaws.{accepts-tightening, all-turns, any-valid, call-turn, flag-kept, leads-valid, no-turn, one-call, turn, turns-valid}
use Rattle.semantics.specs.Call.{call_of, kind_of}
use Rattle.round_rows.proofs.tighten_row.Goals as goal
use Rattle.round_rows.proofs.tighten_row.Goals.{then-may_tighten_at, else-may_tighten_at}

pub maximum_activity_at-most-requires : goal.maximum_activity_at-most-requires
maximum_activity_at-most-requires c =
    let p = row-ready c.requires.valid_model c.requires.row_lt_m in
    record { n_in_bounds = p.0; valid_coefs = p.1 }

pub loop-k-init : goal.loop-k-init
unfolding state_of
loop-k-init c = record {
  turns = record { beside = λ t w. no-turn c.args.n (tighten_call c.args.row) (record { model = c.requires.valid_model; table = w }) };
  most = to_z-of_z {w = w64} (record { sfits = c.maximum_activity_at-most.type_inv }) ∙ c.maximum_activity_at-most.ensures;
}

pub may_tighten_at-requires : goal.may_tighten_at-requires
may_tighten_at-requires c = looked-at (any-valid c.loop-k.invariant.turns) c.requires.row_lt_m c.loop-k-test.true c.loop-k.invariant.most

pub tighten_coefficient_at-tightening-requires-clause-fact : goal.tighten_coefficient_at-tightening-requires-clause-fact
tighten_coefficient_at-tightening-requires-clause-fact c =
    let v = any-valid c.loop-k.invariant.turns in
    (row_in v c.args.row c.requires.row_lt_m, valid-row v c.args.row c.requires.row_lt_m v.box)

pub maximum_activity_at-most-requires-then-may_tighten_at : goal.maximum_activity_at-most-requires-then-may_tighten_at
unfolding state_of call_of kind_of
maximum_activity_at-most-requires-then-may_tighten_at c =
    let a = c.args in
    let l = c.loop-k in
    let A = rows_of l.coefs l.rhs a.kinds.now in
    let h = c.loop-k-test.true in
    let free = is_free a.bounds.now l.k in
    let test = may_tighten (at (row_of a.n l.coefs a.row) l.k) (to_z w64 l.most-bits) (at l.rhs a.row) in
    let may = T→true free (and_l free test (true→T (free && test) (sym c.may_tighten_at.ensures ∙ c.if-may_tighten_at.true))) in
    let u : List ℕ = replicate (4 * (a.n * a.n)) 0 in
    let v = turns-valid (l.invariant.turns.beside u (zeros-valid a.n)) in
    let done = ran-tighten a.n a.m a.bounds.now A u 4 a.row l.k 0 (accepts-tightening v h may c.requires.row_lt_m) refl
    c.class_of_tightening.ensures (c.tighten_coefficient_at-tightening.ensures.answer, c.tighten_coefficient_at-tightening.ensures.left) in
    let p = row-ready (leads-valid (one-call _ done refl) v).model c.requires.row_lt_m in
    record { n_in_bounds = p.0; valid_coefs = p.1 }

pub loop-k-preserved : goal.loop-k-preserved
unfolding state_of call_of kind_of tighten_call
loop-k-preserved c =
    let a = c.args in
    let l = c.loop-k in
    let A = rows_of l.coefs l.rhs a.kinds.now in
    let h = c.loop-k-test.true in
    let free = is_free a.bounds.now l.k in
    let test = may_tighten (at (row_of a.n l.coefs a.row) l.k) (to_z w64 l.most-bits) (at l.rhs a.row) in
    let known = sym c.may_tighten_at.ensures in
    let f = tighten_call a.row in
    elim c.if-may_tighten_at.branch [
      | then-may_tighten_at w ↦
          let may = T→true free (and_l free test (true→T (free && test) (known ∙ w.if-may_tighten_at.true))) in
          rw (w.coefs-is, w.rhs-is, w.most-is-bits) record {
            turns = record {
              beside = λ u v. let i = l.invariant.turns.beside u v in
                  call-turn a.n f i free (call_of (state_of a.n a.m a.bounds.now A u) 4 a.row l.k 0) refl h may
                  (ran-tighten a.n a.m a.bounds.now A u 4 a.row l.k 0 (accepts-tightening (turns-valid i) h may c.requires.row_lt_m) refl
                  w.class_of_tightening.ensures (w.tighten_coefficient_at-tightening.ensures.answer, w.tighten_coefficient_at-tightening.ensures.left)) w.is_changed-changed.ensures w.changed-is;
            };
            most = to_z-of_z {w = w64} (record { sfits = w.maximum_activity_at-most-then-may_tighten_at.type_inv }) ∙ w.maximum_activity_at-most-then-may_tighten_at.ensures;
          }
      | else-may_tighten_at w ↦
          rw (w.coefs-is, w.rhs-is, w.most-is-bits) record {
            turns = record { beside = λ u v. turn a.n f (l.invariant.turns.beside u v) h (untightened-turn (state_of a.n a.m a.bounds.now A u) a.row l.k l.invariant.most (known ∙ w.if-may_tighten_at.false)) (flag-kept l.changed refl w.changed-is) };
            most = l.invariant.most;
          }
    ]

pub returns : goal.returns
unfolding state_of tighten_row
returns c =
    let w = c.loop-k.invariant.turns in
    record {
      left = λ t v. (all-turns c.args.n (tighten_call c.args.row) (w.beside t v) c.loop-k-test.false).left;
      changed = λ t v. (all-turns c.args.n (tighten_call c.args.row) (w.beside t v) c.loop-k-test.false).changed;
    }
