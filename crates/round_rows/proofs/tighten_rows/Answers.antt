-- `round_rows::tighten_rows`: a row more is tightened. Assumes nothing.
use Rattle.std.proofs.Common.{refl}
use Rattle.model.specs.State.{state_of}
use Rattle.rounds.specs.Round.{tighten_row, tightenings}
use Rattle.rounds.proofs.RoundLaws.{all-turns, any-valid, no-turn, turn}
use Rattle.round_rows.proofs.tighten_rows.Goals as goal

pub loop-r-init : goal.loop-r-init
unfolding state_of
loop-r-init c = record { beside = λ t w. no-turn c.args.m tighten_row (record { model = c.requires; table = w }) }

pub tighten_row-changed-requires-clause-valid_model : goal.tighten_row-changed-requires-clause-valid_model
tighten_row-changed-requires-clause-valid_model c = any-valid c.loop-r.invariant

pub loop-r-preserved : goal.loop-r-preserved
unfolding state_of
loop-r-preserved c =
    let call = c.tighten_row-changed.ensures in
    record {
      beside = λ u v. turn c.args.m tighten_row (c.loop-r.invariant.beside u v) c.loop-r-test.true
          (record { left = call.left u v; changed = call.changed u v }) refl;
    }

pub returns : goal.returns
unfolding state_of tightenings
returns c =
    let w = c.loop-r.invariant in
    record {
      left = λ t v. (all-turns c.args.m tighten_row (w.beside t v) c.loop-r-test.false).left;
      changed = λ t v. (all-turns c.args.m tighten_row (w.beside t v) c.loop-r-test.false).changed;
    }
