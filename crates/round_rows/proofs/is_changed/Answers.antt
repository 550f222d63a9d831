-- `round_rows::is_changed`: the class is that of a change or another. Assumes nothing.
use Rattle.std.proofs.Common.{◌≡◌, false, refl}
use Rattle.call.specs.Classes.{class_is}
use Rattle.call.specs.declared.CallClass.{CallClass}
use Rattle.call.specs.declared.CallClass.TheVariants.{Changed, Infeasible, Refused, Unchanged}
use Rattle.rounds.specs.Round.{is_change}
use Rattle.round_rows.proofs.is_changed.Goals as goal

not-changed : (k : CallClass) → (k ≡ Changed → ⊥) → false ≡ is_change (class_is k)
unfolding is_change class_is
not-changed (Refused refusal) h = refl
not-changed Infeasible h = refl
not-changed Changed h = absurd (h refl)
not-changed Unchanged h = refl

pub returns-in-Changed : goal.returns-in-Changed
unfolding is_change class_is
returns-in-Changed c = rw c.in-Changed.is

pub returns-in_default : goal.returns-in_default
returns-in_default c = not-changed c.args.class c.in_default.not-Changed
