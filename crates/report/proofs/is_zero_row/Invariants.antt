-- `report::is_zero_row`: the coefficients that are passed are 0.
use Rattle.std.proofs.Common.{◌≡◌, ℕ, ◌<◌, pos}
use Rattle.model.specs.Box.{at}
use Rattle.report.proofs.is_zero_row.Given as goal

abbrev pub invariant-loop-coef : goal.invariant-loop-coef
invariant-loop-coef l = (i : ℕ) → i < l.coef-index → at l.coefs i ≡ pos 0
