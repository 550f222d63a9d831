-- `plan_passes::pass_limit`: the invariant says that the sum is the limit of the records so far, and at most 2³³ for each.
use Prim.Native.Nat.{◌*◌, ◌≤◌}
use mathlib.Core.Path.{◌≡◌}
use Rattle.demands.specs.Passes.{limit_to}
use Rattle.plan_passes.proofs.pass_limit.Given as goal

abbrev pub invariant-loop-i : goal.invariant-loop-i
invariant-loop-i l = (l.sum ≡ limit_to l.width l.i l.calls) × (l.sum ≤ l.i * 8_589_934_592)
