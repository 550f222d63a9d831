-- `rest::hull_is`: the loop passes the variables whose bounds are the hull's. Assumes nothing.
use Rattle.std.proofs.Common.{◌≡◌, ℕ, ◌<◌}
use Rattle.integer.specs.Order.{max_z, min_z}
use Rattle.model.specs.Box.{lower, upper}
use Rattle.rest.proofs.hull_is.Given as goal

abbrev pub invariant-loop-j : goal.invariant-loop-j
invariant-loop-j l =
    (k : ℕ) → k < l.j → (min_z (lower l.zero k) (lower l.one k) ≡ lower l.bounds k) × (max_z (upper l.zero k) (upper l.one k) ≡ upper l.bounds k)
