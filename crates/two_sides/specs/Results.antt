-- What the enums and structs that the code returns stand for in the semantics, and what its inner functions ask for.
use Rattle.std.specs.Prelude.{◌*◌, ◌<◌, ◌≤◌, ℕ, ℤ, length, take, List, ◌≡◌}
use Rattle.model.specs.Box.{is_empty}
use Rattle.model.specs.Limits.{max_variables}
use Rattle.model.specs.Valid.{ValidBox, ValidTable}
use Rattle.semantics.specs.Probe as semantic
use Rattle.semantics.specs.Propagate as ended
use Rattle.propagation.specs.Results.{propagation_of}
use Rattle.propagation.specs.declared.Propagation.{Propagation}
use Rattle.two_sides.specs.declared.Side.{Side}
use Rattle.two_sides.specs.declared.Probing.{Probing}
use Rattle.two_sides.specs.declared.Probing.TheVariants as probing

unfoldable pub report_of : Side → semantic.Side
report_of s = record { passes = s.passes; spent = s.spent; moved = s.moved }

-- 01's None, Fixed, Both with their numbers, and the box and table that are left
unfoldable pub probing_of : Probing → List ℤ → List ℕ → semantic.Probed
probing_of (probing.Infeasible s0 s1) B t =
    record { ending = semantic.infeasible; side0 = report_of s0; side1 = report_of s1; box = B; table = t }
probing_of (probing.Fixed v s0 s1) B t =
    record { ending = semantic.fixed v; side0 = report_of s0; side1 = report_of s1; box = B; table = t }
probing_of (probing.BothFeasible a s0 s1) B t =
    record { ending = semantic.both_feasible a; side0 = report_of s0; side1 = report_of s1; box = B; table = t }

unfoldable pub table_of : List ℕ → ℕ → semantic.Table
table_of t a = record { bytes = t; added = a }

-- variables k and j of a table of 4n² bytes
pub record Recordable (n k j : ℕ) (t : List ℕ) : Type 0 where
  pub few : n ≤ max_variables
  pub variable : k < n
  pub other : j < n
  pub len : length t ≡ 4 * (n * n)

-- two sides of k that were propagated, in buffers that may be longer than a box
pub record Joinable (n k : ℕ) (s0 s1 : Propagation) (zero one B : List ℤ) (t : List ℕ) : Type 0 where
  pub few : n ≤ max_variables
  pub variable : k < n
  pub box_len : length B ≡ 2 * n
  pub room0 : 2 * n ≤ length zero
  pub room1 : 2 * n ≤ length one
  pub valid0 : ValidBox n (take (2 * n) zero)
  pub none0 : ended.is_none (propagation_of s0 (take (2 * n) zero)).ending ≡ is_empty n (take (2 * n) zero)
  pub table : ValidTable n t
