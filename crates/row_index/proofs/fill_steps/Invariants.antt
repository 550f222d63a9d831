-- `row_index::fill_steps`: the invariant says that the steps from variable j on are good, and that the step to variable j - 1
-- passes over zeros. Assumes nothing.
use Rattle.std.proofs.Common.{◌≡◌, ℕ, ◌+◌, ◌<◌, ◌≤◌, ◌⊎◌, get_or, pos}
use Rattle.model.specs.Box.{at}
use Rattle.row_index.specs.Index.{GoodStep}
use Rattle.row_index.proofs.fill_steps.Given as goal

abbrev pub invariant-loop-j : goal.invariant-loop-j
invariant-loop-j l =
    (0 < l.gap)
    × (l.j + l.gap ≤ l.n + 1)
    × ((k : ℕ) → l.j ≤ k → k + 1 < l.j + l.gap → at l.coefs (l.start + k) ≡ pos 0)
    × ((i : ℕ) → l.j ≤ i → i < l.n → GoodStep l.n l.coefs l.start l.across i)
    × ((q : ℕ) → (q < l.start) ⊎ (l.start + l.n ≤ q) → get_or l.across q 0 ≡ get_or l.initial.across q 0)
