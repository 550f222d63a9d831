-- `book_writing::are_inequalities`: the flag is `all` of the tests made so far. Assumes nothing.
use Rattle.std.proofs.Common.{ℕ, get_or, eqb, Bool, not, List, ◌≡◌}
use Rattle.integer.specs.Index.{all}
use Rattle.book_writing.proofs.are_inequalities.Given as goal

abbrev pub test : List ℕ → ℕ → Bool
test K i = not (eqb (get_or K i 0) 1)

abbrev pub invariant-loop-kind : goal.invariant-loop-kind
invariant-loop-kind l = l.ok ≡ all l.kind-index (test l.kinds)
