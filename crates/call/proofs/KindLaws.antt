-- A number that is none of the five is no kind. Assumes nothing.
use Prim.Native.Nat.{ℕ}
use lib.Dec.{eqb}
use mathlib.Core.Path.{◌≡◌}
use Rattle.integer.proofs.Tests.{eqb-test, test-false}
use Rattle.semantics.specs.Call.{kind_of, unknown}

pub kind-other : (k : ℕ) → (k ≡ 1 → ⊥) → (k ≡ 2 → ⊥) → (k ≡ 3 → ⊥) → (k ≡ 4 → ⊥) → (k ≡ 5 → ⊥) → kind_of k ≡ unknown
unfolding kind_of
kind-other k a b c d e = rw (
  test-false (eqb k 1) (eqb-test k 1) a,
  test-false (eqb k 2) (eqb-test k 2) b,
  test-false (eqb k 3) (eqb-test k 3) c,
  test-false (eqb k 4) (eqb-test k 4) d,
  test-false (eqb k 5) (eqb-test k 5) e,
)
