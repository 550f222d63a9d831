-- `sparse_reading::check_numbers`: each flag is `all` of the tests of the rows so far. Assumes nothing.
use Rattle.std.proofs.Common.{ℕ, List, [], ◌∷◌, Bool, ltb, ◌≡◌}
use Rattle.integer.specs.Index.{all}
use Rattle.model.specs.Checks.{in_range}
use Rattle.model.specs.Limits.{max_coef, max_rhs, min_coef, min_rhs}
use Rattle.sparse_layout.specs.SparseBook.{row_in, row_start}
use Rattle.sparse_reading.proofs.check_numbers.Given as goal

-- the tests of row i
abbrev pub coefs-test : ℕ → List ℕ → ℕ → Bool
coefs-test n bs i = in_range min_coef max_coef (row_in n bs (row_start n bs i)).coefs

abbrev pub rhs-test : ℕ → List ℕ → ℕ → Bool
rhs-test n bs i = in_range min_rhs max_rhs ((row_in n bs (row_start n bs i)).rhs ∷ [])

abbrev pub kind-test : ℕ → List ℕ → ℕ → Bool
kind-test n bs i = ltb (row_in n bs (row_start n bs i)).kind 2

abbrev pub invariant-loop-i : goal.invariant-loop-i
invariant-loop-i l = record {
  starts : l.p ≡ row_start l.n l.book l.i;
  coefs_in : l.coefs ≡ all l.i (coefs-test l.n l.book);
  rhs_in : l.rhs ≡ all l.i (rhs-test l.n l.book);
  kinds_in : l.kinds ≡ all l.i (kind-test l.n l.book);
}
