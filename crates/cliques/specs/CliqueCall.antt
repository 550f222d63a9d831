-- The call that writes the clique rows: its checks, its answer, and the lent list afterwards.
use Rattle.std.specs.Prelude.{◌*◌, ℕ, eqb, ℤ, length, cond, List, ◌++◌, ◌∷◌}
use Rattle.model.specs.Checks.{Check, first, must, size_checks, table, table_byte_checks, table_length_checks}
use Rattle.cliques.specs.Cliques.{clique_rows}

-- 3 of n alone: there is no m, and no rows are not too many. 5 of the table, and of the coefficients and right sides of "a lent list
-- of 2n rows". Then 10 of the table's bytes.
unfoldable pub clique_checks : ℕ → List ℕ → List ℤ → List ℤ → List Check
clique_checks n t C R =
    size_checks n 0
    ++ (table_length_checks n (table t) ++ (must (eqb (length C) (2 * n * n)) 5 ∷ must (eqb (length R) (2 * n)) 5 ∷ table_byte_checks (table t)))

-- refused by a check's number; or so many rows written
pub data CliqueAnswer : Type 0 where
  refused : ℕ → CliqueAnswer
  written : ℕ → CliqueAnswer

-- the answer, and the lent list
pub record CliquesPerformed : Type 0 where
  pub answer : CliqueAnswer
  pub coefs : List ℤ
  pub rhs : List ℤ

unfoldable pub perform_cliques : ℕ → List ℕ → List ℤ → List ℤ → CliquesPerformed
perform_cliques n t C R =
    let fault = first (clique_checks n t C R) in
    let r = clique_rows n t in
    cond (eqb fault 0) (record { answer = written r.number; coefs = r.coefs; rhs = r.rhs }) (record { answer = refused fault; coefs = C; rhs = R })
