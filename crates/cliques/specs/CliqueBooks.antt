-- Worked lines of clique rows, by `refl` (proved as `clique-books-hold`).
use Rattle.std.specs.Prelude.{◌*◌, ◌-◌, ℕ, negsuc, pos, ℤ, replicate, set, List, [], ◌++◌, ◌∷◌, ◌≡◌}
use Rattle.model.specs.Point.{RowHolds}
use Rattle.semantics.specs.Books.{Line, is, probe_call}
use Rattle.semantics.specs.Probe.{byte_of}
use Rattle.semantics.specs.Run.{run}
use Rattle.semantics.specs.WorkedBooks.{clique}
use Rattle.call_laws.specs.Points.{TableHolds}
use Rattle.cliques.specs.CliqueCall.{CliquesPerformed, perform_cliques, refused, written}
use Rattle.cliques.specs.Cliques.{CliqueRows, clique_rows, cliques, opposite}

-- a table of n variables that joins p to each literal of qs, over the table t
unfoldable pub joining : ℕ → ℕ → List ℕ → List ℕ → List ℕ
joining n p [] t = t
joining n p (q ∷ qs) t = set (set (joining n p qs t) (byte_of n p (opposite q)) 1) (byte_of n q (opposite p)) 1

unfoldable pub unjoined : ℕ → List ℕ
unjoined n = replicate (4 * (n * n)) 0

-- a few rows, and then zeros up to 2n
unfoldable pub padded : ℕ → ℕ → List ℤ → List ℤ → CliqueRows
padded n k C R = record { number = k; coefs = C ++ replicate (2 * n * n - k * n) (pos 0); rhs = R ++ replicate (2 * n - k) (pos 0) }

-- a lent list that is all 7
unfoldable pub sevens : ℕ → List ℤ
sevens k = replicate k (pos 7)

-- the call on one variable, with the table t
unfoldable pub refused_by : ℕ → CliquesPerformed
refused_by number = record { answer = refused number; coefs = sevens 2; rhs = sevens 2 }

unfoldable pub clique_books : List Line
clique_books =
    -- "000's example must give the one row over its first three variables."
    is (clique_rows 4 (run clique (probe_call clique 0 1000 ∷ probe_call clique 1 1000 ∷ probe_call clique 2 1000 ∷ probe_call clique 3 1000 ∷ [])).table)
    (padded 4 1 (pos 1 ∷ pos 1 ∷ pos 1 ∷ pos 0 ∷ []) (pos 1 ∷ []))
    -- joins 1-3-5 and 3-5-7: two rows, the second first grown from 7
    ∷ is (clique_rows 4 (joining 4 1 (3 ∷ 5 ∷ []) (joining 4 3 (5 ∷ 7 ∷ []) (joining 4 5 (7 ∷ []) (unjoined 4)))))
    (padded 4 2 (pos 1 ∷ pos 1 ∷ pos 1 ∷ pos 0 ∷ pos 0 ∷ pos 1 ∷ pos 1 ∷ pos 1 ∷ []) (pos 1 ∷ pos 1 ∷ []))
    -- four literals, all joined: one row; were literals below the start not tried, 3-5-7 would be a second one
    ∷ is (clique_rows 4 (joining 4 1 (3 ∷ 5 ∷ 7 ∷ []) (joining 4 3 (5 ∷ 7 ∷ []) (joining 4 5 (7 ∷ []) (unjoined 4)))))
    (padded 4 1 (pos 1 ∷ pos 1 ∷ pos 1 ∷ pos 1 ∷ []) (pos 1 ∷ []))
    -- 0, 2 and 5: two variables meant at 0
    ∷ is (clique_rows 3 (joining 3 0 (2 ∷ 5 ∷ []) (joining 3 2 (5 ∷ []) (unjoined 3)))) (padded 3 1 (negsuc 0 ∷ negsuc 0 ∷ pos 1 ∷ []) (negsuc 0 ∷ []))
    -- two joined literals: no row
    ∷ is (cliques 3 (joining 3 1 (3 ∷ []) (unjoined 3))) []
    -- a table from elsewhere that says everything: 0-2-4, 1-2-4, 3-0-4 and 5-0-2
    ∷ is (clique_rows 3 (replicate 36 1))
    (padded 3 4 (negsuc 0 ∷ negsuc 0 ∷ negsuc 0 ∷ pos 1 ∷ negsuc 0 ∷ negsuc 0 ∷ negsuc 0 ∷ pos 1 ∷ negsuc 0 ∷ negsuc 0 ∷ negsuc 0 ∷ pos 1 ∷ [])
    (negsuc 1 ∷ negsuc 0 ∷ negsuc 0 ∷ negsuc 0 ∷ []))
    -- the lent list is written whole
    ∷ is (perform_cliques 1 (unjoined 1) (sevens 2) (sevens 2)) (record { answer = written 0; coefs = replicate 2 (pos 0); rhs = replicate 2 (pos 0) })
    -- 3 no variable, before 5; 5 the table, the list, before 10; 10 a byte that is neither 0 nor 1
    ∷ is (perform_cliques 0 (unjoined 1) (sevens 2) (sevens 2)) (refused_by 3)
    ∷ is (perform_cliques 1 (2 ∷ []) (sevens 2) (sevens 2)) (refused_by 5)
    ∷ is (perform_cliques 1 (2 ∷ 0 ∷ 0 ∷ 0 ∷ []) (sevens 2) (sevens 3)) (record { answer = refused 5; coefs = sevens 2; rhs = sevens 3 })
    ∷ is (perform_cliques 1 (0 ∷ 0 ∷ 0 ∷ 2 ∷ []) (sevens 2) (sevens 2)) (refused_by 10)
    ∷ is (perform_cliques 2 (unjoined 2) (sevens 2) (sevens 2)) (refused_by 5)
    ∷ []

-- x0, x1 and x2 at 1 all joined, in a table that no call filled; at (2, 2, 2) each of its implications holds, as no first literal is
-- true there, and the clique row does not (`foreign-row-fails`). So the row needs `TableBinary` beside `TableHolds`.
unfoldable pub foreign_table : List ℕ
foreign_table = joining 3 1 (3 ∷ 5 ∷ []) (joining 3 3 (5 ∷ []) (unjoined 3))

unfoldable pub twos : List ℤ
twos = pos 2 ∷ pos 2 ∷ pos 2 ∷ []

unfoldable pub three_ones : List ℤ
three_ones = pos 1 ∷ pos 1 ∷ pos 1 ∷ []

pub record ForeignRowFails : Type 0 where
  pub row : clique_rows 3 foreign_table ≡ padded 3 1 three_ones (pos 1 ∷ [])
  pub holds : TableHolds 3 foreign_table twos
  pub fails : RowHolds 3 three_ones (pos 1) twos → ⊥
